-- What the layers below say of a build: which paths are sources, and how far a target comes with given answers.
use Rattle.std.specs.Prelude.{◌≡◌, ℕ, Bool, true, false, List, [], None}
use Rattle.redo_record.specs.Progress as asked
use Rattle.redo_record.specs.Paths.{IsAmong}
use Rattle.redo_record.specs.Progress.{Gains, IsLawful, Progress}
pub use Rattle.redo_record.specs.Progress.{changed}
use Rattle.redo_record.specs.Answers.{Ask as Answers}
use Rattle.redo_record.specs.declared.deps.Dep.{Dep}

-- the known answers: the outcome of each path that has one
abbrev pub Ask : Type 0
Ask = Answers

-- a tree and its limits, as the layers below see them
pub record Rules : Type 0 where
  pub is_source : List ℕ → Bool
  pub has_rule : List ℕ → Bool
  -- how far a path that is no source comes with these answers; `deps` is everything that it asked for
  pub progress : List ℕ → Ask → Progress
  -- whether the script of a target with a rule is begun, given these answers
  pub begins : List ℕ → Ask → Bool
  -- its record, given these answers
  pub recorded : List ℕ → Ask → List Dep

-- the paths that these entries wait for
abbrev pub operands : Rules → List Dep → List (List ℕ)
operands r deps = asked.operands r.is_source deps

-- what a target asks for, given these answers
abbrev pub asked_under : Rules → List ℕ → Ask → List (List ℕ)
asked_under r p ask = operands r (r.progress p ask).deps

-- b has every answer that a has, except to sources
abbrev pub Extends : Rules → Ask → Ask → Type 0
Extends r a b = Gains r.is_source a b

-- how a target may depend on answers
pub record AreLawful (r : Rules) : Type 0 where
  -- its progress keeps the laws of progress
  pub each : (p : List ℕ) → IsLawful r.is_source (r.progress p)
  -- without a rule, a target asks for nothing and ends at once
  pub unruled : (p : List ℕ) (a : Ask) → r.has_rule p ≡ false →
      (asked_under r p a ≡ []) × ((r.progress p a).outcome ≡ None → ⊥)
  -- whether it is begun depends only on the answers to what it asks for
  pub begins_local : (p : List ℕ) (a b : Ask) →
      ((q : List ℕ) → IsAmong (asked_under r p a) q → a q ≡ b q) → r.begins p a ≡ r.begins p b
  -- so does its record
  pub recorded_local : (p : List ℕ) (a b : Ask) →
      ((q : List ℕ) → IsAmong (asked_under r p a) q → a q ≡ b q) → r.recorded p a ≡ r.recorded p b
  -- once begun, it stays begun with more answers
  pub begins_stays : (p : List ℕ) (a b : Ask) → Extends r a b → r.begins p a ≡ true → r.begins p b ≡ true
  -- while one of its answers is missing, others don't change whether it is begun
  pub begins_waits : (p q : List ℕ) (a b : Ask) → Extends r a b →
      IsAmong (asked_under r p a) q → b q ≡ None → r.begins p b ≡ r.begins p a
