-- How far a target has come, what it waits for, and the laws of its progress.
use Rattle.std.specs.Prelude.{List, Option, Some, ◌≡◌, Bool, false, not, None, filter_map, filter}
use Rattle.redo_record.specs.declared.deps.Dep.{Dep}
use Rattle.redo_record.specs.declared.deps.DepKind.TheVariants.{Change, Create, Always}
use Rattle.redo_record.specs.declared.outcome.Outcome.{Outcome}
use Rattle.redo_record.specs.Paths.{Path, AreDistinct, IsAmong}
use Rattle.redo_record.specs.Answers.{Ask}
use Rattle.redo_record.specs.declared.deps.DepKind.{DepKind}

-- how far a target has come: its outcome, if it has one, and its record
pub record Progress : Type 0 where
  pub outcome : Option Outcome
  pub deps : List Dep

-- the progress of a target whose outcome is known at once
abbrev pub at_once : Outcome → List Dep → Progress
at_once outcome deps = record { outcome = Some outcome; deps = deps }

-- the path of a change entry
abbrev pub changed : DepKind → Path → Option Path
changed Change p = Some p
changed Create p = None
changed Always p = None

-- the paths of the change entries
abbrev pub changes : List Dep → List Path
changes deps = filter_map (λ d. changed d.kind d.path) deps

-- the paths among these that are no sources: what the record waits for
abbrev pub operands : (source : Path → Bool) → List Dep → List Path
operands source deps = filter (λ p. not (source p)) (changes deps)

-- every answer of the first ask to a path that is no source is also one of the second
abbrev pub Gains : (Path → Bool) → Ask → Ask → Type 0
Gains source a b = (q : Path) (o : Outcome) → source q ≡ false → a q ≡ Some o → b q ≡ Some o

-- How a target's progress follows the answers.
pub record IsLawful (source : Path → Bool) (progress : Ask → Progress) : Type 0 where
  -- it depends on the answers to the paths that it asks for, and on no others
  pub local : (a b : Ask) → ((q : Path) → IsAmong (operands source (progress a).deps) q → a q ≡ b q) →
      progress a ≡ progress b
  -- once it has ended, it has every answer that it asked for
  pub answered : (q : Path) (a : Ask) (o : Outcome) → (progress a).outcome ≡ Some o →
      IsAmong (operands source (progress a).deps) q → a q ≡ None → ⊥
  -- until it has ended, it lacks an answer
  pub lacking : (a : Ask) → (progress a).outcome ≡ None →
      (q : Path) × IsAmong (operands source (progress a).deps) q × (a q ≡ None)
  -- with more answers it asks for no fewer paths
  pub grows : (q : Path) (a b : Ask) → Gains source a b → IsAmong (operands source (progress a).deps) q →
      IsAmong (operands source (progress b).deps) q
  -- it waits for all of its operands: while one lacks an answer, more answers don't change it
  pub waits : (q : Path) (a b : Ask) → Gains source a b → IsAmong (operands source (progress a).deps) q → b q ≡ None →
      progress b ≡ progress a
  -- it asks for each path once
  pub distinct : (a : Ask) → AreDistinct (operands source (progress a).deps)
