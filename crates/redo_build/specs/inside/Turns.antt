-- What the job of a target holds, and what a decided target says of the build.
use Rattle.std.specs.Prelude.{◌≡◌, ℕ, Bool, ◌&&◌, ◌+◌, List, Some, None}
use Rattle.redo_record.specs.Paths.{IsAmong}
use Rattle.redo_build.specs.Rules.{Rules, operands}
use Rattle.redo_build.specs.Outcomes.{outcome_at}
pub use Rattle.redo_build.specs.Pieces.{deps_at_turn, progress_at_turn, begins_at, CameTo, IsBegunAt, IsPiece}
use Rattle.redo_record.specs.declared.deps.Dep.{Dep}
use Rattle.redo_record.specs.declared.outcome.Outcome.{Outcome}

-- the job of a target at a turn of its script: what it has asked for so far, with outcomes of the build for all of it
pub record IsWork (r : Rules) (p : List ℕ) (turn : ℕ) (deps : List Dep) : Type 0 where
  pub depth : ℕ
  pub looks : ℕ
  pub begun : IsBegunAt r p (outcome_at r depth) looks
  pub came : CameTo r p (outcome_at r depth) (looks + turn)
  pub is : deps ≡ deps_at_turn r p (outcome_at r depth) (looks + turn)
  pub fed : (q : List ℕ) → IsAmong (operands r deps) q → outcome_at r depth q ≡ None → ⊥

-- a decided target: its outcome, what it asked for, its record and whether its script was begun are those of the build
-- at some depth
pub record IsFact (r : Rules) (p : List ℕ) (outcome : Outcome) (deps shown : List Dep) (is_begun : Bool) : Type 0 where
  pub depth : ℕ
  pub is : r.progress p (outcome_at r depth) ≡ record { outcome = Some outcome; deps = deps }
  pub recorded : shown ≡ r.recorded p (outcome_at r depth)
  pub begun : is_begun ≡ (r.has_rule p && r.begins p (outcome_at r depth))
