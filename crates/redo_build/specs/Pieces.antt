-- How far a target comes once its check and its script have stopped `turn` times in all. Each time it goes on with the
-- answers to what it has asked for.
use Rattle.std.specs.Prelude.{◌≡◌, ℕ, Bool, true, false, zero, suc, ◌+◌, ◌<◌, List, [], None}
use Rattle.redo_record.specs.Paths.{IsAmong}
use Rattle.redo_record.specs.Progress.{Progress}
use Rattle.redo_build.specs.Rules.{Ask, Rules, operands}
use Rattle.redo_build.specs.Outcomes.{outcome_at}
use Rattle.redo_build.specs.Schedule.{only}
use Rattle.redo_record.specs.declared.deps.Dep.{Dep}

-- what a target has asked for once it has stopped `turn` times
abbrev pub deps_at_turn : Rules → List ℕ → Ask → ℕ → List Dep
deps_at_turn r p a zero = []
deps_at_turn r p a (suc turn) = (r.progress p (only (operands r (deps_at_turn r p a turn)) a)).deps

-- how far it comes when it goes on from there
abbrev pub progress_at_turn : Rules → List ℕ → Ask → ℕ → Progress
progress_at_turn r p a turn = r.progress p (only (operands r (deps_at_turn r p a turn)) a)

-- the target stopped `turn` times, and before each stop it had every answer that it had asked for
pub record CameTo (r : Rules) (p : List ℕ) (a : Ask) (turn : ℕ) : Type 0 where
  pub answered : (k : ℕ) (q : List ℕ) → k < turn → IsAmong (operands r (deps_at_turn r p a k)) q → a q ≡ None → ⊥
  pub stopped : (k : ℕ) → k < turn → (progress_at_turn r p a k).outcome ≡ None

-- whether its script is begun there
abbrev pub begins_at : Rules → List ℕ → Ask → ℕ → Bool
begins_at r p a turn = r.begins p (only (operands r (deps_at_turn r p a turn)) a)

-- its script is begun after exactly `looks` stops of its check
pub record IsBegunAt (r : Rules) (p : List ℕ) (a : Ask) (looks : ℕ) : Type 0 where
  pub in_check : (k : ℕ) → k < looks → begins_at r p a k ≡ false
  pub begun : begins_at r p a looks ≡ true

-- at this turn the script of a target comes as far as `now`, given outcomes of the build
pub record IsPiece (r : Rules) (p : List ℕ) (turn : ℕ) (now : Progress) : Type 0 where
  pub depth : ℕ
  pub looks : ℕ
  pub begun : IsBegunAt r p (outcome_at r depth) looks
  pub came : CameTo r p (outcome_at r depth) (looks + turn)
  pub fed : (q : List ℕ) → IsAmong (operands r (deps_at_turn r p (outcome_at r depth) (looks + turn))) q →
      outcome_at r depth q ≡ None → ⊥
  pub is : now ≡ progress_at_turn r p (outcome_at r depth) (looks + turn)
