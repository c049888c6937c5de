-- What the inside of `drive` keeps: the works that are out, and what one pick does to them.
use Rattle.std.specs.Prelude.{◌≡◌, ℕ, Bool, true, false, List, [], ◌∷◌, None, MatchOption}
use Rattle.redo_record.specs.Paths.{IsAmong}
use Rattle.redo_build.specs.Schedule.{IsOutAt}
use Rattle.redo_core.specs.Taken.{HasTaken}
use Rattle.redo_core.specs.Views.{BoardView, WorkView, rules_on}
use Rattle.redo_run.specs.Picks.{IsBehind, driven_on, picked, targets_of}
use Rattle.redo_run.specs.declared.picks.Pick.{Pick}

-- the work is of the board's build, and its target is out at its turn
pub record IsOutOn (board : BoardView) (work : WorkView) : Type 0 where
  pub given : work.given ≡ board.given
  pub is_out : IsOutAt board.state work.target work.turn

-- takes, hand-ins and looks led to the state of the board
abbrev pub HasCome : BoardView → Type 0
HasCome board = (taken : List (List ℕ × ℕ)) × HasTaken board taken

-- all of these works are out, each of a different target
abbrev pub AreOut : BoardView → List WorkView → Type 0
AreOut board [] = Unit {0}
AreOut board (work ∷ works) = IsOutOn board work × (IsAmong (targets_of works) work.target → ⊥) × AreOut board works

-- the pick was done and the board has looked, or the pick isn't open and changed nothing
abbrev pub IsPicked : Pick → BoardView → List WorkView → BoardView → List WorkView → Bool → Type 0
IsPicked pick old works new after true =
    MatchOption (picked (rules_on old) (driven_on old works) pick) ⊥ (λ at.
    IsBehind (rules_on old) pick at (driven_on new after))
IsPicked pick old works new after false =
    (picked (rules_on old) (driven_on old works) pick ≡ None) × (new ≡ old) × (after ≡ works)
