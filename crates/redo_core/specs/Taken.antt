-- What a board has taken.
use Rattle.std.specs.Prelude.{◌≡◌, ℕ, List}
use Rattle.redo_build.specs.Schedule.{IsReached, opening}
use Rattle.redo_core.specs.Views.{BoardView, request_on, rules_on}
use Rattle.redo_build.specs.Takes.{takes}

-- the run that led to the board's state took these, in this order
pub record HasTaken (b : BoardView) (taken : List ((List ℕ) × ℕ)) : Type 0 where
  pub reached : IsReached (rules_on b) (request_on b) b.state
  pub is : taken ≡ takes (rules_on b) reached.events (opening (rules_on b) (request_on b))
