-- The statements in which a place stands.
use Rattle.std.specs.Prelude.{ℕ, List, [], ◌∷◌, drop}
use Rattle.redo_script.specs.Syntax.{Script, finish, simple, choice, loop}
use Rattle.redo_step.specs.declared.place.Branch.{Branch}
use Rattle.redo_step.specs.declared.place.Branch.TheVariants.{First, Second}
use Rattle.redo_step.specs.declared.place.StopPlace.{StopPlace, Before, Within', InTurn'}
use Rattle.redo_step.specs.Place.{skip}
use Rattle.redo_step.specs.Setting.{Setting, with_value}

-- statements, and what they are run in
pub record Standing : Type 0 where
  pub setting : Setting
  pub script : Script

-- the statements of a branch of the first statement, where that is a choice
abbrev pub branch_of : Branch → Script → Script
branch_of branch finish = finish
branch_of branch (simple line c rest) = finish
branch_of First (choice line c first second rest) = first
branch_of Second (choice line c first second rest) = second
branch_of branch (loop line name ws body rest) = finish

-- the body of the first statement in the turn of the first of these values, where that is a loop
abbrev pub body_in : List (List ℕ) → Setting → Script → Standing
body_in [] setting script = record { setting = setting; script = finish }
body_in (value ∷ values) setting finish = record { setting = setting; script = finish }
body_in (value ∷ values) setting (simple line c rest) = record { setting = setting; script = finish }
body_in (value ∷ values) setting (choice line c first second rest) = record { setting = setting; script = finish }
body_in (value ∷ values) setting (loop line name ws body rest) =
    record { setting = with_value setting name value; script = body }

-- from a place on to the end of the statements round it
unfoldable pub stands_at : StopPlace → Setting → Script → Standing
stands_at (Before n) setting script = record { setting = setting; script = skip n script }
stands_at (Within' n branch p place) setting script = stands_at place setting (branch_of branch (skip n script))
stands_at (InTurn' n values turn p place) setting script =
    let here = body_in (drop turn values) setting (skip n script) in stands_at place here.setting here.script
