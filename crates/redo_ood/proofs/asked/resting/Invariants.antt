use Rattle.redo_step.specs.Limits.{LimitsView}
use Rattle.redo_ood.specs.Listing.{run_over}
use Rattle.redo_ood.specs.inside.Resting.{AreFound}
use Rattle.redo_ood.proofs.asked.resting.Given as goal

-- the paths before this one were followed
abbrev pub invariant-loop-number : goal.invariant-loop-number
invariant-loop-number l = (limits : LimitsView) → AreFound (run_over l.past l.request limits) l.found l.number
