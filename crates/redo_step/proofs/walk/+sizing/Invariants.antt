use Rattle.std.proofs.Common.{◌≡◌, ◌+◌, ◌*◌, take}
use Rattle.redo_script.specs.Syntax.{finish}
use Rattle.redo_script.specs.View.{script_of, before}
use Rattle.redo_step.proofs.WeightLemmas.{weight}
use Rattle.redo_step.specs.Ends.{size}
use Rattle.redo_step.proofs.walk.+sizing.Given as goal

abbrev pub decreases-size_of : goal.decreases-size_of
decreases-size_of l = 2 * weight (script_of l.stmts.now) + 1

abbrev pub decreases-size_of_one : goal.decreases-size_of_one
decreases-size_of_one l = 2 * weight (before l.stmt.now finish)

abbrev pub invariant-size_of-loop-stmt : goal.invariant-size_of-loop-stmt
invariant-size_of-loop-stmt l = l.count ≡ size (script_of (take l.stmt-index l.stmts))
