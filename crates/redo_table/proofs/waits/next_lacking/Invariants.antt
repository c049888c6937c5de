use Rattle.redo_table.specs.inside.Targets.{AreDecidedFrom}
use Rattle.redo_table.proofs.waits.next_lacking.Given as goal

abbrev pub invariant-loop-i : goal.invariant-loop-i
invariant-loop-i l = AreDecidedFrom l.targets l.on l.fn.from l.i
