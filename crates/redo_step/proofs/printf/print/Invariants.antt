use Rattle.std.proofs.Common.{length}
use Rattle.redo_step.specs.Formats.{formatted}
use Rattle.redo_step.proofs.RoundLemmas.{Rounds}
use Rattle.redo_step.proofs.printf.print.Given as goal

abbrev pub invariant-loop-left : goal.invariant-loop-left
invariant-loop-left l = Rounds l.pieces l.left (formatted l.pieces l.fn.texts) l.fn.sink l.sink

abbrev pub decreases-loop-left : goal.decreases-loop-left
decreases-loop-left l = length l.left
