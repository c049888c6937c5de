use Rattle.std.proofs.Common.{length}
use Rattle.redo_diagnose.proofs.near.differing.Given as goal

abbrev pub decreases-loop-left : goal.decreases-loop-left
decreases-loop-left l = length l.left

abbrev pub decreases-loop-left-2 : goal.decreases-loop-left-2
decreases-loop-left-2 l = length l.left
