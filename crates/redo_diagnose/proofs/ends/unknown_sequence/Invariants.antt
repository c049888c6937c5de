use Rattle.std.proofs.Common.{length}
use Rattle.redo_diagnose.proofs.ends.unknown_sequence.Given as goal

abbrev pub decreases-loop-rest : goal.decreases-loop-rest
decreases-loop-rest l = length l.rest
