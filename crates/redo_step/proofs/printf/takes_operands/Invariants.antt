use Rattle.std.proofs.Common.{◌≡◌, drop}
use Rattle.redo_step.specs.Formats.{takes_operands}
use Rattle.redo_step.proofs.printf.takes_operands.Given as goal

abbrev pub invariant-loop-piece : goal.invariant-loop-piece
invariant-loop-piece l = takes_operands (drop l.piece-index l.pieces) ≡ takes_operands l.pieces
