use Rattle.std.proofs.Common.{◌≡◌, length}
use Rattle.redo_step.specs.Formats.{pieces_of}
use Rattle.redo_step.proofs.FormatLemmas.{with_pieces}
use Rattle.redo_step.proofs.printf.pieces.Given as goal

abbrev pub invariant-loop-first : goal.invariant-loop-first
invariant-loop-first l = with_pieces l.pieces.items (pieces_of l.rest) ≡ pieces_of l.format

abbrev pub decreases-loop-first : goal.decreases-loop-first
decreases-loop-first l = length l.rest
