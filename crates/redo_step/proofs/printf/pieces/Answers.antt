use Rattle.std.proofs.Common.{ap, ◌∙◌}
use Rattle.redo_step.specs.Formats.{pieces_of}
use Rattle.redo_step.proofs.FormatLemmas.{piece_goes}
use Rattle.redo_step.proofs.printf.pieces.Goals as goal

pub loop-first-preserved : goal.loop-first-preserved
loop-first-preserved c =
    piece_goes c.loop-first.pieces.items _ c.in-Some-piece_at.piece c.loop-first.rest.now c.in-Some-piece_at.after.now _ c.loop-first.invariant (ap pieces_of c.in-Some.ensures.cases.0 ∙ c.in-Some-piece_at.ensures.some) c.in_ok-push.ensures.items
