use Rattle.redo_alike.specs.inside.Heights.{IsLeastAbove}
use Rattle.redo_alike.proofs.heights.height_above.Given as goal

abbrev pub invariant-loop-need : goal.invariant-loop-need
invariant-loop-need l = IsLeastAbove l.needs l.known l.need-index l.height
