use Rattle.redo_alike.specs.inside.Heights.{AreRaised}
use Rattle.redo_alike.proofs.heights.all_heights.Given as goal

abbrev pub invariant-loop-number : goal.invariant-loop-number
invariant-loop-number l = AreRaised l.nodes l.order l.known.items l.number-index
