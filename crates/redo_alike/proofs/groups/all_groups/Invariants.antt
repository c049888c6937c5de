use Rattle.redo_alike.specs.inside.Groups.{AreKeyed}
use Rattle.redo_alike.proofs.groups.all_groups.Given as goal

abbrev pub invariant-loop-number : goal.invariant-loop-number
invariant-loop-number l = AreKeyed l.nodes l.order l.known.items l.keys.keys l.number-index
