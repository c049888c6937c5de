use Rattle.redo_alike.specs.inside.Walks.{AreSeen}
use Rattle.redo_alike.proofs.order.next_unseen.Given as goal

abbrev pub invariant-loop-place : goal.invariant-loop-place
invariant-loop-place l = AreSeen l.needs l.seen l.from l.place
