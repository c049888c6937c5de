use Rattle.std.proofs.Common.{◌≡◌, ◌<◌, ℕ, [], true}
use Rattle.redo_alike.specs.inside.Walks.{IsWalk, seen_at}
use Rattle.redo_alike.proofs.order.post_order.Given as goal

abbrev pub invariant-loop-root : goal.invariant-loop-root
invariant-loop-root l =
    IsWalk l.nodes l.walk.seen.items l.walk.next.items [] l.walk.left.items
    × (l.walk.way.items ≡ [])
    × ((n : ℕ) → n < l.root → seen_at l.walk.seen.items n ≡ true)
