use Rattle.std.proofs.Common.{◌≡◌, ◌+◌, ◌*◌, ℕ, true, length}
use Rattle.redo_alike.specs.inside.Walks.{IsWalk, seen_at, unseen_count}
use Rattle.redo_alike.proofs.order.walk_from.Given as goal

abbrev pub invariant-loop-here : goal.invariant-loop-here
invariant-loop-here l =
    IsWalk l.nodes l.walk.seen.items l.walk.next.items l.walk.way.items l.walk.left.items
    × ((n : ℕ) → seen_at l.fn.walk.seen.items n ≡ true → seen_at l.walk.seen.items n ≡ true)
    × (seen_at l.walk.seen.items l.root ≡ true)

abbrev pub decreases-loop-here : goal.decreases-loop-here
decreases-loop-here l = 2 * unseen_count l.walk.seen.items + length l.walk.way.items
