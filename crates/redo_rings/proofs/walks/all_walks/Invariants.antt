use Rattle.std.proofs.Common.{◌≡◌, ◌<◌, ℕ, true}
use Rattle.redo_rings.specs.inside.Walks.{IsKnown, seen_at}
use Rattle.redo_rings.proofs.walks.all_walks.Given as goal

abbrev pub invariant-loop-start : goal.invariant-loop-start
invariant-loop-start l =
    IsKnown l.next l.walks.seen.items l.walks.places.items l.walks.circles.items
    × ((n : ℕ) → n < l.start → seen_at l.walks.seen.items n ≡ true)
