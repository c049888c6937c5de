use Rattle.std.proofs.Common.{◌≡◌, ◌⊎◌, Some, true}
use Rattle.redo_rings.specs.inside.Walks.{IsWay, seen_at, unseen_count}
use Rattle.redo_rings.proofs.walks.walk.Given as goal

abbrev pub invariant-loop-end : goal.invariant-loop-end
invariant-loop-end l =
    IsWay l.next l.initial.seen l.seen (Some l.start) l.numbers.items l.end
    × ((l.end ≡ Some l.start) ⊎ (seen_at l.seen l.start ≡ true))

abbrev pub decreases-loop-end : goal.decreases-loop-end
decreases-loop-end l = unseen_count l.seen
