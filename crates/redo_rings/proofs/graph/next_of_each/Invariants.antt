use Rattle.std.proofs.Common.{◌≡◌, ◌<◌, ℕ, [], Some, None, length}
use Rattle.redo_rings.specs.inside.Graph.{asks_at}
use Rattle.redo_rings.specs.inside.Walks.{IsIn, next_at}
use Rattle.redo_rings.proofs.graph.next_of_each.Given as goal

abbrev pub invariant-loop-number : goal.invariant-loop-number
invariant-loop-number l =
    (length l.next.items ≡ l.number)
    × ((k n : ℕ) → next_at l.next.items k ≡ Some n → IsIn (asks_at l.table k) n)
    × ((k : ℕ) → k < l.number → next_at l.next.items k ≡ None → asks_at l.table k ≡ [])
