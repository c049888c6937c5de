use Rattle.std.proofs.Common.{◌≡◌, length}
use Rattle.redo_rings.proofs.graph.no_asks.Given as goal

abbrev pub invariant-loop-number : goal.invariant-loop-number
invariant-loop-number l = length l.table.items ≡ l._number
