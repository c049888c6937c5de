use Rattle.std.proofs.Common.{◌≡◌, ℕ, List, Some, length, map, slice_get, take, true}
use Rattle.std.specs.Prelude.{Contains}
use Rattle.redo_names.specs.Paths.{is_among}
use Rattle.redo_report.specs.declared.report.Row.{Row}
use Rattle.redo_rings.specs.inside.Graph.{IsNumbering, asks_at, cyclic_among}
use Rattle.redo_rings.proofs.graph.all_asks.Given as goal

abbrev pub invariant-loop-row : goal.invariant-loop-row
invariant-loop-row l =
    (length l.table.items ≡ length l.names)
    × ((k : ℕ) (p : List ℕ) → slice_get l.names k ≡ Some p →
    is_among (map (λ (row : Row). row.path) (cyclic_among (take l.row-index l.rows))) p ≡ true →
    (row : Row) × Contains (cyclic_among l.rows) row × (row.path ≡ p) × IsNumbering l.names (asks_at l.table.items k) row)
