use Rattle.std.proofs.Common.{◌≡◌, ℕ, List, map, take}
use Rattle.redo_names.specs.Paths.{is_among}
use Rattle.redo_rings.specs.inside.Graph.{cyclic_among}
use Rattle.redo_rings.proofs.graph.cyclic_targets.Given as goal

abbrev pub invariant-loop-row : goal.invariant-loop-row
invariant-loop-row l =
    (p : List ℕ) → is_among l.names p ≡ is_among (map (λ row. row.path) (cyclic_among (take l.row-index l.rows))) p
