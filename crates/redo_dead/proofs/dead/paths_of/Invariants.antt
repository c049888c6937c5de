use Rattle.std.proofs.Common.{◌≡◌, List, ℕ, map, take}
use Rattle.redo_names.specs.Paths.{is_among}
use Rattle.redo_dead.proofs.dead.paths_of.Given as goal

-- the paths of the rows so far
abbrev pub invariant-loop-row : goal.invariant-loop-row
invariant-loop-row l = (p : List ℕ) → is_among l.paths p ≡ is_among (map (λ row. row.path) (take l.row-index l.rows)) p
