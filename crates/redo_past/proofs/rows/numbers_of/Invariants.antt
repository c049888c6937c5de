use Rattle.std.proofs.Common.{◌≡◌, map, take}
use Rattle.redo_past.proofs.rows.numbers_of.Given as goal

-- the paths of the rows so far
abbrev pub invariant-loop-row : goal.invariant-loop-row
invariant-loop-row l = l.numbers ≡ map (λ row. row.path) (take l.row-index l.rows)
