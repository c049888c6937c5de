use Rattle.std.proofs.Common.{◌≡◌, ◌++◌, drop, flat_map}
use Rattle.redo_names.specs.Paths.{is_among}
use Rattle.redo_short.specs.Short.{row_lines}
use Rattle.redo_short.proofs.lines.push_rows.Given as goal

-- the lines so far, with those that are left, are all
abbrev pub invariant-loop-row : goal.invariant-loop-row
invariant-loop-row l =
    l.text.items ++ flat_map (row_lines (is_among l.begun)) (drop l.row-index l.rows)
    ≡ l.initial.text.items ++ flat_map (row_lines (is_among l.begun)) l.rows
