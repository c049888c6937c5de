use Rattle.std.proofs.Common.{◌≡◌, filter, map, take}
use Rattle.redo_notes.specs.Notes.{is_unmade}
use Rattle.redo_notes.proofs.finding.unmade.Given as goal

-- the paths of those of the rows so far that were built without a file where one stays
abbrev pub invariant-loop-row : goal.invariant-loop-row
invariant-loop-row l =
    l.paths.items ≡ map (λ row. row.path) (filter (is_unmade l.past.tree) (take l.row-index l.report.rows.items))
