use Rattle.std.proofs.Common.{◌≡◌, ℕ, List, take}
use Rattle.redo_names.specs.Paths.{is_among}
use Rattle.redo_notes.specs.Notes.{is_asked}
use Rattle.redo_notes.proofs.asked.asked_by.Given as goal

-- what was asked for by the rows so far
abbrev pub invariant-loop-row : goal.invariant-loop-row
invariant-loop-row l = (path : List ℕ) → is_among l.asked path ≡ is_asked l.request (take l.row-index l.rows) path
