use Rattle.std.proofs.Common.{◌≡◌, filter, take}
use Rattle.redo_notes.specs.Notes.{is_within}
use Rattle.redo_notes.proofs.finding.shadowed_within.Given as goal

-- those of the paths so far that stand at or below one of the places
abbrev pub invariant-loop-path : goal.invariant-loop-path
invariant-loop-path l = l.within.items ≡ filter (is_within l.places) (take l.path-index l.path-items)
