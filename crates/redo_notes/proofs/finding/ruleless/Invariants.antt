use Rattle.std.proofs.Common.{◌≡◌, filter, map, take}
use Rattle.redo_book.specs.Book.{record_of, targets_of}
use Rattle.redo_notes.specs.Notes.{is_ruleless}
use Rattle.redo_notes.proofs.finding.ruleless.Given as goal

-- the targets of those of the records so far that have a generated file and no rule
abbrev pub invariant-loop-made : goal.invariant-loop-made
invariant-loop-made l =
    l.paths.items ≡ targets_of (filter (is_ruleless l.past) (map record_of (take l.made-index l.made-items)))
