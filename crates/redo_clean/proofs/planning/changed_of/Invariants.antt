use Rattle.std.proofs.Common.{◌≡◌, filter, map, take}
use Rattle.redo_book.specs.Book.{record_of, targets_of}
use Rattle.redo_clean.specs.Planned.{is_changed}
use Rattle.redo_clean.proofs.planning.changed_of.Given as goal

-- the targets of those of the records so far whose files were changed
abbrev pub invariant-loop-made : goal.invariant-loop-made
invariant-loop-made l =
    l.paths.items ≡ targets_of (filter (is_changed l.past.tree) (map record_of (take l.made-index l.made-items)))
