use Rattle.std.proofs.Common.{◌≡◌, ◌∷◌, filter, map, take}
use Rattle.redo_book.specs.Book.{record_of, targets_of}
use Rattle.redo_past.specs.Past.{is_generated}
use Rattle.redo_which.specs.Candidates.{book_path}
use Rattle.redo_past.proofs.past.set_aside.Given as goal

-- the book's path, and those of the generated files so far
abbrev pub invariant-loop-record : goal.invariant-loop-record
invariant-loop-record l =
    l.paths.items ≡ book_path ∷ targets_of (filter (is_generated l.tree) (map record_of (take l.record-index l.record-items)))
