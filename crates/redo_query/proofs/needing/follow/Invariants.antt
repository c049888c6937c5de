use Rattle.std.proofs.Common.{map}
use Rattle.redo_book.specs.Book.{record_of}
use Rattle.redo_query.specs.inside.Found.{AllNeed}
use Rattle.redo_query.proofs.needing.follow.Given as goal

-- all that was found needs the path
abbrev pub invariant-loop-at : goal.invariant-loop-at
invariant-loop-at l = AllNeed (map record_of l.records) l.path l.found
