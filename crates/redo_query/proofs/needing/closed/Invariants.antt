use Rattle.std.proofs.Common.{map}
use Rattle.redo_book.specs.Book.{record_of}
use Rattle.redo_query.specs.inside.Found.{AllNeed}
use Rattle.redo_query.proofs.needing.closed.Given as goal

-- all that was found needs the path
abbrev pub invariant-loop : goal.invariant-loop
invariant-loop l = AllNeed (map record_of l.records) l.path l.found
