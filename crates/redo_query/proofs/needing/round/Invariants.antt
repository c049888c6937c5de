use Rattle.std.proofs.Common.{◌≡◌, false, map, take}
use Rattle.redo_book.specs.Book.{record_of}
use Rattle.redo_query.specs.inside.Found.{AllNeed, IsClosed}
use Rattle.redo_query.proofs.needing.round.Given as goal

-- all that was found needs the path, and where nothing was new the records so far are closed
abbrev pub invariant-loop-made : goal.invariant-loop-made
invariant-loop-made l = record {
  need : AllNeed (map record_of l.records) l.path l.fn.found → AllNeed (map record_of l.records) l.path l.found;
  closed : l.more ≡ false → IsClosed (map record_of (take l.made-index l.records)) l.path l.found;
}
