use Rattle.std.proofs.Common.{◌++◌, List, filter, take}
use Rattle.redo_book.specs.Book.{Record}
use Rattle.redo_past.specs.inside.Books.{AreItems, carries}
use Rattle.redo_past.proofs.carrying.carry.Given as goal

-- behind the others stand those of the records so far that are carried
abbrev pub invariant-loop-old : goal.invariant-loop-old
invariant-loop-old l =
    (known : List Record) → AreItems (record { sources = l.past.sources; rows = l.rows }) l.fn.items.items known →
    AreItems (record { sources = l.past.sources; rows = l.rows }) l.items.items (known ++ filter (carries l.past l.rows) (take l.old-index l.records))
