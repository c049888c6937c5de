use Rattle.std.proofs.Common.{map, take}
use Rattle.redo_book.specs.Book.{record_of}
use Rattle.redo_ood.specs.inside.Rows.{AreRows, InRun}
use Rattle.redo_ood.proofs.items.rows_of.Given as goal

-- the rows of the records so far
abbrev pub invariant-loop-made : goal.invariant-loop-made
invariant-loop-made l =
    InRun l.past l.requested (λ s k book. AreRows s k book (map record_of (take l.made-index l.made-items)) l.rows.items)
