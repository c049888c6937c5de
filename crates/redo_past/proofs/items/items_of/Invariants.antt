use Rattle.std.proofs.Common.{◌≡◌, ◌++◌, List, drop, filter_map}
use Rattle.redo_book.specs.Book.{IsBook, Record}
use Rattle.redo_past.specs.inside.Books.{AreItems, carries, joined, new_records, record_if_built}
use Rattle.redo_past.proofs.items.items_of.Given as goal

-- the records so far are made of the items, and what is left makes them those of the new book
abbrev pub invariant-loop-row : goal.invariant-loop-row
invariant-loop-row l = record {
  left : IsBook l.left;
  known :
      (done : List Record) × AreItems (record { sources = l.past.sources; rows = l.rows }) l.items.items done ×
      (done ++ joined (carries l.past l.rows) (filter_map (record_if_built l.past.sources l.rows) (drop l.row-index l.rows)) l.left ≡ new_records l.past l.rows);
}
