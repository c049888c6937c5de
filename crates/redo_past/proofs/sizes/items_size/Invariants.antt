use Rattle.std.proofs.Common.{◌≡◌, length, map, take}
use Rattle.std.specs.List.{AllByRecursion}
use Rattle.std.specs.Prelude.{codes, flat_map}
use Rattle.redo_book.specs.Book.{IsRecord}
use Rattle.redo_past.specs.inside.Books.{item_text, record_in}
use Rattle.redo_past.proofs.sizes.items_size.Given as goal

-- the records so far have so many bytes, and each may stand in a book
abbrev pub invariant-loop-item : goal.invariant-loop-item
invariant-loop-item l = record {
  front : l.lines.0 ≡ codes "create ";
  size : l.size ≡ length (flat_map (item_text l.files) (take l.item-index l.items));
  each : AllByRecursion IsRecord (map (record_in l.files) (take l.item-index l.items));
}
