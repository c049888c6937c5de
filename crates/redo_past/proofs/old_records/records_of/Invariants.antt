use Rattle.std.proofs.Common.{◌≡◌, drop, map, take}
use Rattle.redo_book.specs.Book.{record_of}
use Rattle.redo_past.specs.inside.Books.{BeginsWith}
use Rattle.redo_past.proofs.OldLemmas.{texts}
use Rattle.redo_past.proofs.old_records.records_of.Given as goal

-- these are the records so far, and the texts of the others are left
abbrev pub invariant-loop-record : goal.invariant-loop-record
invariant-loop-record l = record {
  are : l.old.items ≡ map record_of (take l.record-index l.records);
  left : BeginsWith l.rest (texts (drop l.record-index l.records));
}
