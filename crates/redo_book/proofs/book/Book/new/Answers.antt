use Rattle.std.proofs.Common.{ap, map, subst, sym}
use Rattle.redo_book.specs.Book.{IsBook, record_of}
use Rattle.redo_book.proofs.MadeLemmas.{first_made}
use Rattle.redo_book.proofs.book.Book.new.Goals as goal

pub invariant_of-result : goal.invariant_of-result
invariant_of-result c = subst IsBook (ap (map record_of) (sym c.new.ensures.items)) first_made.book
