use Rattle.redo_book.proofs.FaultLemmas.{never_both}
use Rattle.redo_book.proofs.laws.a_book_has_no_fault.Goals as goal

pub returns : goal.returns
returns c = never_both
