use Rattle.redo_book.proofs.FaultLemmas.{one_fault}
use Rattle.redo_book.proofs.laws.a_text_has_one_fault.Goals as goal

pub returns : goal.returns
returns c = one_fault
