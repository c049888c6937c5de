use Rattle.redo_book.proofs.TextLemmas.{one_book}
use Rattle.redo_book.proofs.laws.a_text_has_one_book.Goals as goal

pub returns : goal.returns
returns c = one_book
