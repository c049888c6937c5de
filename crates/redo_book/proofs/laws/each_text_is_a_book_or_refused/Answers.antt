use Rattle.redo_book.proofs.FaultLemmas.{each_text}
use Rattle.redo_book.proofs.laws.each_text_is_a_book_or_refused.Goals as goal

pub returns : goal.returns
returns c = each_text
