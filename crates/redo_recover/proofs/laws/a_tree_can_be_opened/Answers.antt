use Rattle.redo_recover.proofs.CanLemmas.{can-open}
use Rattle.redo_recover.proofs.laws.a_tree_can_be_opened.Goals as goal

pub returns : goal.returns
returns c = can-open c.each_text_is_a_book_or_refused.ensures c.a_book_has_no_fault.ensures
