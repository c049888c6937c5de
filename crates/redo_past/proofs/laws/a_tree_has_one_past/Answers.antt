use Rattle.redo_past.proofs.LawLemmas.{one-past}
use Rattle.redo_past.proofs.laws.a_tree_has_one_past.Goals as goal

pub returns : goal.returns
returns c = one-past c.a_text_has_one_book.ensures
