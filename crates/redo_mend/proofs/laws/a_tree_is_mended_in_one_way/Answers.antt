use Rattle.redo_mend.proofs.OneLemmas.{mended-once}
use Rattle.redo_mend.proofs.laws.a_tree_is_mended_in_one_way.Goals as goal

pub returns : goal.returns
returns c = λ tree mended other h k. mended-once c.a_text_has_one_book.ensures tree mended other h k
