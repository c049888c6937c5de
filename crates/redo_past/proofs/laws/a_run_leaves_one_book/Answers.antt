use Rattle.redo_past.proofs.LawLemmas.{one-new-book}
use Rattle.redo_past.proofs.laws.a_run_leaves_one_book.Goals as goal

pub returns : goal.returns
returns c = one-new-book
