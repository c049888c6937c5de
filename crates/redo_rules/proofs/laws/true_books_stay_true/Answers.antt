use Rattle.redo_rules.proofs.TrueBookLemmas.{stays-true}
use Rattle.redo_rules.proofs.laws.true_books_stay_true.Goals as goal

pub returns : goal.returns
returns c = λ given few true_book. stays-true given few true_book
