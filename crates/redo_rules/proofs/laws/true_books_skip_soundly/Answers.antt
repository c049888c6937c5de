use Rattle.redo_rules.proofs.TrueBookLemmas.{skips-soundly}
use Rattle.redo_rules.proofs.laws.true_books_skip_soundly.Goals as goal

pub returns : goal.returns
returns c = λ given few decided true_book. skips-soundly given few decided true_book
