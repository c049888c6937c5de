use Rattle.redo_skip.proofs.NewBookLemmas.{all-here, leaves}
use Rattle.redo_skip.proofs.laws.new_book_is_true.Goals as goal

pub returns-clause-records : goal.returns-clause-records
returns-clause-records c = λ s last request limit lawful good few p r e.
    all-here s last request limit lawful good few p r e

pub returns-clause-book : goal.returns-clause-book
returns-clause-book c = λ s last request limit lawful good few true_book.
    leaves s last request limit lawful good few true_book
