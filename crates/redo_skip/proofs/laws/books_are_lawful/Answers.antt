use Rattle.redo_skip.proofs.LawfulLemmas.{with_book-lawful}
use Rattle.redo_skip.proofs.NewBookLemmas.{are-checks}
use Rattle.redo_skip.proofs.laws.books_are_lawful.Goals as goal

pub returns-clause-law : goal.returns-clause-law
returns-clause-law c = λ s k lawful are. with_book-lawful s k lawful are

pub returns-clause-checks : goal.returns-clause-checks
returns-clause-checks c = λ s last request. are-checks s last request
