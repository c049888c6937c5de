use Rattle.redo_build.specs.Outcomes.{outcome_at}
use Rattle.redo_skip.specs.Sources.{without_book}
use Rattle.redo_skip.specs.NewBook.{checks_of}
use Rattle.redo_skip.proofs.NeededLemmas.{needed-plain, within-plain}
use Rattle.redo_skip.proofs.NewBookLemmas.{are-checks, honest-checks}
use Rattle.redo_skip.proofs.laws.honest_books_need_no_more.Goals as goal

pub returns-clause-needed : goal.returns-clause-needed
returns-clause-needed c = λ s last request limit lawful few honest p m.
    needed-plain s (checks_of s last request) lawful (are-checks s last request) request limit few
    (honest-checks s last request (outcome_at (without_book s) limit) honest) p m

pub returns-clause-few : goal.returns-clause-few
returns-clause-few c = λ s last request limit lawful few honest.
    within-plain s (checks_of s last request) lawful (are-checks s last request) request limit few
    (honest-checks s last request (outcome_at (without_book s) limit) honest)
