use Rattle.redo_build.specs.Outcomes.{outcome_at}
use Rattle.redo_skip.specs.Sources.{without_book}
use Rattle.redo_skip.specs.NewBook.{checks_of}
use Rattle.redo_skip.proofs.SkipLemmas.{skips}
use Rattle.redo_skip.proofs.NewBookLemmas.{are-checks, honest-checks}
use Rattle.redo_skip.proofs.laws.true_books_skip_soundly.Goals as goal

pub returns : goal.returns
returns c = λ s last request limit lawful few decided honest.
    skips s (checks_of s last request) lawful (are-checks s last request) request limit few
    (honest-checks s last request (outcome_at (without_book s) limit) honest) decided
