use Rattle.redo_build.proofs.BegunLemmas.{begun-needed}
use Rattle.redo_skip.proofs.LawfulLemmas.{with_book-lawful}
use Rattle.redo_skip.proofs.NewBookLemmas.{are-checks}
use Rattle.redo_skip.specs.NewBook.{checks_of}
use Rattle.redo_why.specs.Runs.{rules_with, end_with}
use Rattle.redo_why.proofs.ReasonLemmas.{begun-reason}
use Rattle.redo_why.proofs.laws.each_begun_has_a_reason.Goals as goal

pub returns-clause-begun : goal.returns-clause-begun
returns-clause-begun c = begun-reason

pub returns-clause-taken : goal.returns-clause-taken
returns-clause-taken c = λ s last request limit events lawful all_open quiet looked few p.
    let both = begun-needed (rules_with s last request)
    (with_book-lawful s (checks_of s last request) lawful (are-checks s last request)) request events all_open quiet
    looked limit few p in (
      λ taken.
          let parts = both.0 taken in
          (parts.0, parts.1, (begun-reason s last request (end_with s last request limit) p parts.1).0 parts.2),
      λ parts.
          both.1 (parts.0, parts.1, (begun-reason s last request (end_with s last request limit) p parts.1).1 parts.2),
    )
