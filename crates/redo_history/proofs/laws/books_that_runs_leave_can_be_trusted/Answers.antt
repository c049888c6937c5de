use Rattle.redo_history.proofs.HistoryLemmas.{after-of-any}
use Rattle.redo_history.proofs.laws.books_that_runs_leave_can_be_trusted.Goals as goal

pub returns-clause-agrees : goal.returns-clause-agrees
returns-clause-agrees c = λ before tree request limits plain report after is_plain is apart.
    c.any_records_that_runs_leave_can_be_trusted.ensures.agrees before tree request limits plain report
    (after-of-any limits.file_bytes before tree after) is_plain is apart

pub returns-clause-within : goal.returns-clause-within
returns-clause-within c = λ before tree request limits plain after is_plain apart many.
    c.any_records_that_runs_leave_can_be_trusted.ensures.within before tree request limits plain
    (after-of-any limits.file_bytes before tree after) is_plain apart many
