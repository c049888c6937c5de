use Rattle.redo_history.proofs.HistoryLemmas.{agrees, within}
use Rattle.redo_history.proofs.MetLemmas.{book-of-any}
use Rattle.redo_history.proofs.laws.any_records_that_runs_leave_can_be_trusted.Goals as goal

pub returns-clause-agrees : goal.returns-clause-agrees
returns-clause-agrees c = λ before tree request limits plain report after is_plain is apart.
    agrees c.a_text_has_one_book.ensures c.a_tree_has_one_past.ensures c.a_tree_without_files_is_a_tree.ensures
    c.no_other_file_is_taken_out.ensures before tree request limits plain after is_plain is.0 is.1 report is.2 apart

pub returns-clause-within : goal.returns-clause-within
returns-clause-within c = λ before tree request limits plain after is_plain apart many.
    within c.a_text_has_one_book.ensures c.a_tree_has_one_past.ensures c.a_tree_without_files_is_a_tree.ensures
    c.no_other_file_is_taken_out.ensures before tree request limits plain after is_plain many.0 many.1 apart many.2

pub returns-clause-last : goal.returns-clause-last
returns-clause-last c = book-of-any
