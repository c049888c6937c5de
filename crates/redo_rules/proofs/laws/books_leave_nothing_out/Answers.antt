use Rattle.redo_rules.proofs.WholeBookLemmas.{report-whole}
use Rattle.redo_rules.proofs.laws.books_leave_nothing_out.Goals as goal

pub returns : goal.returns
returns c = λ given report is_tree is. report-whole given is_tree given.request given.limits.targets report is
