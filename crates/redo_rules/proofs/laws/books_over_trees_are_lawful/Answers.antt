use Rattle.redo_rules.proofs.LawfulTreeLemmas.{lawful_for}
use Rattle.redo_rules.proofs.TrueBookLemmas.{plain-build, checks-lawful}
use Rattle.redo_rules.proofs.laws.books_over_trees_are_lawful.Goals as goal

pub returns-clause-plain : goal.returns-clause-plain
returns-clause-plain c = λ tree limits. plain-build tree limits

pub returns-clause-checks : goal.returns-clause-checks
returns-clause-checks c = λ tree limits k are. checks-lawful tree limits k are

pub returns-clause-book : goal.returns-clause-book
returns-clause-book c = λ given. lawful_for given
