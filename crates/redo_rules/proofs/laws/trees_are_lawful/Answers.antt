use Rattle.redo_rules.proofs.LawfulTreeLemmas.{rules_lawful}
use Rattle.redo_rules.proofs.laws.trees_are_lawful.Goals as goal

pub returns : goal.returns
returns c = λ tree limits. rules_lawful tree limits
