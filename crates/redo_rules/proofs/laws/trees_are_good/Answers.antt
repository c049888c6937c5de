use Rattle.redo_rules.proofs.GoodTreeLemmas.{trees-good}
use Rattle.redo_rules.proofs.laws.trees_are_good.Goals as goal

pub returns : goal.returns
returns c = λ tree limits. trees-good tree limits
