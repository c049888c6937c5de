use Rattle.redo_rules.proofs.AlikeTreeLemmas.{trees-alike-within}
use Rattle.redo_rules.proofs.laws.trees_are_alike.Goals as goal

pub returns : goal.returns
returns c = λ old new before now same before_known now_known p.
    trees-alike-within old new before now same before_known now_known p
