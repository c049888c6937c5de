use Rattle.redo_grammar.proofs.WholeScriptLemmas.{one_tree}
use Rattle.redo_grammar.proofs.laws.one_tree.Goals as goal

pub returns : goal.returns
returns c = one_tree
