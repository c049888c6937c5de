use Rattle.redo_grammar.proofs.WholeScriptLemmas.{found_scripts}
use Rattle.redo_grammar.proofs.laws.read_scripts_are_right.Goals as goal

pub returns : goal.returns
returns c = found_scripts
