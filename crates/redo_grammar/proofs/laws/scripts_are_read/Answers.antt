use Rattle.redo_grammar.proofs.WholeScriptLemmas.{only_scripts}
use Rattle.redo_grammar.proofs.laws.scripts_are_read.Goals as goal

pub returns : goal.returns
returns c = only_scripts
