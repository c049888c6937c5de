use Rattle.redo_grammar.proofs.WholeTextLemmas.{never_both}
use Rattle.redo_grammar.proofs.laws.a_script_has_no_fault.Goals as goal

pub returns : goal.returns
returns c = never_both
