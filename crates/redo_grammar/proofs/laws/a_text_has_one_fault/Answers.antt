use Rattle.redo_grammar.proofs.WholeTextLemmas.{one_fault}
use Rattle.redo_grammar.proofs.laws.a_text_has_one_fault.Goals as goal

pub returns : goal.returns
returns c = one_fault
