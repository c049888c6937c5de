use Rattle.redo_grammar.proofs.OneFaultLemmas.{answered}
use Rattle.redo_grammar.proofs.laws.faults_of_texts_are_answered.Goals as goal

pub returns : goal.returns
returns c = answered
