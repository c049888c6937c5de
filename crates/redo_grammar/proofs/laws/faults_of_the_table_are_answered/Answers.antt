use Rattle.redo_grammar.proofs.RefusingLemmas.{refusing}
use Rattle.redo_grammar.proofs.laws.faults_of_the_table_are_answered.Goals as goal

pub returns : goal.returns
returns c = refusing
