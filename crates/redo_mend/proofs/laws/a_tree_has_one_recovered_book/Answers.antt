use Rattle.redo_mend.proofs.SaidLemmas.{is-recovered, one-recovered, recovered}
use Rattle.redo_mend.proofs.laws.a_tree_has_one_recovered_book.Goals as goal

pub returns-clause-is : goal.returns-clause-is
returns-clause-is c = λ tree journal old jb ob. (recovered tree journal old, is-recovered tree journal old jb ob)

pub returns-clause-one : goal.returns-clause-one
returns-clause-one c = λ tree journal old book other is also. one-recovered tree journal old book other is also
