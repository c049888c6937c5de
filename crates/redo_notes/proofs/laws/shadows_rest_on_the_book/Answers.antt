use Rattle.redo_notes.proofs.LawLemmas.{shadowed_same, within_same}
use Rattle.redo_notes.proofs.laws.shadows_rest_on_the_book.Goals as goal

pub returns-clause-all : goal.returns-clause-all
returns-clause-all c = shadowed_same

pub returns-clause-within : goal.returns-clause-within
returns-clause-within c = λ past other places are. within_same past other are places
