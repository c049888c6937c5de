use Rattle.redo_notes.proofs.LawLemmas.{ruleless_same, unbuilt_same, unmade_same}
use Rattle.redo_notes.proofs.laws.notes_rest_on_the_book.Goals as goal

pub returns-clause-unbuilt : goal.returns-clause-unbuilt
returns-clause-unbuilt c = λ past other request report are. unbuilt_same past other are request report

pub returns-clause-unmade : goal.returns-clause-unmade
returns-clause-unmade c = λ past other report are. unmade_same past other are report

pub returns-clause-ruleless : goal.returns-clause-ruleless
returns-clause-ruleless c = ruleless_same
