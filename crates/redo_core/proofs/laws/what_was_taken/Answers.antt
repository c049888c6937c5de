use Rattle.redo_core.proofs.TakenSteps.{taken-begun, taken-counted, taken-hand_in, taken-once, taken-opened, taken-take}
use Rattle.redo_core.proofs.laws.what_was_taken.Goals as goal

pub returns-clause-opened : goal.returns-clause-opened
returns-clause-opened c = λ given b first. taken-opened given b first

pub returns-clause-take : goal.returns-clause-take
returns-clause-take c = λ b taken which work. taken-take b taken which work

pub returns-clause-hand_in : goal.returns-clause-hand_in
returns-clause-hand_in c = λ b next taken target turn had open' handed.
    taken-hand_in b next taken target turn had open' handed

pub returns-clause-once : goal.returns-clause-once
returns-clause-once c = λ b taken. taken-once b taken

pub returns-clause-counted : goal.returns-clause-counted
returns-clause-counted c = λ b taken. taken-counted b taken

pub returns-clause-begun : goal.returns-clause-begun
returns-clause-begun c = λ b taken report. taken-begun b taken report
