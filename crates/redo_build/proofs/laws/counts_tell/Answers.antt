use Rattle.redo_build.proofs.CountedLemmas.{taken-counted, counted-taken, once-counted, counted-once}
use Rattle.redo_build.proofs.laws.counts_tell.Goals as goal

pub returns-clause-taken : goal.returns-clause-taken
returns-clause-taken c = λ taken p turn. (taken-counted taken p turn, counted-taken taken p turn)

pub returns-clause-once : goal.returns-clause-once
returns-clause-once c = λ taken. (once-counted taken, counted-once taken)
