use Rattle.redo_skip.proofs.NewBookLemmas.{unchecked-same, unrecorded-same}
use Rattle.redo_skip.proofs.laws.no_records_change_nothing.Goals as goal

pub returns-clause-none : goal.returns-clause-none
returns-clause-none c = λ s k none. unchecked-same s k none

pub returns-clause-empty : goal.returns-clause-empty
returns-clause-empty c = λ s last request none. unrecorded-same s last request none
