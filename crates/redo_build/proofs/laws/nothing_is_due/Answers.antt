use Rattle.redo_build.proofs.LookingLemmas.{nothing-due, looked_out-same}
use Rattle.redo_build.proofs.laws.nothing_is_due.Goals as goal

pub returns-clause-none : goal.returns-clause-none
returns-clause-none c = λ r all s. nothing-due r all s

pub returns-clause-same : goal.returns-clause-same
returns-clause-same c = λ r all s t. looked_out-same r all s t
