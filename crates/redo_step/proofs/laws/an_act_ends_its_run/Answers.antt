use Rattle.redo_step.proofs.EndLemmas.{comes_ends}
use Rattle.redo_step.proofs.laws.an_act_ends_its_run.Goals as goal

pub returns : goal.returns
returns c = λ setting ask script s t n m e comes ended. comes_ends comes t e ended
