use Rattle.redo_step.proofs.AgreeingLemmas.{meaning_follows}
use Rattle.redo_step.proofs.laws.agreeing_runs.Goals as goal

pub returns : goal.returns
returns c = λ one two a b script n alike status all. (meaning_follows one two a b alike script).same n status all
