use Rattle.redo_step.proofs.AgreeingLemmas.{script_agrees}
use Rattle.redo_step.proofs.laws.agreeing_records.Goals as goal

pub returns : goal.returns
returns c = λ one two a b deps parsed file alike built all. script_agrees one two a b alike deps parsed file built all
