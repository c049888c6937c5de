use Rattle.redo_step.proofs.LawfulScriptLemmas.{script-lawful}
use Rattle.redo_step.proofs.laws.progress_is_lawful.Goals as goal

pub returns : goal.returns
returns c = λ setting missing do_file parsed found. script-lawful setting missing do_file parsed found
