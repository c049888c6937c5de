use Rattle.redo_ood.proofs.WordLemmas.{every-word}
use Rattle.redo_ood.proofs.laws.a_list_tells_of_every_run.Goals as goal

pub returns : goal.returns
returns c = every-word
