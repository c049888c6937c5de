use Rattle.redo_path.proofs.CanonicalLemmas.{resolved-path}
use Rattle.redo_path.proofs.laws.a_path_names_itself.Goals as goal

pub returns : goal.returns
returns c = resolved-path
