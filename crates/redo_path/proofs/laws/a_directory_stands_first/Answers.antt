use Rattle.redo_path.proofs.CanonicalLemmas.{parent_first}
use Rattle.redo_path.proofs.laws.a_directory_stands_first.Goals as goal

pub returns : goal.returns
returns c = parent_first
