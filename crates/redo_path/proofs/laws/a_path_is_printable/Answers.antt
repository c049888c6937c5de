use Rattle.redo_path.proofs.CanonicalLemmas.{printable_path}
use Rattle.redo_path.proofs.laws.a_path_is_printable.Goals as goal

pub returns : goal.returns
returns c = printable_path
