use Rattle.redo_bundle.proofs.WrittenLemmas.{read_back}
use Rattle.redo_bundle.proofs.laws.a_written_tree_is_read_back.Goals as goal

pub returns : goal.returns
returns c = read_back
