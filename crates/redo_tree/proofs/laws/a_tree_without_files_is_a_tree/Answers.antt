use Rattle.redo_tree.proofs.WithoutLemmas.{IsTree-without}
use Rattle.redo_tree.proofs.laws.a_tree_without_files_is_a_tree.Goals as goal

pub returns : goal.returns
returns c = IsTree-without
