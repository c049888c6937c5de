use Rattle.redo_bundle.proofs.OnceLemmas.{one_tree}
use Rattle.redo_bundle.proofs.laws.a_bundle_has_one_tree.Goals as goal

pub returns : goal.returns
returns c = one_tree
