use Rattle.redo_bundle.proofs.OnceLemmas.{never_both}
use Rattle.redo_bundle.proofs.laws.a_bundle_has_no_fault.Goals as goal

pub returns : goal.returns
returns c = never_both
