use Rattle.redo_bundle.proofs.EveryLemmas.{each_text}
use Rattle.redo_bundle.proofs.laws.each_text_is_a_bundle_or_refused.Goals as goal

pub returns : goal.returns
returns c = each_text
