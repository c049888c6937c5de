use Rattle.redo_clean.proofs.LawLemmas.{same_kept, same_removed}
use Rattle.redo_clean.proofs.laws.cleans_rest_on_targets.Goals as goal

pub returns-clause-removed : goal.returns-clause-removed
returns-clause-removed c = same_removed

pub returns-clause-kept : goal.returns-clause-kept
returns-clause-kept c = same_kept
