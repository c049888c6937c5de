use Rattle.redo_history.proofs.SmallHistoryLemmas.{small-history}
use Rattle.redo_history.proofs.laws.small_histories_are_met.Goals as goal

pub returns : goal.returns
returns c = small-history
