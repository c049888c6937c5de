use Rattle.redo_digest.proofs.LaneLemmas.{below_four}
use Rattle.redo_digest.proofs.lanes.load_each.Goals as goal

pub returns : goal.returns
returns c = below_four _ c.load.ensures c.load-2.ensures c.load-3.ensures c.load-4.ensures
