use Rattle.redo_digest.proofs.LaneLemmas.{shift_each}
use Rattle.redo_digest.proofs.lanes.shifted.Goals as goal

pub returns : goal.returns
returns c = shift_each c.args.k c.args.a c.fits-a.0
