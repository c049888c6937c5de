use Rattle.redo_digest.proofs.LaneLemmas.{shifts_rotate}
use Rattle.redo_digest.proofs.lanes.rotated.Goals as goal

pub returns : goal.returns
returns c = shifts_rotate c.args.k c.requires.low c.requires.high c.args.a c.fits-a.0
