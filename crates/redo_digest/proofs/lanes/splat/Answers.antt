use Rattle.std.proofs.Common.{refl}
use Rattle.redo_digest.proofs.LaneLemmas.{below_four}
use Rattle.redo_digest.proofs.lanes.splat.Goals as goal

pub returns : goal.returns
returns c = below_four _ refl refl refl refl
