use Rattle.std.proofs.Common.{refl}
use Rattle.redo_digest.proofs.lanes.small_sigma0.Goals as goal

pub returns : goal.returns
returns c j lt =
    rw (c.xor.ensures j lt, c.xor-ab.ensures j lt, c.rotated-a.ensures j lt, c.rotated-b.ensures j lt, c.shifted-c.ensures j lt) refl
