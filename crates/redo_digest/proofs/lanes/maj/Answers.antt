use Rattle.std.proofs.Common.{refl}
use Rattle.redo_digest.proofs.lanes.maj.Goals as goal

pub returns : goal.returns
returns c j lt =
    rw (c.xor.ensures j lt, c.xor-first.ensures j lt, c.and-yz.ensures j lt, c.and-xz.ensures j lt, c.and-xy.ensures j lt) refl
