use Rattle.std.proofs.Common.{refl}
use Rattle.redo_digest.proofs.lanes.ch.Goals as goal

pub returns : goal.returns
returns c j lt = rw (c.xor.ensures j lt, c.and-nz.ensures j lt, c.not-nx.ensures j lt, c.and-xy.ensures j lt) refl
