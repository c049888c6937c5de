use Rattle.std.proofs.Common.{refl}
use Rattle.redo_digest.proofs.lanes.round.Goals as goal

pub returns : goal.returns
returns c j lt =
    rw (
      c.add-first.ensures j lt,
      c.add-fifth.ensures j lt,
      c.add-temp2.ensures j lt,
      c.add-temp1.ensures j lt,
      c.add-t3.ensures j lt,
      c.splat-constant.ensures j lt,
      c.add-t2.ensures j lt,
      c.add-t1.ensures j lt,
      c.big_sigma1-s1.ensures j lt,
      c.ch-chosen.ensures j lt,
      c.big_sigma0-s0.ensures j lt,
      c.maj-most.ensures j lt,
    ) refl
