use Rattle.std.proofs.Common.{arith, refl, sym}
use Rattle.sha2.proofs.Schedule256.{rounds_first}
use Rattle.redo_digest.specs.inside.Lanes.{eight, lanes}
use Rattle.redo_digest.proofs.LaneLemmas.{lane_of}
use Rattle.redo_digest.proofs.lanes.first_step.Goals as goal

pub returns : goal.returns
returns c = λ j b h lt window held.
    rounds_first b h (lanes j c.args.w.now) (eight j c.args.v) c.args.t _ _ _ c.requires window held refl
    (sym (lane_of c.args.w.now j c.args.t (omega arith))) (c.round.ensures j lt)
