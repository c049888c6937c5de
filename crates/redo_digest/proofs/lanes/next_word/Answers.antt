use Rattle.std.proofs.Common.{◌≡◌, ◌+◌, ◌%◌, arith, refl}
use Rattle.redo_digest.proofs.LaneLemmas.{lane_of}
use Rattle.redo_digest.proofs.lanes.next_word.Goals as goal

pub returns : goal.returns
returns c =
    let w = c.args.w.now in
    let place = c.args.place in
    let at : place % 16 ≡ place = omega arith in
    record {
      value = λ j lt.
          rw (
            at,
            c.add-word.ensures j lt,
            c.add-b.ensures j lt,
            c.add-a.ensures j lt,
            c.small_sigma1-s1.ensures j lt,
            c.small_sigma0-s0.ensures j lt,
            lane_of w j ((place + 14) % 16) (omega arith),
            lane_of w j ((place + 9) % 16) (omega arith),
            lane_of w j ((place + 1) % 16) (omega arith),
            lane_of w j place (omega arith),
          ) refl;
      window = refl;
    }
