use Rattle.std.proofs.Common.{◌∙◌, ◌<◌, ◌+◌, arith, length}
use Rattle.std.proofs.lemmas.Option.{slice_get_within}
use Rattle.redo_alike.proofs.HeightLemmas.{least-none, least-some, max-is}
use Rattle.redo_alike.proofs.ListLemmas.{in-get}
use Rattle.redo_alike.proofs.heights.height_above.Goals as goal
use Rattle.redo_alike.proofs.heights.height_above.Goals.{in-Some, in_default}

pub loop-need-preserved : goal.loop-need-preserved
loop-need-preserved c =
    let needs = c.args.needs.now in
    let known = c.args.known.now in
    let i = c.loop-need.need-index in
    elim c.match-known-need.branch [
      | in-Some w ↦
          least-some needs known i c.loop-need.height c.match-known-need.height c.loop-need-test.true c.loop-need.invariant
          w.in-Some.below w.in-Some.is (w.height-is ∙ w.max-height.ensures ∙ max-is c.loop-need.height (w.in-Some.below + 1))
      | in_default w ↦
          least-none needs known i c.loop-need.height c.match-known-need.height c.loop-need-test.true c.loop-need.invariant
          w.in_default.not-Some w.height-is
    ]

pub returns-clause-above : goal.returns-clause-above
returns-clause-above c m h is there =
    let needs = c.args.needs.now in
    let at = in-get needs m is in
    let low : at.0 < length needs = slice_get_within needs at.0 m at.1 in
    c.loop-need.invariant.above at.0 m h (omega (arith, low, c.loop-need-test.false)) at.1 there
