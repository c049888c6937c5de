use Rattle.std.proofs.Common.{◌≢◌, ℕ, List, [], ◌∙◌, ap, arith, below_more}
use Rattle.std.specs.Prelude.{◌==◌, if◌then◌else◌, slice_index}
use Rattle.sha2.specs.Sha256.{digest_bytes}
use Rattle.redo_digest.specs.inside.Lanes.{eight}
use Rattle.redo_digest.proofs.four.keep_ended.Goals as goal

pub lanes-preserved : goal.lanes-preserved
lanes-preserved c =
    let lane = c.lanes.lane in
    let kept = c.keep_if_ended.ensures in
    let before = c.lanes.invariant in (
      omega arith,
      below_more _ _
          (λ j lt. let ne : j ≢ lane = omega arith in kept.others j ne ∙ before.1 j lt)
          (kept.here ∙ ap (λ (old : List ℕ). if slice_index c.args.counts.now lane == c.args.taken then digest_bytes (eight lane c.args.state.now) 8 else old) (before.2 lane (omega arith))),
      λ j le. let ne : j ≢ lane = omega arith in kept.others j ne ∙ before.2 j (omega arith),
    )
