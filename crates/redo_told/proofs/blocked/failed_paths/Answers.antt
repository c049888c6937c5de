use Rattle.std.proofs.Common.{◌∙◌, ◌||◌, ap, sym}
use Rattle.redo_told.proofs.BlockedLemmas.{row-more}
use Rattle.redo_told.specs.inside.Steps.{is_failed_at}
use Rattle.redo_told.proofs.blocked.failed_paths.Goals as goal

pub loop-row-preserved : goal.loop-row-preserved
loop-row-preserved c = λ p.
    let x = c.row-item.result in
    c.in_ok-add_row.ensures p ∙ ap (λ b. b || is_failed_at p x) (c.loop-row.invariant p)
    ∙ sym (row-more c.args.rows.now c.loop-row.row-index x p c.loop-row-test.true c.row-item.is)
