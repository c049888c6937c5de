use Rattle.std.proofs.Common.{◌∙◌, ◌&&◌, ◌||◌, ap, sym}
use Rattle.std.specs.Str.{bytes_eq}
use Rattle.redo_told.specs.Rows.{is_changed}
use Rattle.redo_page.proofs.ChangedLemmas.{changed-more}
use Rattle.redo_page.proofs.links.changed_of.Goals as goal

pub loop-row-preserved : goal.loop-row-preserved
loop-row-preserved c = λ p.
    let x = c.row-item.result in
    let before = c.args.before.now in
    c.in_ok-add_changed.ensures p ∙ ap (λ b. b || (is_changed before x && bytes_eq x.path p)) (c.loop-row.invariant p)
    ∙ sym (changed-more before c.args.rows.now c.loop-row.row-index x p c.loop-row-test.true c.row-item.is)
