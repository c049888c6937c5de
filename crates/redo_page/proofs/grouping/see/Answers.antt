use Rattle.redo_page.specs.inside.Links.{known_by}
use Rattle.redo_page.proofs.GroupingLemmas.{seen-more}
use Rattle.redo_page.proofs.grouping.see.Goals as goal

pub loop-row-preserved : goal.loop-row-preserved
loop-row-preserved c =
    let steps = c.in_ok-add.ensures in
    seen-more (known_by c.args.links.now) c.args.rows.now c.loop-row.row-index c.row-item.result c.loop-row.seen c.add.new.self
    steps.added.0 c.loop-row-test.true c.row-item.is steps.grown steps.added.1 steps.added.2 steps.added.3 c.loop-row.invariant
