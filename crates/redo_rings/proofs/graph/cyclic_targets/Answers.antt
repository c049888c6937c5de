use Rattle.std.proofs.Common.{◌∙◌, ◌||◌, ◌&&◌, ap, sym}
use Rattle.std.specs.Str.{bytes_eq}
use Rattle.redo_rings.specs.Rings.{is_cyclic}
use Rattle.redo_rings.proofs.GraphLemmas.{cyclic-more}
use Rattle.redo_rings.proofs.graph.cyclic_targets.Goals as goal

pub loop-row-preserved : goal.loop-row-preserved
loop-row-preserved c = λ p.
    let row = c.row-item.result in
    c.in_ok-add_cyclic.ensures p
    ∙ ap (λ b. b || (is_cyclic row.outcome && bytes_eq row.path p)) (c.loop-row.invariant p)
    ∙ sym (cyclic-more c.args.rows.now c.loop-row.row-index row p c.loop-row-test.true c.row-item.is)
