use Rattle.std.proofs.Common.{◌∙◌, ap, arith}
use Rattle.redo_names.specs.Paths.{is_among, with_path}
use Rattle.redo_dead.proofs.DeadLemmas.{row-more}
use Rattle.redo_dead.proofs.dead.paths_of.Goals as goal

pub loop-row-preserved : goal.loop-row-preserved
loop-row-preserved c = λ p.
    let rows = c.args.rows.now in
    let i = c.loop-row.row-index in
    let x = c.row-item.result in
    ap (λ s. is_among s p) (c.in_ok-insert.ensures.paths ∙ ap (with_path c.loop-row.paths) c.in_ok-clone.ensures.cases) ∙
    row-more rows c.loop-row.paths i x p (omega (arith, c.loop-row-test.true)) c.row-item.is (c.loop-row.invariant p)
