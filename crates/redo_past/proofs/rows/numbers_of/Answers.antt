use Rattle.std.proofs.Common.{◌∙◌, ap, arith, map, take_all}
use Rattle.redo_names.specs.Paths.{with_path}
use Rattle.redo_report.specs.declared.report.Row.{Row}
use Rattle.redo_past.proofs.OrderLemmas.{ascending-sorted}
use Rattle.redo_past.proofs.RowLemmas.{path-put}
use Rattle.redo_past.proofs.rows.numbers_of.Goals as goal

pub loop-row-preserved : goal.loop-row-preserved
loop-row-preserved c =
    let rows = c.args.rows.now in
    let i = c.loop-row.row-index in
    let x : Row = c.row-item.result in
    let sorted = ascending-sorted (map (λ (row : Row). row.path) rows) c.requires in
    c.in_ok-insert.ensures.paths ∙ ap (with_path c.loop-row.numbers) c.in_ok-clone.ensures.cases ∙ ap (λ ps. with_path ps x.path) c.loop-row.invariant
    ∙ path-put (λ (row : Row). row.path) rows i x sorted (omega (arith, c.loop-row-test.true)) c.row-item.is

pub returns : goal.returns
returns c =
    let rows = c.args.rows.now in
    c.loop-row.invariant ∙ ap (map (λ (row : Row). row.path)) (take_all c.loop-row.row-index rows (omega (arith, c.loop-row-test.false)))
