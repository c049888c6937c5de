use Rattle.std.proofs.Common.{rules, arith, ◌++◌, ◌+◌, ◌∙◌, drop}
use Rattle.std.proofs.lemmas.Grind.{common_steps}
use Rattle.std.specs.Prelude.{flat_map}
use Rattle.std.proofs.KnownBytes.{Appends-trans}
use Rattle.redo_report.specs.ReportText.{row_text}
use Rattle.redo_report.proofs.WritingLemmas.{split-next, writes-failed}
use Rattle.redo_report.proofs.text.write_rows.Goals as goal

pub loop-row-preserved : goal.loop-row-preserved
loop-row-preserved g c =
    let before = c.loop-row.invariant in
    let item = c.row-item.result in
    record {
      front = c.in_ok-write_row.ensures.front ∙ before.front;
      works = grind (arith, common_steps);
      done = before.done ++ row_text item;
      split = split-next row_text c.args.rows.now c.loop-row.row-index item item before.done _ (search rules) c.row-item.is before.split;
      gone = Appends-trans _ _ _ _ _ before.gone c.in_ok-write_row.ensures.writes;
    }

pub returns-in_err-write_row-clause-writes : goal.returns-in_err-write_row-clause-writes
returns-in_err-write_row-clause-writes g c =
    let before = c.loop-row.invariant in
    let item = c.row-item.result in
    let rest = flat_map row_text (drop (c.loop-row.row-index + 1) c.args.rows.now) in
    writes-failed _ c.in_err-write_row.field-0.0 c.from_residual.result c.from_residual.ensures.1 _ _ _ before.done (row_text item) rest _
    (split-next row_text c.args.rows.now c.loop-row.row-index item item before.done _ (search rules) c.row-item.is before.split)
    before.gone c.in_err-write_row.ensures.writes
