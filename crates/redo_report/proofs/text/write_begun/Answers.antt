use Rattle.std.proofs.Common.{rules, arith, ◌++◌, ◌+◌, drop}
use Rattle.std.proofs.lemmas.Grind.{common_steps}
use Rattle.std.specs.Prelude.{flat_map}
use Rattle.std.proofs.KnownBytes.{Appends-trans}
use Rattle.redo_report.specs.ReportText.{begun_line}
use Rattle.redo_report.proofs.WritingLemmas.{split-next, writes-failed}
use Rattle.redo_report.proofs.text.write_begun.Goals as goal

pub loop-path-preserved : goal.loop-path-preserved
loop-path-preserved g c =
    let before = c.loop-path.invariant in
    let item = c.path-item.result in
    record {
      works = grind (arith, common_steps);
      done = before.done ++ begun_line item;
      split = split-next begun_line c.args.begun.now c.loop-path.path-index item item before.done _ (search rules) c.path-item.is before.split;
      gone = Appends-trans _ _ _ _ _ before.gone c.in_ok-write_path_line.ensures.writes;
    }

pub returns-in_err-write_path_line-clause-writes : goal.returns-in_err-write_path_line-clause-writes
returns-in_err-write_path_line-clause-writes g c =
    let before = c.loop-path.invariant in
    let item = c.path-item.result in
    let rest = flat_map begun_line (drop (c.loop-path.path-index + 1) c.args.begun.now) in
    writes-failed _ c.in_err-write_path_line.field-0.0 c.from_residual.result c.from_residual.ensures.1 _ _ _ before.done (begun_line item) rest _
    (split-next begun_line c.args.begun.now c.loop-path.path-index item item before.done _ (search rules) c.path-item.is before.split)
    before.gone c.in_err-write_path_line.ensures.writes
