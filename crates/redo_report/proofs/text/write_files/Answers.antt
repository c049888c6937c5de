use Rattle.std.proofs.Common.{rules, arith, ◌++◌, ◌+◌, drop}
use Rattle.std.proofs.lemmas.Grind.{common_steps}
use Rattle.std.specs.Prelude.{flat_map}
use Rattle.std.proofs.KnownBytes.{Appends-trans}
use Rattle.redo_report.specs.ReportText.{file_text}
use Rattle.redo_report.proofs.WritingLemmas.{split-next, writes-failed}
use Rattle.redo_report.proofs.text.write_files.Goals as goal

pub loop-file-preserved : goal.loop-file-preserved
loop-file-preserved g c =
    let before = c.loop-file.invariant in
    let item = c.file-item.result in
    record {
      works = grind (arith, common_steps);
      done = before.done ++ file_text item;
      split = split-next file_text c.args.files.now c.loop-file.file-index item item before.done _ (search rules) c.file-item.is before.split;
      gone = Appends-trans _ _ _ _ _ before.gone c.in_ok-write_file.ensures.writes;
    }

pub returns-in_err-write_file-clause-writes : goal.returns-in_err-write_file-clause-writes
returns-in_err-write_file-clause-writes g c =
    let before = c.loop-file.invariant in
    let item = c.file-item.result in
    let rest = flat_map file_text (drop (c.loop-file.file-index + 1) c.args.files.now) in
    writes-failed _ c.in_err-write_file.field-0.0 c.from_residual.result c.from_residual.ensures.1 _ _ _ before.done (file_text item) rest _
    (split-next file_text c.args.files.now c.loop-file.file-index item item before.done _ (search rules) c.file-item.is before.split)
    before.gone c.in_err-write_file.ensures.writes
