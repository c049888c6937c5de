use Rattle.std.proofs.Common.{[], refl}
use Rattle.std.specs.Prelude.{flat_map}
use Rattle.std.proofs.KnownBytes.{Appends-nil}
use Rattle.redo_report.specs.ReportText.{begun_line, row_text}
use Rattle.redo_report.proofs.LineLemmas.{head-lines}
use Rattle.redo_report.proofs.WritingLemmas.{writes-failed, writes-last}
use Rattle.redo_report.proofs.text.write_head.Goals as goal

pub returns-in_err-write_rows-clause-writes : goal.returns-in_err-write_rows-clause-writes
returns-in_err-write_rows-clause-writes g c =
    let report = c.args.report.now in
    writes-failed _ c.in_err-write_rows.field-0.0 c.from_residual.result c.from_residual.ensures.1 _ _ _
    [] (flat_map row_text c.deref.result.now) (flat_map begun_line report.begun.items) _
    (head-lines report c.deref.result.now report.begun.items c.deref.ensures.value refl)
    (Appends-nil _) c.in_err-write_rows.ensures.writes

pub returns-clause-writes : goal.returns-clause-writes
returns-clause-writes g c =
    writes-last c.write_begun.result _ _ _ (flat_map row_text c.deref.result.now) (flat_map begun_line c.deref-2.result.now) _
    (head-lines c.args.report.now c.deref.result.now c.deref-2.result.now c.deref.ensures.value c.deref-2.ensures.value)
    c.in_ok-write_rows.ensures.writes c.write_begun.ensures.writes
