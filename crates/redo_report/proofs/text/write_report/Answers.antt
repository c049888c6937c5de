use Rattle.std.proofs.Common.{◌++◌, ◌∙◌, [], sym, ap, append_assoc, append-nil, refl}
use Rattle.std.specs.Prelude.{codes, flat_map}
use Rattle.std.proofs.KnownBytes.{Appends-nil, Appends-trans}
use Rattle.redo_report.specs.ReportText.{file_text, head_text}
use Rattle.redo_report.proofs.LineLemmas.{report-lines, wanted_files}
use Rattle.redo_report.proofs.WritingLemmas.{writes-failed, writes-last}
use Rattle.redo_report.proofs.text.write_report.Goals as goal
use Rattle.redo_report.proofs.text.write_report.Goals.{then-with_files+in_ok-write_files, else-with_files}

pub returns-in_err-write_head-clause-writes : goal.returns-in_err-write_head-clause-writes
returns-in_err-write_head-clause-writes g c =
    let report = c.args.report.now in
    let files = wanted_files report c.args.with_files in
    writes-failed _ c.in_err-write_head.field-0.0 c.from_residual.result c.from_residual.ensures.1 _ _ _ [] (head_text report) (files ++ codes "end\n") _
    (report-lines report c.args.with_files files refl ∙ append_assoc (head_text report) files (codes "end\n"))
    (Appends-nil _) c.in_err-write_head.ensures.writes

pub returns-in_err-write_files-clause-writes : goal.returns-in_err-write_files-clause-writes
returns-in_err-write_files-clause-writes g c =
    let report = c.args.report.now in
    let files = flat_map file_text c.deref.result.now in
    writes-failed _ c.in_err-write_files.field-0.0 c.from_residual-in_err-write_files.result c.from_residual-in_err-write_files.ensures.1 _ _ _ (head_text report) files (codes "end\n") _
    (report-lines report c.args.with_files files
    (ap (flat_map file_text) c.deref.ensures.value ∙ ap (wanted_files report) (sym c.if-with_files.true)))
    c.in_ok-write_head.ensures.writes c.in_err-write_files.ensures.writes

pub returns-clause-writes : goal.returns-clause-writes
returns-clause-writes g c =
    let report = c.args.report.now in
    elim c.if-with_files.branch [
      | then-with_files+in_ok-write_files w ↦
          let files = flat_map file_text w.deref.result.now in
          writes-last c.write_end.result _ _ _ (head_text report ++ files) (codes "end\n") _
          (report-lines report c.args.with_files files
          (ap (flat_map file_text) w.deref.ensures.value ∙ ap (wanted_files report) (sym w.if-with_files.true)))
          (rw w.out-is (Appends-trans _ _ _ _ _ c.in_ok-write_head.ensures.writes w.in_ok-write_files.ensures.writes)) c.write_end.ensures.writes
      | else-with_files w ↦
          writes-last c.write_end.result _ _ _ (head_text report) (codes "end\n") _
          (report-lines report c.args.with_files [] (ap (wanted_files report) (sym w.if-with_files.false))
          ∙ ap (λ l. l ++ codes "end\n") (append-nil (head_text report)))
          (rw w.out-is c.in_ok-write_head.ensures.writes) c.write_end.ensures.writes
    ]
