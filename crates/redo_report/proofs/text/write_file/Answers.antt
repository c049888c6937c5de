use Rattle.std.proofs.Common.{◌≡◌, ◌∙◌, ◌++◌, ◌∷◌, [], ap, length, sym}
use Rattle.std.proofs.KnownBytes.{Appends-nil}
use Rattle.redo_report.specs.ReportText.{file_head, file_text}
use Rattle.redo_report.proofs.LineLemmas.{file-lines}
use Rattle.redo_report.proofs.WritingLemmas.{writes-failed, writes-last}
use Rattle.redo_report.proofs.text.write_file.Goals as goal

pub returns-in_err-write_file_head-clause-writes : goal.returns-in_err-write_file_head-clause-writes
returns-in_err-write_file_head-clause-writes g c =
    let file = c.args.file.now in
    let bytes = c.bytes-bytes.result.now in
    let path = c.text.result.now in
    writes-failed _ c.in_err-write_file_head.field-0.0 c.from_residual.result c.from_residual.ensures.1 _ _ _
    [] (file_head (length bytes) path) (bytes ++ 10 ∷ []) (file_text file)
    (file-lines path bytes file c.text.ensures.text c.bytes-bytes.ensures) (Appends-nil _) c.in_err-write_file_head.ensures.writes

pub returns-clause-writes : goal.returns-clause-writes
returns-clause-writes g c =
    let file = c.args.file.now in
    let bytes = c.bytes-bytes.result.now in
    let path = c.text.result.now in
    writes-last c.write_parts.result _ _ _ (file_head (length bytes) path) (bytes ++ 10 ∷ []) (file_text file)
    (file-lines path bytes file c.text.ensures.text c.bytes-bytes.ensures) c.in_ok-write_file_head.ensures.writes c.write_parts.ensures.writes
