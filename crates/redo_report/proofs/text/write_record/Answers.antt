use Rattle.std.proofs.Common.{◌++◌, ◌∙◌, [], append_assoc, subst}
use Rattle.std.specs.Prelude.{Err, flat_map, option_copied}
use Rattle.std.proofs.KnownBytes.{Appends-nil, Appends-trans}
use Rattle.std.specs.Io.KnownBytes.{Appends}
use Rattle.redo_bundle.specs.Bundle.{Writes}
use Rattle.redo_record.specs.Entries.{change_of}
use Rattle.redo_report.specs.ReportText.{dep_line}
use Rattle.redo_report.proofs.LineLemmas.{create_lines, front-lines, record-lines}
use Rattle.redo_report.proofs.WritingLemmas.{writes-failed, writes-last}
use Rattle.redo_report.proofs.text.write_record.Goals as goal

pub returns-in_err-write_missing-clause-writes : goal.returns-in_err-write_missing-clause-writes
returns-in_err-write_missing-clause-writes g c =
    let parts = c.parts-parts.result in
    let do_file = option_copied parts.do_file in
    let change = flat_map dep_line (change_of do_file) in
    let own = flat_map dep_line parts.own.now in
    writes-failed _ c.in_err-write_missing.field-0.0 c.from_residual.result c.from_residual.ensures.1 _ _ _ [] (create_lines parts.missing.now) (change ++ own) _
    (record-lines parts.missing.now do_file parts.own.now c.args.deps.now c.parts-parts.ensures ∙ append_assoc (create_lines parts.missing.now) change own)
    (Appends-nil _) (subst (Writes _ _ (Err c.in_err-write_missing.field-0.0)) (front-lines _ parts.missing.now c.requires.front) c.in_err-write_missing.ensures.writes)

pub returns-in_err-write_do_file-clause-writes : goal.returns-in_err-write_do_file-clause-writes
returns-in_err-write_do_file-clause-writes g c =
    let parts = c.parts-parts.result in
    let do_file = option_copied parts.do_file in
    writes-failed _ c.in_err-write_do_file.field-0.0 c.from_residual-in_err-write_do_file.result c.from_residual-in_err-write_do_file.ensures.1 _ _ _
    (create_lines parts.missing.now) (flat_map dep_line (change_of do_file)) (flat_map dep_line parts.own.now) _
    (record-lines parts.missing.now do_file parts.own.now c.args.deps.now c.parts-parts.ensures)
    (subst (Appends _ _) (front-lines _ parts.missing.now c.requires.front) c.in_ok-write_missing.ensures.writes) c.in_err-write_do_file.ensures.writes

pub returns-clause-writes : goal.returns-clause-writes
returns-clause-writes g c =
    let parts = c.parts-parts.result in
    let do_file = option_copied parts.do_file in
    writes-last c.write_deps.result _ _ _ (create_lines parts.missing.now ++ flat_map dep_line (change_of do_file)) (flat_map dep_line parts.own.now) _
    (record-lines parts.missing.now do_file parts.own.now c.args.deps.now c.parts-parts.ensures)
    (Appends-trans _ _ _ _ _ (subst (Appends _ _) (front-lines _ parts.missing.now c.requires.front) c.in_ok-write_missing.ensures.writes) c.in_ok-write_do_file.ensures.writes) c.write_deps.ensures.writes
