use Rattle.std.proofs.Common.{◌++◌, ◌∙◌, [], append_assoc, subst}
use Rattle.std.specs.Prelude.{option_copied}
use Rattle.std.proofs.KnownBytes.{Appends-nil, Appends-trans}
use Rattle.redo_bundle.specs.Bundle.{Writes}
use Rattle.redo_record.specs.Entries.{change_of, creates}
use Rattle.redo_past.specs.inside.Books.{noted_text}
use Rattle.redo_report.proofs.WritingLemmas.{writes-failed, writes-last}
use Rattle.redo_past.proofs.NotedLemmas.{parts-text}
use Rattle.redo_past.proofs.records.write_entries.Goals as goal

pub returns-in_err-write_candidates-clause-writes : goal.returns-in_err-write_candidates-clause-writes
returns-in_err-write_candidates-clause-writes g c =
    let states = c.args.states.now in
    let parts = c.parts-parts.result in
    let missing = noted_text states (creates parts.missing.now) in
    let do_file = noted_text states (change_of (option_copied parts.do_file)) in
    let own = noted_text states parts.own.now in
    writes-failed _ c.in_err-write_candidates.field-0.0 c.from_residual.result c.from_residual.ensures.1 _ _ _ [] missing (do_file ++ own) _
    (parts-text states parts.missing.now (option_copied parts.do_file) parts.own.now c.args.deps.now c.parts-parts.ensures ∙ append_assoc missing do_file own)
    (Appends-nil _) (c.in_err-write_candidates.ensures.writes states)

pub returns-in_err-write_do_file-clause-writes : goal.returns-in_err-write_do_file-clause-writes
returns-in_err-write_do_file-clause-writes g c =
    let states = c.args.states.now in
    let parts = c.parts-parts.result in
    let missing = noted_text states (creates parts.missing.now) in
    let do_file = noted_text states (change_of (option_copied parts.do_file)) in
    let own = noted_text states parts.own.now in
    writes-failed _ c.in_err-write_do_file.field-0.0 c.from_residual-in_err-write_do_file.result c.from_residual-in_err-write_do_file.ensures.1 _ _ _ missing do_file own _
    (parts-text states parts.missing.now (option_copied parts.do_file) parts.own.now c.args.deps.now c.parts-parts.ensures)
    (c.in_ok-write_candidates.ensures.writes states) c.in_err-write_do_file.ensures.writes

pub returns-clause-writes : goal.returns-clause-writes
returns-clause-writes g c =
    let states = c.args.states.now in
    let parts = c.parts-parts.result in
    let missing = noted_text states (creates parts.missing.now) in
    let do_file = noted_text states (change_of (option_copied parts.do_file)) in
    writes-last c.write_own.result _ _ _ (missing ++ do_file) (noted_text states parts.own.now) _
    (parts-text states parts.missing.now (option_copied parts.do_file) parts.own.now c.args.deps.now c.parts-parts.ensures)
    (Appends-trans _ _ _ _ _ (c.in_ok-write_candidates.ensures.writes states) c.in_ok-write_do_file.ensures.writes)
    (subst (λ s. Writes (g.W.ByteOut.held c.write_do_file.new.out) (g.W.ByteOut.held c.write_own.new.out) c.write_own.result (noted_text s parts.own.now)) c.in_ok-write_do_file.ensures.same c.write_own.ensures.writes)
