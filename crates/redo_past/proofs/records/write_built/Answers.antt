use Rattle.std.proofs.Common.{◌++◌, ◌∷◌, ◌∙◌, [], ap, sym}
use Rattle.std.specs.Arc.{arc_value}
use Rattle.std.proofs.KnownBytes.{Appends-nil}
use Rattle.redo_book.specs.Book.{target_line}
use Rattle.redo_report.proofs.WritingLemmas.{writes-failed, writes-last}
use Rattle.redo_past.specs.inside.Books.{noted_text}
use Rattle.redo_past.proofs.NotedLemmas.{built-text}
use Rattle.redo_past.proofs.records.write_built.Goals as goal

pub returns-in_err-write_target-clause-writes : goal.returns-in_err-write_target-clause-writes
returns-in_err-write_target-clause-writes g c =
    let states = c.args.states.now in
    let row = c.args.row.now in
    writes-failed _ c.in_err-write_target.field-0.0 c.from_residual.result c.from_residual.ensures.1 _ _ _
    [] (target_line c.built_state.result row.path ++ 10 ∷ []) (noted_text states (arc_value row.deps)) _
    (built-text states row c.built_state.result c.built_state.ensures.value) (Appends-nil _) c.in_err-write_target.ensures.writes

pub returns-clause-writes : goal.returns-clause-writes
returns-clause-writes g c =
    let states = c.args.states.now in
    let row = c.args.row.now in
    writes-last c.write_entries.result _ _ _ (target_line c.built_state.result row.path ++ 10 ∷ []) (noted_text states c.deref.result.now) _
    (built-text states row c.built_state.result c.built_state.ensures.value ∙ ap (λ ds. (target_line c.built_state.result row.path ++ 10 ∷ []) ++ noted_text states ds) (sym c.deref.ensures))
    c.in_ok-write_target.ensures.writes c.write_entries.ensures.writes
