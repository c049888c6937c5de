use Rattle.std.proofs.Common.{◌++◌, ◌∷◌, [], refl, sym, ap, append_assoc}
use Rattle.std.specs.Prelude.{flat_map}
use Rattle.std.specs.Arc.{arc_value}
use Rattle.std.proofs.KnownBytes.{Appends-nil, Appends-trans}
use Rattle.redo_report.specs.ReportText.{dep_line, outcome_words, path_line}
use Rattle.redo_report.proofs.WritingLemmas.{writes-failed, writes-last}
use Rattle.redo_report.proofs.text.write_row.Goals as goal

pub returns-in_err-write_outcome-clause-writes : goal.returns-in_err-write_outcome-clause-writes
returns-in_err-write_outcome-clause-writes g c =
    let row = c.args.row.now in
    let deps = flat_map dep_line (arc_value row.deps) in
    writes-failed _ c.in_err-write_outcome.field-0.0 c.from_residual.result c.from_residual.ensures.1 _ _ _
    [] (outcome_words row.outcome) ((32 ∷ path_line row.path) ++ deps) _
    (append_assoc (outcome_words row.outcome) (32 ∷ path_line row.path) deps) (Appends-nil _) c.in_err-write_outcome.ensures.writes

pub returns-in_err-write_path_line-clause-writes : goal.returns-in_err-write_path_line-clause-writes
returns-in_err-write_path_line-clause-writes g c =
    let row = c.args.row.now in
    let deps = flat_map dep_line (arc_value row.deps) in
    writes-failed _ c.in_err-write_path_line.field-0.0 c.from_residual-in_err-write_path_line.result c.from_residual-in_err-write_path_line.ensures.1 _ _ _
    (outcome_words row.outcome) (32 ∷ path_line row.path) deps _
    refl c.in_ok-write_outcome.ensures.writes c.in_err-write_path_line.ensures.writes

pub returns-clause-writes : goal.returns-clause-writes
returns-clause-writes g c =
    let row = c.args.row.now in
    let deps = flat_map dep_line c.deref.result.now in
    writes-last c.write_record.result _ _ _ (outcome_words row.outcome ++ 32 ∷ path_line row.path) deps _
    (ap (λ l. (outcome_words row.outcome ++ 32 ∷ path_line row.path) ++ flat_map dep_line l) (sym c.deref.ensures))
    (Appends-trans _ _ _ _ _ c.in_ok-write_outcome.ensures.writes c.in_ok-write_path_line.ensures.writes) c.write_record.ensures.writes
