use Rattle.std.proofs.Common.{◌≡◌, rules, subst, Err}
use Rattle.std.specs.IoError.{error_kind}
use Rattle.std.specs.Prelude.{IfErr}
use Rattle.redo_dir.specs.inside.Batches.{Blames, HasWritten, Refusals}
use Rattle.redo_dir.proofs.FrontLemmas.{blames_by}
use Rattle.redo_dir.proofs.drafts.name.Goals as goal

pub returns-in_err-put-in-Ok-clause-refused : goal.returns-in_err-put-in-Ok-clause-refused
returns-in_err-put-in-Ok-clause-refused g c =
    let told : Refusals = λ path kind. (d : g.row.D.Denot) × g.D.DirView.refuses d path kind in
    let draft = c.args.draft in
    let error = c.in_err-put-in-Ok.field-0.0 in
    let written = subst (HasWritten told g.D.Draft.Drafted.drafted (draft.path, draft.content)) c.in-Ok.is c.requires in
    let refused = subst (λ file. g.D.DirView.refuses c.args.dir.now file.0 (error_kind error)) written c.in_err-put-in-Ok.ensures.refused in
    let result : Err (_) ≡ c.from_residual.result = search rules in
    subst (λ r. IfErr r (Blames told draft.path)) result (blames_by told draft.path (error_kind error) (c.args.dir.now, refused))
