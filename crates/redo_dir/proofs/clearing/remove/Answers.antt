use Rattle.std.proofs.Common.{rules, ◌≡◌, Err, subst, sym}
use Rattle.std.specs.IoError.{error_kind}
use Rattle.std.specs.Prelude.{IfErr}
use Rattle.redo_which.specs.Candidates.{journal_path}
use Rattle.redo_dir.specs.inside.Batches.{BlamesCall, Refusals}
use Rattle.redo_dir.proofs.JournalLemmas.{call_blames}
use Rattle.redo_dir.proofs.clearing.remove.Goals as goal

pub returns-in_err-settle-clause-refused : goal.returns-in_err-settle-clause-refused
returns-in_err-settle-clause-refused g c =
    let told : Refusals = λ path kind. (d : g.row.D.Denot) × g.D.DirView.refuses d path kind in
    let error = c.in_err-settle.field-0.0 in
    let journal : c.args.path.now ≡ journal_path = search rules in
    let refused = subst (λ path. g.D.DirView.refuses c.args.dir.now path (error_kind error)) (sym journal) c.in_err-settle.ensures.refused.1 in
    let result : Err (_) ≡ c.from_residual.result = search rules in
    subst (λ r. IfErr r (BlamesCall told c.args.path.now)) result (call_blames told c.args.path.now (error_kind error) (c.args.dir.now, refused))
