use Rattle.std.proofs.Common.{◌≡◌, rules, subst, Err}
use Rattle.std.specs.IoError.{error_kind}
use Rattle.std.specs.Prelude.{IfErr}
use Rattle.redo_which.specs.Candidates.{book_path}
use Rattle.redo_dir.specs.inside.Batches.{BlamesCall, Refusals}
use Rattle.redo_dir.proofs.JournalLemmas.{call_blames}
use Rattle.redo_dir.proofs.clearing.put_book.Goals as goal

pub returns-in_err-settle-clause-refused : goal.returns-in_err-settle-clause-refused
returns-in_err-settle-clause-refused g c =
    let told : Refusals = λ path kind. (d : g.row.D.Denot) × g.D.DirView.refuses d path kind in
    let error = c.in_err-settle.field-0.0 in
    let result : Err (_) ≡ c.from_residual-in_err-settle.result = search rules in
    subst (λ r. IfErr r (BlamesCall told book_path)) result (call_blames told book_path (error_kind error) (c.args.dir.now, c.in_err-settle.ensures.refused.0))

pub returns-in_err-draft-clause-refused : goal.returns-in_err-draft-clause-refused
returns-in_err-draft-clause-refused g c =
    let told : Refusals = λ path kind. (d : g.row.D.Denot) × g.D.DirView.refuses d path kind in
    let error = c.in_err-draft.field-0.0 in
    let refused = subst (λ path. g.D.DirView.refuses c.resume.new.self path (error_kind error)) c.in_ok-path.ensures c.in_err-draft.ensures.refused in
    let result : Err (_) ≡ c.from_residual-in_err-draft.result = search rules in
    subst (λ r. IfErr r (BlamesCall told book_path)) result (call_blames told book_path (error_kind error) (c.resume.new.self, refused))

pub returns-in_err-put-clause-refused : goal.returns-in_err-put-clause-refused
returns-in_err-put-clause-refused g c =
    let told : Refusals = λ path kind. (d : g.row.D.Denot) × g.D.DirView.refuses d path kind in
    let error = c.in_err-put.field-0.0 in
    let drafted : (g.D.Draft.Drafted.drafted c.in_ok-draft.draft).0 ≡ book_path = search rules in
    let refused = subst (λ path. g.D.DirView.refuses c.resume.new.self path (error_kind error)) drafted c.in_err-put.ensures.refused in
    let result : Err (_) ≡ c.from_residual-in_err-put.result = search rules in
    subst (λ r. IfErr r (BlamesCall told book_path)) result (call_blames told book_path (error_kind error) (c.resume.new.self, refused))
