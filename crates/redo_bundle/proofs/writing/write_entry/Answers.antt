use Rattle.std.proofs.Common.{◌++◌, ◌∷◌, [], ◌∙◌, ap, sym, append-nil}
use Rattle.std.proofs.lemmas.Result.{err_from_is_err_and}
use Rattle.std.specs.Prelude.{Err}
use Rattle.std.proofs.KnownBytes.{Appends-trans}
use Rattle.redo_tree.specs.Tree.{node_of}
use Rattle.redo_bundle.proofs.PieceLemmas.{Writes-then, Writes-cut, spelling-cut, spelling-file}
use Rattle.redo_bundle.proofs.writing.write_entry.Goals as goal

pub returns-in_err-write_all-clause-writes : goal.returns-in_err-write_all-clause-writes
returns-in_err-write_all-clause-writes g c =
    let line = c.deref.result.now in
    let node = node_of c.args.entry.now in
    let p = err_from_is_err_and c.from_residual-in_err-write_all.result c.from_residual-in_err-write_all.ensures.1 in
    rw p.1 (Writes-cut c.in_err-write_all.field-0.0 p.0 _ _ line _ _ (spelling-cut c.args.path.now node line (c.deref.ensures.value ∙ c.in_ok-line.ensures)) c.in_err-write_all.ensures.writes)

pub returns-in_err-write_all-2-clause-writes : goal.returns-in_err-write_all-2-clause-writes
returns-in_err-write_all-2-clause-writes g c =
    let line = c.deref.result.now in
    let node = node_of c.args.entry.now in
    let came = c.bytes.result.now in
    let f = c.in_err-write_all-2.field-0.0 in
    let p = err_from_is_err_and c.from_residual-in_err-write_all-2.result c.from_residual-in_err-write_all-2.ensures.1 in
    rw p.1 (Writes-cut f p.0 _ _ (line ++ came) (10 ∷ []) _ (spelling-file c.args.path.now node line c.in-File.content came (c.deref.ensures.value ∙ c.in_ok-line.ensures) (ap node_of c.in-File.is) c.bytes.ensures)
    (Writes-then (Err f) _ _ _ line came c.in_ok-write_all.ensures.writes c.in_err-write_all-2.ensures.writes))

pub returns-in_err-write_all-3-clause-writes : goal.returns-in_err-write_all-3-clause-writes
returns-in_err-write_all-3-clause-writes g c =
    let line = c.deref.result.now in
    let node = node_of c.args.entry.now in
    let came = c.bytes.result.now in
    let f = c.in_err-write_all-3.field-0.0 in
    let p = err_from_is_err_and c.from_residual-in_err-write_all-3.result c.from_residual-in_err-write_all-3.ensures.1 in
    rw p.1 (Writes-cut f p.0 _ _ ((line ++ came) ++ 10 ∷ []) [] _ (spelling-file c.args.path.now node line c.in-File.content came (c.deref.ensures.value ∙ c.in_ok-line.ensures) (ap node_of c.in-File.is) c.bytes.ensures ∙ sym (append-nil _))
    (Writes-then (Err f) _ _ _ (line ++ came) (10 ∷ []) (Appends-trans _ _ _ _ _ c.in_ok-write_all.ensures.writes c.in_ok-write_all-2.ensures.writes) c.in_err-write_all-3.ensures.writes))
