use Rattle.std.proofs.Common.{◌++◌, ◌∷◌, [], ap, map, refl, sym}
use Rattle.std.proofs.KnownBytes.{Appends-nil}
use Rattle.redo_book.specs.Book.{entry_line, record_of, target_line, text_of}
use Rattle.redo_book.proofs.WriteLemmas.{writes-failed, writes-last}
use Rattle.redo_book.proofs.writing.write_record.Goals as goal

pub returns-in_err-write_target-clause-writes : goal.returns-in_err-write_target-clause-writes
returns-in_err-write_target-clause-writes g c =
    let r = record_of c.args.record.now in
    writes-failed _ c.in_err-write_target.field-0.0 c.from_residual.result c.from_residual.ensures.1 _ _ _
    [] (target_line r.state r.target ++ 10 ∷ []) (text_of (map entry_line r.entries)) _ refl (Appends-nil _) c.in_err-write_target.ensures.writes

pub returns-clause-writes : goal.returns-clause-writes
returns-clause-writes g c =
    let r = record_of c.args.record.now in
    writes-last c.write_entries.result _ _ _ (target_line r.state r.target ++ 10 ∷ []) (text_of (map entry_line c.deref.result.now)) _
    (ap (λ es. (target_line r.state r.target ++ 10 ∷ []) ++ text_of (map entry_line es)) (sym c.deref.ensures.value))
    c.in_ok-write_target.ensures.writes c.write_entries.ensures.writes
