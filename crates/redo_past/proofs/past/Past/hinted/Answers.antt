use Rattle.std.proofs.Common.{◌≡◌, ◌∙◌, Some, length, refl, slice_get, sym}
use Rattle.std.proofs.lemmas.Option.{slice_get_read}
use Rattle.redo_past.proofs.CarryLemmas.{read-hinted}
use Rattle.redo_past.proofs.OrderLemmas.{same_path}
use Rattle.redo_past.proofs.PastLemmas.{past_book}
use Rattle.redo_past.proofs.past.Past.hinted.Goals as goal

pub returns-then-eq-clause-found : goal.returns-then-eq-clause-found
returns-then-eq-clause-found c =
    let past = c.args.self.now in
    let t = c.args.target.now in
    let records = c.records.result.now in
    let x = c.in_ok-record.record.now in
    let n = c.in_ok-index.index in
    let lookup = c.in_ok-record.ensures.lookup in
    let read : slice_get records n ≡ Some x = slice_get_read records (length records) n x refl lookup.3.0 lookup.1 in
    let same : x.target ≡ t = same_path x.target t (sym c.eq.ensures ∙ c.if-eq.true) in
    read-hinted records past.book n x t (past_book past c.book.ensures.past).sorted (c.records.ensures.records ∙ c.book.ensures.book) read same
