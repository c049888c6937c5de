use Rattle.std.proofs.Common.{◌<◌, arith, inl, inr, length, map, subst}
use Rattle.redo_names.specs.Paths.{IsAmong}
use Rattle.redo_book.specs.Book.{record_of}
use Rattle.redo_query.specs.Names.{users}
use Rattle.redo_query.proofs.NeedLemmas.{user-at}
use Rattle.redo_query.proofs.RoundLemmas.{record-at}
use Rattle.redo_query.proofs.needing.note_numbered.Goals as goal

pub returns : goal.returns
returns c = λ t m.
    let rs = c.args.records.now in
    let x = c.index-records-number.result in
    let within : c.args.number < length rs = omega arith in
    elim (c.in_ok-note_user.ensures t m) [
      | inl there ↦ inl there
      | inr o ↦ inr (subst (IsAmong (users (map record_of rs) c.args.path.now)) o.1
          (user-at (map record_of rs) c.args.path.now c.args.number (record_of x) (record-at rs c.args.number x within c.index-records-number.is) o.0))
    ]
