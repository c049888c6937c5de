use Rattle.std.proofs.Common.{◌≡◌, ◌+◌, ◌∙◌, ◌||◌, ◌∷◌, [], ◌++◌, false, map, subst, sym, take}
use Rattle.redo_book.specs.Book.{record_of}
use Rattle.redo_names.specs.Paths.{IsAmong}
use Rattle.redo_query.specs.inside.Found.{IsClosed, NeedsBy}
use Rattle.redo_query.proofs.NearLemmas.{all-last}
use Rattle.redo_query.proofs.NeedLemmas.{visit-need}
use Rattle.redo_query.proofs.RoundLemmas.{left-none, right-none, record-at, record-more}
use Rattle.redo_query.proofs.needing.round.Goals as goal

pub loop-made-preserved : goal.loop-made-preserved
loop-made-preserved c =
    let rs = c.args.records.now in
    let i = c.loop-made.made-index in
    let x = c.made-item.result in
    let old = c.loop-made.found in
    let new = c.visit.new.found in
    let path = c.args.path.now in
    record {
      need = λ h. visit-need (map record_of rs) path old new i (record_of x) (record-at rs i x c.loop-made-test.true c.made-item.is) c.in_ok-new.ensures.only (c.loop-made.invariant.need h);
      closed = λ none.
          let both : (c.loop-made.more || c.in_ok-new.new) ≡ false = sym c.either-more.ensures ∙ none in
          let fresh = right-none c.loop-made.more c.in_ok-new.new both in
          let before = c.loop-made.invariant.closed (left-none c.loop-made.more c.in_ok-new.new both) in
          let after : IsClosed (map record_of (take i rs) ++ record_of x ∷ []) path old =
          all-last (λ r. NeedsBy old path r → IsAmong old r.target) (map record_of (take i rs)) (record_of x) before (c.in_ok-new.ensures.there fresh) in
          subst (IsClosed (map record_of (take (i + 1) rs)) path) (sym (c.in_ok-new.ensures.same fresh))
          (subst (λ ms. IsClosed ms path old) (sym (record-more rs i x c.loop-made-test.true c.made-item.is)) after);
    }
