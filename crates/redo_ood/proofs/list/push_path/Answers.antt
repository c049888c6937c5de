use Rattle.std.proofs.Common.{◌≡◌, ◌∙◌, ◌<◌, ◌++◌, ap, length, map, slice_get, subst, sym}
use Rattle.redo_book.specs.Book.{record_at}
use Rattle.redo_list.specs.Lists.{listed_view}
use Rattle.redo_ood.specs.Listing.{listed_by, run_over}
use Rattle.redo_ood.proofs.ScanLemmas.{got, item-at}
use Rattle.redo_ood.proofs.list.push_path.Goals as goal

pub returns-in_ok-push_recorded-in-Some : goal.returns-in_ok-push_recorded-in-Some
returns-in_ok-push_recorded-in-Some c = λ request limits same.
    let past = c.args.outlook.now.past.now in
    let n = c.in-Some.number in
    let p = c.args.path.now in
    let found : slice_get past.book n ≡ record_at past.book p =
    subst (λ b. slice_get b n ≡ record_at b p) c.book.ensures.book c.in-Some.ensures.found in
    let within : n < length past.book = subst (λ b. n < length b) c.book.ensures.book c.in-Some.ensures.within in
    let r = item-at past.book n within in
    let there = got past.book n r.0 within r.1 in
    c.in_ok-push_recorded-in-Some.ensures request limits same r.0 there
    ∙ ap (λ o. map listed_view c.args.listed.now.items ++ listed_by (run_over past request limits) p o)
    (sym (sym found ∙ there))
