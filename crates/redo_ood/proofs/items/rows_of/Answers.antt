use Rattle.std.proofs.Common.{◌≡◌, ◌++◌, ◌∷◌, [], map, rules, subst, sym, take}
use Rattle.redo_book.specs.Book.{record_of}
use Rattle.redo_rules.specs.Build.{checks_for, sources_for}
use Rattle.redo_ood.specs.Listing.{run_over}
use Rattle.redo_ood.specs.inside.Rows.{AreItems, AreRows}
use Rattle.redo_ood.proofs.ItemLemmas.{rows-more}
use Rattle.redo_ood.proofs.ScanLemmas.{mapped}
use Rattle.redo_ood.proofs.items.rows_of.Goals as goal

pub loop-made-preserved : goal.loop-made-preserved
loop-made-preserved c = λ request limits same.
    let past = c.args.past.now in
    let s = sources_for (run_over past request limits) in
    let k = checks_for (run_over past request limits) in
    let ms = c.records-made-items.result.now in
    let i = c.loop-made.made-index in
    let made = c.made-item.result in
    let row = c.in_ok-items_of.field-0 in
    let pushed : c.push.new.self.items ≡ c.loop-made.rows.items ++ row ∷ [] = search rules in
    let items : AreItems s k past.book (record_of made).entries row.items.items =
    subst (λ es. AreItems s k past.book es row.items.items) c.deref.ensures.value (c.in_ok-items_of.ensures request limits same) in
    subst (λ rs. AreRows s k past.book rs c.push.new.self.items) (sym (mapped record_of ms i made c.loop-made-test.true c.made-item.is))
    (subst (AreRows s k past.book (map record_of (take i ms) ++ record_of made ∷ [])) (sym pushed)
    (rows-more s k past.book (map record_of (take i ms)) c.loop-made.rows.items (record_of made) row
    (c.loop-made.invariant request limits same) items))
