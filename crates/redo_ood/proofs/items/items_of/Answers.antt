use Rattle.std.proofs.Common.{◌≡◌, ◌++◌, ◌∷◌, [], rules, subst, sym, take}
use Rattle.redo_rules.specs.Build.{checks_for, sources_for}
use Rattle.redo_ood.specs.Listing.{run_over}
use Rattle.redo_ood.specs.inside.Rows.{AreItems}
use Rattle.redo_ood.proofs.ItemLemmas.{items-more}
use Rattle.redo_ood.proofs.ScanLemmas.{taken}
use Rattle.redo_ood.proofs.items.items_of.Goals as goal

pub loop-entry-preserved : goal.loop-entry-preserved
loop-entry-preserved c = λ request limits same.
    let past = c.args.past.now in
    let s = sources_for (run_over past request limits) in
    let k = checks_for (run_over past request limits) in
    let es = c.args.entries.now in
    let i = c.loop-entry.entry-index in
    let e = c.entry-item.result in
    let pushed : c.push.new.self.items ≡ c.loop-entry.items.items ++ c.in_ok-item_of.field-0 ∷ [] = search rules in
    subst (λ xs. AreItems s k past.book xs c.push.new.self.items) (sym (taken es i e c.loop-entry-test.true c.entry-item.is))
    (subst (AreItems s k past.book (take i es ++ e ∷ [])) (sym pushed)
    (items-more s k past.book (take i es) c.loop-entry.items.items e c.in_ok-item_of.field-0
    (c.loop-entry.invariant request limits same) (c.in_ok-item_of.ensures request limits same)))
