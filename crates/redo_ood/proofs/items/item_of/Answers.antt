use Rattle.std.proofs.Common.{subst, sym}
use Rattle.redo_rules.specs.Build.{checks_for, sources_for}
use Rattle.redo_ood.specs.Listing.{run_over}
use Rattle.redo_ood.specs.inside.Rows.{IsItem}
use Rattle.redo_ood.proofs.items.item_of.Goals as goal

pub returns-in_ok-asked_item-in-None : goal.returns-in_ok-asked_item-in-None
returns-in_ok-asked_item-in-None c = λ request limits same.
    let past = c.args.past.now in
    subst (λ e. IsItem (sources_for (run_over past request limits)) (checks_for (run_over past request limits)) past.book e
    c.in_ok-asked_item-in-None.field-0) (sym c.in-Change.is) (c.in_ok-asked_item-in-None.ensures request limits same)
