use Rattle.std.proofs.Common.{◌≡◌, false, sym, ap, subst, ◌∙◌}
use Rattle.redo_record.specs.Entries.{AreOnce, is_entered}
use Rattle.redo_record.proofs.StoredLemmas.{once-append}
use Rattle.redo_record.proofs.deps.add.Goals as goal

pub returns-in_ok-push-clause-once : goal.returns-in_ok-push-clause-once
returns-in_ok-push-clause-once c =
    let new : is_entered c.args.entries.now.items c.args.dep.kind c.args.dep.path ≡ false =
    ap (λ es. is_entered es c.args.dep.kind c.args.dep.path) (sym c.deref.ensures.value) ∙ sym c.if-not-is_among.ensures in
    subst AreOnce (sym c.in_ok-push.ensures.items) (once-append c.args.entries.now.items c.args.dep c.requires new)
