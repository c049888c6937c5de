use Rattle.std.proofs.Common.{◌∙◌, ap, subst, sym}
use Rattle.redo_record.specs.Entries.{AreOnce, with_entry}
use Rattle.redo_record.specs.inside.Stored.{stored}
use Rattle.redo_record.proofs.StoredLemmas.{once-with}
use Rattle.redo_record.proofs.deps.Deps.insert.Goals as goal

pub invariant_of-self-in_ok-many-in-Few : goal.invariant_of-self-in_ok-many-in-Few
invariant_of-self-in_ok-many-in-Few c =
    let once = subst (λ s. AreOnce (stored s)) c.in-Few.is c.self.invariant in
    subst AreOnce (sym (c.in_ok-many-in-Few.ensures.ok ∙ c.in_ok-copied_with-in-Few.ensures)) (once-with c.in-Few.entries.items c.args.dep once)

pub invariant_of-self-in_ok-put-in-Many : goal.invariant_of-self-in_ok-put-in-Many
invariant_of-self-in_ok-put-in-Many c =
    let once = subst (λ s. AreOnce (stored s)) c.in-Many.is c.self.invariant in
    let same = ap (λ es. with_entry es c.args.dep.kind c.args.dep.path) c.deref_mut.ensures.value in
    subst AreOnce (sym (c.in_ok-put-in-Many.ensures.ok ∙ same)) (once-with c.in-Many.entries.value c.args.dep once)
