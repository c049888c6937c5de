use Rattle.std.proofs.Common.{◌≡◌, ◌∙◌, ◌<◌, ℕ, List, Some, ap, refl, subst, sym, length}
use Rattle.std.proofs.lemmas.Option.{slice_get_read}
use Rattle.redo_digest.specs.Digest.{IsState, state_of}
use Rattle.redo_tree.specs.declared.entries.Entry.{Entry}
use Rattle.redo_tree.specs.Tree.{bytes_of, file_at, node_of}
use Rattle.redo_tree.proofs.FileDigestLemmas.{found-file, one-more, state-is}
use Rattle.redo_tree.proofs.file_digests.FileDigests.state_at.Goals as goal

pub returns-in-Some-clause-value : goal.returns-in-Some-clause-value
returns-in-Some-clause-value c =
    let es = c.self.inside.entries.now in
    let made = c.self.inside.made.items in
    let number = c.in_ok-number.number in
    let e : List ℕ × Entry = (c.at.result.0.now, c.at.result.1.now) in
    let inside = subst (λ n. number < n) (sym c.self.invariant.room) c.in_ok-number.ensures.within in
    let there = slice_get_read made (length made) number c.index.result.now refl inside c.index.ensures in
    let told : state_of (bytes_of (node_of e.1)) ≡ Some c.in-Some.digest = c.self.invariant.each number c.in-Some.digest e (there ∙ ap Some c.in-Some.is) c.at.ensures.pair in
    let file = found-file es c.text.result.now number e c.self.invariant.finds c.in_ok-number.ensures.value c.at.ensures.pair in
    sym (ap state_of file ∙ told) ∙ (λ i. state_of (file_at (c.self.view_is i) (c.text.ensures.text i)))

pub returns-in-Some-clause-state : goal.returns-in-Some-clause-state
returns-in-Some-clause-state c =
    subst IsState (sym (returns-in-Some-clause-value c)) (state-is c.a_content_has_a_digest.ensures (file_at c.args.self.now c.args.path.now))

pub invariant_of-self : goal.invariant_of-self
invariant_of-self c =
    let es = c.self.inside.entries.now in
    let e : List ℕ × Entry = (c.at.result.0.now, c.at.result.1.now) in
    let is : state_of (bytes_of (node_of e.1)) ≡ Some c.digest-digest.result =
    ap (λ entry. state_of (bytes_of (node_of entry))) c.in_default-File.is-1 ∙ ap Some (sym c.digest-digest.ensures.sha256) in
    one-more es c.self.inside.made.items c.in_ok-number.number c.digest-digest.result e c.self.invariant c.at.ensures.pair is
