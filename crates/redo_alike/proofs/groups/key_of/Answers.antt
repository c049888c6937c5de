use Rattle.std.proofs.Common.{◌≡◌, ◌∙◌, ◌<◌, inl, inr, refl, Some, sym, ap, subst, arith, length, slice_get, Contains}
use Rattle.std.proofs.lemmas.Option.{slice_get_read}
use Rattle.redo_alike.specs.Alike.{needs_of}
use Rattle.redo_alike.specs.inside.Groups.{AreGroupsOf}
use Rattle.redo_alike.specs.inside.Known.{known_at}
use Rattle.redo_alike.proofs.ListLemmas.{get-in}
use Rattle.redo_alike.proofs.groups.key_of.Goals as goal

pub returns-then-node : goal.returns-then-node
returns-then-node c =
    let nodes = c.args.nodes.now in
    let n = c.args.number in
    let node = c.index-nodes-number.result in
    (refl, inl (node, slice_get_read nodes (length nodes) n node refl c.requires.within c.index-nodes-number.is, c.if-node.true))

pub groups_below-requires : goal.groups_below-requires
groups_below-requires c k m at =
    let nodes = c.args.nodes.now in
    let n = c.args.number in
    let there = slice_get_read nodes (length nodes) n c.index-nodes-number.result refl c.requires.within c.index-nodes-number.is in
    let same : c.deref.result.now ≡ needs_of (slice_get nodes n) = c.deref.ensures.value ∙ sym (ap needs_of there) in
    let low : m < length nodes = c.requires.graph n m (get-in (needs_of (slice_get nodes n)) k m (subst (λ l. slice_get l k ≡ Some m) same at)) in
    omega (arith, low, c.requires.size)

pub returns-in-Some : goal.returns-in-Some
returns-in-Some c =
    let nodes = c.args.nodes.now in
    let n = c.args.number in
    let node = c.index-nodes-number.result in
    let known = c.args.known.now in
    let there = slice_get_read nodes (length nodes) n node refl c.requires.within c.index-nodes-number.is in
    let same : c.deref.result.now ≡ needs_of (slice_get nodes n) = c.deref.ensures.value ∙ sym (ap needs_of there) in
    let says = c.in-Some.is in
    record {
      node = node;
      there = there;
      kinds = refl;
      not_alone = c.if-node.false;
      known = λ m need. rw says at c.in_ok-groups.ensures.known m (subst (λ l. Contains l m) (sym same) need);
      below = subst (λ l. AreGroupsOf l (known_at known) c.in-Some.groups.items) same (rw says at c.in_ok-groups.ensures.groups);
    }

pub returns-in-None : goal.returns-in-None
returns-in-None c =
    let nodes = c.args.nodes.now in
    let n = c.args.number in
    let node = c.index-nodes-number.result in
    let there = slice_get_read nodes (length nodes) n node refl c.requires.within c.index-nodes-number.is in
    let same : c.deref.result.now ≡ needs_of (slice_get nodes n) = c.deref.ensures.value ∙ sym (ap needs_of there) in
    let says = c.in-None.is in
    let found = rw says at c.in_ok-groups.ensures.none in
    (refl, inr (found.0, subst (λ l. Contains l found.0) same found.1, found.2))
