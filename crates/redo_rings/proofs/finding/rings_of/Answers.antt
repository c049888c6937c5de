use Rattle.std.proofs.Common.{◌≡◌, ◌∙◌, ◌+◌, ◌<◌, Some, None, ap, get_or, length, rules, subst, sym, take}
use Rattle.std.specs.List.{count_by}
use Rattle.std.proofs.lemmas.List.{get_or_read}
use Rattle.redo_rings.specs.declared.ring.Ring.{Ring}
use Rattle.redo_rings.specs.declared.walks.Circle.{Circle}
use Rattle.redo_rings.specs.inside.Found.{AreRingsOf, IsRingOf, is_at}
use Rattle.redo_rings.proofs.FoundLemmas.{ring-more, ring-none}
use Rattle.redo_rings.proofs.finding.rings_of.Goals as goal
use Rattle.redo_rings.proofs.finding.rings_of.Goals.{in-Some+in_ok-ring_of+in_ok-push, in_default}

pub loop-first-preserved : goal.loop-first-preserved
loop-first-preserved c =
    let names = c.args.names.now in
    let places = c.args.walks.now.places.items in
    let circles = c.args.walks.now.circles.items in
    let counts = c.in_ok-counts.counts.items in
    let i = c.loop-first.first in
    let R = λ (x : Circle) (r : Ring). IsRingOf names (count_by (is_at (get_or x.members.items 0 0)) places) x r in
    let under : i < length circles = search rules in
    let read = get_or_read circles i c.index.result.now under c.index.ensures None in
    elim c.match-index.branch [
      | in-Some+in_ok-ring_of+in_ok-push w ↦
          let circle = w.in-Some.circle in
          let ring = w.in_ok-ring_of.field-0 in
          let at : get_or circles i None ≡ Some circle = sym read ∙ w.in-Some.is in
          let counted : i < length counts = search (rules, c.in_ok-counts.ensures.size, c.requires.size, c.deref.ensures.value) in
          let count = get_or_read counts i w.index-in-Some.result.now counted w.index-in-Some.ensures 0
          ∙ c.in_ok-counts.ensures.each i ∙ ap (count_by (is_at i)) c.deref.ensures.value
          ∙ ap (λ m. count_by (is_at m) places) (sym (c.requires.first i circle at)) in
          let is = subst (λ n. IsRingOf names n circle ring) count w.in_ok-ring_of.ensures in
          subst (λ rs. AreRingsOf names places (take (i + 1) circles) rs) (sym (let h : c.match-index.rings.items ≡ w.push.new.self.items = search rules in h ∙ w.in_ok-push.ensures.items))
          (ring-more R circles i c.loop-first.rings.items circle ring under at c.loop-first.invariant is)
      | in_default w ↦
          subst (λ rs. AreRingsOf names places (take (i + 1) circles) rs) (sym (let h : c.match-index.rings.items ≡ c.loop-first.rings.items = search rules in h))
          (ring-none R circles i c.loop-first.rings.items under (sym read ∙ w.in_default.is) c.loop-first.invariant)
    ]
