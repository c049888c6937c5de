use Rattle.std.proofs.Common.{rules, ◌≡◌, ◌∙◌, ◌<◌, ◌≤◌, ◌+◌, ◌⊎◌, inl, inr, ℕ, Some, Vec, Global, sym, ap, subst, arith, length, map, get_or, slice_get, All, Contains}
use Rattle.std.proofs.lemmas.Result.{IfOk-weaker}
use Rattle.redo_alike.specs.Alike.{AreHeights, Needs, needs_of}
use Rattle.redo_alike.specs.inside.Known.{known_at}
use Rattle.redo_alike.proofs.HeightLemmas.{raised-bound, raised-heights, raised-known, raised-more, raised-size}
use Rattle.redo_alike.proofs.ListLemmas.{get-in}
use Rattle.redo_alike.proofs.WalkLemmas.{needs-there}
use Rattle.redo_alike.proofs.OrderLemmas.{order-at, order-within}
use Rattle.redo_alike.proofs.heights.all_heights.Goals as goal

pub bounds-nodes-number : goal.bounds-nodes-number
bounds-nodes-number c = order-within c.args.nodes.now c.args.order.now c.requires.order c.loop-number.number-index c.loop-number-test.true

pub offset_bounds-nodes-number : goal.offset_bounds-nodes-number
offset_bounds-nodes-number c =
    let low : get_or c.args.order.now c.loop-number.number-index 0 < length c.args.nodes.now =
    order-within c.args.nodes.now c.args.order.now c.requires.order c.loop-number.number-index c.loop-number-test.true in
    search rules

pub height_above-height-requires-clause-within : goal.height_above-height-requires-clause-within
height_above-height-requires-clause-within c k m there =
    let nodes = c.args.nodes.now in
    let x = get_or c.args.order.now c.loop-number.number-index 0 in
    let low : x < length nodes = order-within nodes c.args.order.now c.requires.order c.loop-number.number-index c.loop-number-test.true in
    let same : c.deref.result.now ≡ needs_of (slice_get nodes x) = c.deref.ensures.value ∙ sym (needs-there nodes x c.index-nodes-number.result low) in
    let under : m < length nodes = c.requires.graph x m (get-in (needs_of (slice_get nodes x)) k m (subst (λ l. slice_get l k ≡ Some m) same there)) in
    let size : length c.deref-in-loop-number.result.now ≡ length nodes = ap length c.deref-in-loop-number.ensures.value ∙ c.loop-number.invariant.size in
    omega (arith, under, size)

pub index_mut-requires : goal.index_mut-requires
index_mut-requires c =
    let low : get_or c.args.order.now c.loop-number.number-index 0 < length c.args.nodes.now =
    order-within c.args.nodes.now c.args.order.now c.requires.order c.loop-number.number-index c.loop-number-test.true in
    let size : length c.loop-number.known.items ≡ length c.args.nodes.now = c.loop-number.invariant.size in
    let under : get_or c.args.order.now c.loop-number.number-index 0 < length c.loop-number.known.items = omega (arith, low, size) in
    search rules

pub loop-number-preserved : goal.loop-number-preserved
loop-number-preserved c =
    let nodes = c.args.nodes.now in
    let order = c.args.order.now in
    let i = c.loop-number.number-index in
    let known = c.loop-number.known.items in
    let x = get_or order i 0 in
    let h = c.height_above-height.result in
    let low : x < length nodes = order-within nodes order c.requires.order i c.loop-number-test.true in
    let same : c.deref.result.now ≡ needs_of (slice_get nodes x) = c.deref.ensures.value ∙ sym (needs-there nodes x c.index-nodes-number.result low) in
    let table = c.deref-in-loop-number.ensures.value in
    let above = λ (m k : ℕ) (need : Needs nodes x m) (there : known_at known m ≡ Some k).
    c.height_above-height.ensures.above m k (subst (λ l. Contains l m) (sym same) need) (ap (λ l. known_at l m) table ∙ there) in
    let least : (h ≡ 0) ⊎ ((m : ℕ) × (k : ℕ) × Needs nodes x m × (known_at known m ≡ Some k) × (h ≡ k + 1)) = elim c.height_above-height.ensures.least [
      | inl none ↦ inl none
      | inr s ↦ inr (s.0, s.1, subst (λ l. Contains l s.0) same s.2, ap (λ l. known_at l s.0) (sym table) ∙ s.3, s.4)
    ] in
    raised-more nodes order c.requires.order known i x h c.loop-number.invariant (order-at nodes order c.requires.order i c.loop-number-test.true)
    (omega (arith, low, c.loop-number.invariant.size)) above least

pub all_known-requires : goal.all_known-requires
all_known-requires c n low =
    let table = c.deref-2.ensures.value in
    let found = raised-known c.args.nodes.now c.args.order.now c.requires.order c.loop-number.known.items c.loop-number.number-index c.loop-number.invariant
    c.loop-number-test.false n (subst (λ l. n < length l) table low) in
    (found.0, ap (λ l. known_at l n) table ∙ found.1)

pub returns-clause-size : goal.returns-clause-size
returns-clause-size c =
    IfOk-weaker c.all_known.result (λ (all : Vec ℕ Global). map Some all.items ≡ c.deref-2.result.now)
    (λ (all : Vec ℕ Global). length all.items ≡ length c.args.nodes.now)
    (λ (all : Vec ℕ Global) same.
    raised-size c.args.nodes.now c.args.order.now c.requires.order c.loop-number.known.items c.loop-number.number-index c.loop-number.invariant
    c.loop-number-test.false all.items (same ∙ c.deref-2.ensures.value)) c.all_known.ensures

pub returns-clause-bound : goal.returns-clause-bound
returns-clause-bound c =
    let few : c.loop-number.number-index ≤ length c.args.nodes.now = omega (arith, c.loop-number.auto.number-index-end, c.requires.size) in
    IfOk-weaker c.all_known.result (λ (all : Vec ℕ Global). map Some all.items ≡ c.deref-2.result.now)
    (λ (all : Vec ℕ Global). All (λ h. h < length c.args.nodes.now) all.items)
    (λ (all : Vec ℕ Global) same.
    raised-bound c.args.nodes.now c.args.order.now c.requires.order c.loop-number.known.items c.loop-number.number-index c.loop-number.invariant
    c.loop-number-test.false all.items (same ∙ c.deref-2.ensures.value) few) c.all_known.ensures

pub returns-clause-heights : goal.returns-clause-heights
returns-clause-heights c =
    IfOk-weaker c.all_known.result (λ (all : Vec ℕ Global). map Some all.items ≡ c.deref-2.result.now)
    (λ (all : Vec ℕ Global). AreHeights c.args.nodes.now all.items c.args.order.now)
    (λ (all : Vec ℕ Global) same.
    raised-heights c.args.nodes.now c.args.order.now c.requires.order c.loop-number.known.items c.loop-number.number-index c.loop-number.invariant
    c.loop-number-test.false all.items (same ∙ c.deref-2.ensures.value)) c.all_known.ensures
