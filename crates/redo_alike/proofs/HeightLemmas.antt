-- Heights, one more at a time.
use Rattle.std.proofs.Common.{◌≡◌, ◌∙◌, ◌<◌, ◌≤◌, ◌+◌, ◌⊎◌, inl, inr, ℕ, List, Option, Some, None, cond, max, refl, sym, ap, subst, arith, length, set, map, take, get_or, replicate, slice_get, All, Contains}
use Rattle.std.specs.Ordering.{MatchOrdering, is_lt, nat_cmp, ord_max}
use Rattle.std.specs.declared.cmp.Ordering.{Ordering}
use Rattle.std.specs.declared.cmp.Ordering.TheVariants.{Less, Equal, Greater}
use Rattle.std.proofs.lemmas.Bool.{cases_eq, cases_lt}
use Rattle.std.proofs.lemmas.Cmp.{ranked}
use Rattle.std.proofs.lemmas.List.{length-map, length-replicate, length-set}
use Rattle.std.proofs.lemmas.List.Elements.{Contains-get_or}
use Rattle.std.proofs.lemmas.Option.{none-some, get_or_from_slice_get, slice_get-get_or, slice_get_within}
use Rattle.redo_alike.specs.Alike.{AreHeights, IsHeight, IsOrder, Needs}
use Rattle.redo_alike.specs.declared.graph.Node.{Node}
use Rattle.redo_alike.specs.inside.Heights.{AreRaised, IsLeastAbove}
use Rattle.redo_alike.specs.inside.Known.{known_at}
use Rattle.redo_alike.proofs.KnownLemmas.{known-all, known-back, known-before, known-here, known-new, known-none, known-still}
use Rattle.redo_alike.proofs.ListLemmas.{front-in, in-front, in-get}

-- ---- the greater of two numbers
pick : (a b : ℕ) (o : Ordering) → MatchOrdering o (b < a) (b ≡ a) (a < b) → cond (is_lt o) a b ≡ max a b
pick a b Less low = omega (arith, low)
pick a b Equal same = omega (arith, same)
pick a b Greater high = omega (arith, high)

pub max-is : (a b : ℕ) → ord_max nat_cmp a b ≡ max a b
max-is a b = pick a b (nat_cmp b a) (ranked b a (nat_cmp b a) refl)

-- ---- the least above some needs
module _ (needs : List ℕ) (known : List (Option ℕ)) (i height new : ℕ) (under : i < length needs) (l : IsLeastAbove needs known i height) where
  at-place : (j m : ℕ) → j ≡ i → slice_get needs j ≡ Some m → get_or needs i 0 ≡ m
  at-place j m same at = get_or_from_slice_get needs i m 0 (ap (slice_get needs) (sym same) ∙ at)

  pub least-some : (below : ℕ) → known_at known (get_or needs i 0) ≡ Some below → new ≡ max height (below + 1) → IsLeastAbove needs known (i + 1) new
  least-some below is new_is = record {
    above = λ j m h low at there. elim (cases_eq j i) [
      | inl same ↦
          let e : Some below ≡ Some h = sym is ∙ ap (known_at known) (at-place j m same at) ∙ there in
          let below_h : below ≡ h = cc in
          omega (arith, below_h, new_is)
      | inr other ↦
          let lt = l.above j m h (omega (arith, low, other)) at there in
          omega (arith, lt, new_is)
    ];
    least = elim (cases_lt height (below + 1)) [
      | inl less ↦
          let e : new ≡ below + 1 = omega (arith, less, new_is) in
          inr (get_or needs i 0, below, Contains-get_or needs i 0 under, is, e)
      | inr more ↦
          let e : height ≡ new = omega (arith, more, new_is) in
          subst (λ k. (k ≡ 0) ⊎ ((m : ℕ) × (h : ℕ) × Contains needs m × (known_at known m ≡ Some h) × (k ≡ h + 1))) e l.least
    ];
  }

  pub least-none : ((h : ℕ) → known_at known (get_or needs i 0) ≡ Some h → ⊥) → new ≡ height → IsLeastAbove needs known (i + 1) new
  least-none none new_is = record {
    above = λ j m h low at there. elim (cases_eq j i) [
      | inl same ↦ absurd (none h (ap (known_at known) (at-place j m same at) ∙ there))
      | inr other ↦
          let lt = l.above j m h (omega (arith, low, other)) at there in
          omega (arith, lt, new_is)
    ];
    least = subst (λ k. (k ≡ 0) ⊎ ((m : ℕ) × (h : ℕ) × Contains needs m × (known_at known m ≡ Some h) × (k ≡ h + 1))) (sym new_is) l.least;
  }

-- ---- heights of nodes
-- a height stays one where more is known
height-kept : (nodes : List Node) (old new : ℕ → Option ℕ) (before : List ℕ) (n h : ℕ) →
    ((m k : ℕ) → old m ≡ Some k → new m ≡ Some k) → ((m k : ℕ) → Contains before m → new m ≡ Some k → old m ≡ Some k) →
    IsHeight nodes old before n h → IsHeight nodes new before n h
height-kept nodes old new before n h more back is = record {
  above = λ m below need in' there. is.above m below need in' (back m below in' there);
  least = elim is.least [
    | inl none ↦ inl none
    | inr s ↦ inr (s.0, s.1, s.2, s.3, more s.0 s.1 s.4, s.5)
  ];
}

pub raised-begun : (nodes : List Node) (order : List ℕ) → AreRaised nodes order (replicate (length nodes) None) 0
raised-begun nodes order = record {
  size = length-replicate (length nodes) None;
  first = λ i n low at. absurd (omega (arith, low));
  back = λ n h is. absurd (none-some h (sym (known-none (length nodes) n) ∙ is));
}

module _ (nodes : List Node) (order : List ℕ) (o : IsOrder nodes order) (known : List (Option ℕ)) (i x h : ℕ)
    (r : AreRaised nodes order known i) (at : slice_get order i ≡ Some x) (under : x < length known)
    (above : (m k : ℕ) → Needs nodes x m → known_at known m ≡ Some k → k < h)
    (least : (h ≡ 0) ⊎ ((m : ℕ) × (k : ℕ) × Needs nodes x m × (known_at known m ≡ Some k) × (h ≡ k + 1))) where
  new : known_at known x ≡ None
  new = known-new order known i x o.once at r.back

  -- none of those before it is this one
  earlier : (j m : ℕ) → j ≤ i → Contains (take j order) m → m ≡ x → ⊥
  earlier j m low is same =
      let found = front-in j order m is in
      let e : found.0 ≡ i = o.once found.0 i x (found.2 ∙ ap Some same) at in
      omega (arith, low, found.1, e)

  back-before : (j m k : ℕ) → j ≤ i → Contains (take j order) m → known_at (set known x (Some h)) m ≡ Some k → known_at known m ≡ Some k
  back-before j m k low is there = elim (known-before known x h under m k there) [
    | inl here ↦ absurd (earlier j m low is here.0)
    | inr old ↦ old
  ]

  small : h ≤ i
  small = elim least [
    | inl none ↦ omega (arith, none)
    | inr s ↦
        let found = r.back s.0 s.1 s.3 in
        let known' = r.first found.0 s.0 found.1 found.2 in
        let e : Some known'.0 ≡ Some s.1 = sym known'.1 ∙ s.3 in
        let same : known'.0 ≡ s.1 = cc in
        omega (arith, found.1, known'.2, same, s.4)
  ]

  its-height : IsHeight nodes (known_at (set known x (Some h))) (take i order) x h
  its-height = record {
    above = λ m below need is there. above m below need (back-before i m below (omega arith) is there);
    least = elim least [
      | inl none ↦ inl none
      | inr s ↦
          let found = r.back s.0 s.1 s.3 in
          inr (s.0, s.1, s.2, in-front i order found.0 s.0 found.1 found.2, known-still known x h new s.0 s.1 s.3, s.4)
    ];
  }

  pub raised-more : AreRaised nodes order (set known x (Some h)) (i + 1)
  raised-more = record {
    size = length-set known x (Some h) ∙ r.size;
    first = λ j n low there. elim (cases_eq j i) [
      | inl same ↦
          let e : Some x ≡ Some n = sym at ∙ ap (slice_get order) (sym same) ∙ there in
          let x_n : x ≡ n = cc in
          subst (λ k. (g : ℕ) × (known_at (set known x (Some h)) n ≡ Some g) × (g ≤ k) × IsHeight nodes (known_at (set known x (Some h))) (take k order) n g) (sym same) (
          subst (λ k. (g : ℕ) × (known_at (set known x (Some h)) k ≡ Some g) × (g ≤ i) × IsHeight nodes (known_at (set known x (Some h))) (take i order) k g) x_n
          (h, known-here known x h under, small, its-height))
      | inr other ↦
          let old = r.first j n (omega (arith, low, other)) there in (
            old.0,
            known-still known x h new n old.0 old.1,
            old.2,
            height-kept nodes (known_at known) (known_at (set known x (Some h))) (take j order) n old.0
                (λ m k is. known-still known x h new m k is)
                (λ m k is now. back-before j m k (omega (arith, low)) is now) old.3,
          )
    ];
    back = known-back known x h order i under at r.back;
  }

-- ---- all heights
module _ (nodes : List Node) (order : List ℕ) (o : IsOrder nodes order) (known : List (Option ℕ)) (count : ℕ)
    (r : AreRaised nodes order known count) (whole : length order ≤ count) where
  pub raised-known : (n : ℕ) → n < length known → (h : ℕ) × (known_at known n ≡ Some h)
  raised-known n low =
      let at = in-get order n (o.all n (omega (arith, low, r.size))) in
      let under : at.0 < length order = slice_get_within order at.0 n at.1 in
      let found = r.first at.0 n (omega (arith, under, whole)) at.1 in
      (found.0, found.1)

  module _ (heights : List ℕ) (same : map Some heights ≡ known) where
    height-at : (n : ℕ) → slice_get heights n ≡ known_at known n
    height-at n = sym (known-all heights n) ∙ ap (λ l. known_at l n) same

    pub raised-size : length heights ≡ length nodes
    raised-size = sym (length-map heights Some) ∙ ap length same ∙ r.size

    pub raised-bound : count ≤ length nodes → All (λ h. h < length nodes) heights
    raised-bound few n d low =
        let h = get_or heights n d in
        let there : known_at known n ≡ Some h = sym (height-at n) ∙ slice_get-get_or heights n d low in
        let found = r.back n h there in
        let known' = r.first found.0 n found.1 found.2 in
        let e : Some known'.0 ≡ Some h = sym known'.1 ∙ there in
        let equal : known'.0 ≡ h = cc in
        omega (arith, few, found.1, known'.2, equal)

    pub raised-heights : AreHeights nodes heights order
    raised-heights i n h at is =
        let there : known_at known n ≡ Some h = sym (height-at n) ∙ is in
        let under : i < length order = slice_get_within order i n at in
        let found = r.first i n (omega (arith, under, whole)) at in
        let e : Some found.0 ≡ Some h = sym found.1 ∙ there in
        let equal : found.0 ≡ h = cc in
        height-kept nodes (known_at known) (slice_get heights) (take i order) n h
        (λ m k old. height-at m ∙ old) (λ m k in' now. sym (height-at m) ∙ now)
        (subst (λ k. IsHeight nodes (known_at known) (take i order) n k) equal found.3)
