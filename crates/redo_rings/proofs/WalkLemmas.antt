-- Walks, joined and split.
use Rattle.std.proofs.Common.{◌≡◌, ◌⊎◌, ◌<◌, arith, get_or, length, set, inl, inr, ℕ, zero, suc, Bool, true, false, List, [], ◌∷◌, ◌++◌, Option, Some, refl, sym, ap, subst}
use Rattle.redo_rings.specs.inside.Walks.{AreOnce, Goes, IsIn, next_at, seen_at, unseen_count}

module _ (next : List (Option ℕ)) where
  pub goes-push : (at : Option ℕ) (ns : List ℕ) (n : ℕ) → Goes next at ns (Some n) → Goes next at (ns ++ n ∷ []) (next_at next n)
  goes-push at [] n is = (is, refl)
  goes-push at (m ∷ ns) n is = (is.0, goes-push (next_at next m) ns n is.1)

  pub goes-join : (at middle end : Option ℕ) (ns ms : List ℕ) → Goes next at ns middle → Goes next middle ms end → Goes next at (ns ++ ms) end
  goes-join at middle end [] ms is more = subst (λ a. Goes next a ms end) (sym is) more
  goes-join at middle end (n ∷ ns) ms is more = (is.0, goes-join (next_at next n) middle end ns ms is.1 more)

  pub goes-split : (at end : Option ℕ) (ns ms : List ℕ) → Goes next at (ns ++ ms) end → (middle : Option ℕ) × Goes next at ns middle × Goes next middle ms end
  goes-split at end [] ms is = (at, refl, is)
  goes-split at end (n ∷ ns) ms is =
      let rest = goes-split (next_at next n) end ns ms is.1 in
      (rest.0, (is.0, rest.1), rest.2)

  pub goes-from : (at end : Option ℕ) (ns : List ℕ) (n : ℕ) → Goes next at ns end → IsIn ns n → (ms : List ℕ) × Goes next (Some n) ms end
  goes-from at end [] n is none = absurd none
  goes-from at end (m ∷ ns) n is (inl same) = (m ∷ ns, (ap Some (sym same), is.1))
  goes-from at end (m ∷ ns) n is (inr rest) = goes-from (next_at next m) end ns n is.1 rest

pub in-left : (ns ms : List ℕ) (n : ℕ) → IsIn ns n → IsIn (ns ++ ms) n
in-left [] ms n none = absurd none
in-left (m ∷ ns) ms n (inl same) = inl same
in-left (m ∷ ns) ms n (inr rest) = inr (in-left ns ms n rest)

pub in-right : (ns ms : List ℕ) (n : ℕ) → IsIn ms n → IsIn (ns ++ ms) n
in-right [] ms n is = is
in-right (m ∷ ns) ms n is = inr (in-right ns ms n is)

pub in-either : (ns ms : List ℕ) (n : ℕ) → IsIn (ns ++ ms) n → IsIn ns n ⊎ IsIn ms n
in-either [] ms n is = inr is
in-either (m ∷ ns) ms n (inl same) = inl (inl same)
in-either (m ∷ ns) ms n (inr rest) = elim (in-either ns ms n rest) [
  | inl r ↦ inl (inr r)
  | inr r ↦ inr r
]

pub in-last : (ns : List ℕ) (last n : ℕ) → IsIn (ns ++ last ∷ []) n → IsIn ns n ⊎ (last ≡ n)
in-last ns last n is = elim (in-either ns (last ∷ []) n is) [
  | inl old ↦ inl old
  | inr new ↦ elim new [ inl same ↦ inr same | inr none ↦ absurd none ]
]

-- two lists without a common number
pub once-both : (ns ms : List ℕ) → AreOnce ns → AreOnce ms → ((n : ℕ) → IsIn ns n → IsIn ms n → ⊥) → AreOnce (ns ++ ms)
once-both [] ms ns_once ms_once apart = ms_once
once-both (n ∷ ns) ms ns_once ms_once apart = (
  λ is. elim (in-either ns ms n is) [
    | inl r ↦ ns_once.0 r
    | inr r ↦ apart n (inl refl) r
  ],
  once-both ns ms ns_once.1 ms_once (λ m l r. apart m (inr l) r),
)

pub once-last : (ns : List ℕ) (last : ℕ) → AreOnce ns → (IsIn ns last → ⊥) → AreOnce (ns ++ last ∷ [])
once-last ns last once new =
    once-both ns (last ∷ []) once (λ none. none, tt) (λ n is there. elim there [
      | inl same ↦ new (subst (IsIn ns) (sym same) is)
      | inr none ↦ none
    ])

pub once-parts : (ns ms : List ℕ) → AreOnce (ns ++ ms) → AreOnce ns × AreOnce ms × ((n : ℕ) → IsIn ns n → IsIn ms n → ⊥)
once-parts [] ms once = (tt, once, λ n none _. none)
once-parts (n ∷ ns) ms once =
    let rest = once-parts ns ms once.1 in (
      (λ is. once.0 (in-left ns ms n is), rest.0),
      rest.1,
      λ m l r. elim l [
        | inl same ↦ once.0 (in-right ns ms n (subst (λ x. IsIn ms x) (sym same) r))
        | inr there ↦ rest.2 m there r
      ],
    )

pub in-index : (ns : List ℕ) (n : ℕ) → IsIn ns n → (k : ℕ) × (k < length ns) × (get_or ns k 0 ≡ n)
in-index [] n none = absurd none
in-index (m ∷ ns) n (inl same) = (0, omega arith, same)
in-index (m ∷ ns) n (inr rest) =
    let at = in-index ns n rest in
    (suc at.0, omega (arith, at.1), at.2)

pub index-in : (ns : List ℕ) (k : ℕ) → k < length ns → IsIn ns (get_or ns k 0)
index-in [] k under = absurd (omega (arith, under))
index-in (m ∷ ns) zero under = inl refl
index-in (m ∷ ns) (suc k) under = inr (index-in ns k (omega (arith, under)))

-- one more that is seen
pub unseen-less : (seen : List Bool) (n : ℕ) → n < length seen → seen_at seen n ≡ false → unseen_count (set seen n true) < unseen_count seen
unseen-less [] n under not = absurd (omega (arith, under))
unseen-less (true ∷ seen) zero under not = absurd (let bad : true ≡ false = not in cc)
unseen-less (false ∷ seen) zero under not = omega arith
unseen-less (true ∷ seen) (suc n) under not = unseen-less seen n (omega (arith, under)) not
unseen-less (false ∷ seen) (suc n) under not =
    let less = unseen-less seen n (omega (arith, under)) not in omega (arith, less)
