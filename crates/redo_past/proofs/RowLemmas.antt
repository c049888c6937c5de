-- The row of a path, among rows in path order.
use Rattle.std.proofs.Common.{◌≡◌, ℕ, zero, suc, ◌<◌, ◌≤◌, ◌+◌, true, false, List, [], ◌∷◌, ◌++◌, refl, sym, ap, subst, ◌∙◌}
use Rattle.std.proofs.Common.{Some, None, inl, inr, length, map, arith, option_and_then, slice_get, slice_index_or, take}
use Rattle.std.proofs.lemmas.Bool.{cases_Bool}
use Rattle.std.proofs.lemmas.List.{map_more}
use Rattle.std.proofs.lemmas.Map.Text.{is_eq-slice_cmp}
use Rattle.std.proofs.lemmas.Slice.Eq.{bytes_eq-Decides}
use Rattle.std.specs.Cmp.Lexicographic.{nat_list_cmp_total, slice_cmp}
use Rattle.std.specs.List.{AllByRecursion}
use Rattle.std.specs.List.Sorted.{IsNonDecreasingBy, IsStrictlySortedBy}
use Rattle.std.specs.Ordering.{is_eq, nat_cmp, ordering_index, ordering_reverse}
use Rattle.std.specs.Prelude.{find, MatchOption, Option}
use Rattle.std.specs.Str.{bytes_eq}
use Rattle.std.specs.declared.cmp.Ordering.TheVariants.{Less, Equal, Greater}
use Rattle.redo_path.proofs.ApartLemmas.{apart}
use Rattle.redo_names.specs.Paths.{IsAmong, is_among, with_path}
use Rattle.redo_past.proofs.OrderLemmas.{order, other_path, same_order, same_path}

-- what stands behind compares no less
order-rises : (v w t : List ℕ) → order v w ≡ Less → ordering_index (order v t) ≤ ordering_index (order w t)
order-rises v w t h =
    elim (order v t) as (λ o. order v t ≡ o → ordering_index o ≤ ordering_index (order w t)) [
      | Less ↦ λ e. omega arith
      | Equal ↦ λ e.
          let less : order t w ≡ Less = sym (nat_list_cmp_total.congr v t w e) ∙ h in
          let greater : order w t ≡ Greater = nat_list_cmp_total.antisymm w t ∙ ap ordering_reverse less in
          rw greater (omega arith)
      | Greater ↦ λ e.
          let before : order t v ≡ Less = nat_list_cmp_total.antisymm t v ∙ ap ordering_reverse e in
          let less : order t w ≡ Less = nat_list_cmp_total.trans t v w before h in
          let greater : order w t ≡ Greater = nat_list_cmp_total.antisymm w t ∙ ap ordering_reverse less in
          rw greater (omega arith)
    ] refl

module _ {X : Type 0} (key : X → List ℕ) where
  pub at-all : (v : List ℕ) (xs : List X) (j : ℕ) (d : X) → AllByRecursion (λ w. order v w ≡ Less) (map key xs) → j < length xs → order v (key (slice_index_or xs j d)) ≡ Less
  at-all v [] j d h l = absurd (omega arith)
  at-all v (x ∷ xs) zero d h l = h.0
  at-all v (x ∷ xs) (suc j) d h l = at-all v xs j d h.1 (omega arith)

  -- a search among them is one in order
  pub rising : (t : List ℕ) (xs : List X) → IsStrictlySortedBy (slice_cmp nat_cmp) (map key xs) → IsNonDecreasingBy (λ x. ordering_index (order (key x) t)) xs
  unfolding IsStrictlySortedBy
  rising t [] h i j d le l = absurd (omega arith)
  rising t (x ∷ xs) h zero zero d le l = omega arith
  rising t (x ∷ xs) h zero (suc j) d le l = order-rises (key x) (key (slice_index_or xs j d)) t (at-all (key x) xs j d h.0 (omega arith))
  rising t (x ∷ xs) h (suc i) zero d le l = absurd (omega arith)
  rising t (x ∷ xs) h (suc i) (suc j) d le l = rising t xs h.1 i j d (omega arith) (omega arith)

  abbrev found-at : List X → List ℕ → Option X
  found-at xs t = find (λ x. bytes_eq (key x) t) xs

  -- what stands at a place is found by its path
  pub was-found : (xs : List X) (t : List ℕ) (n : ℕ) (d : X) → IsStrictlySortedBy (slice_cmp nat_cmp) (map key xs) → order (key (slice_index_or xs n d)) t ≡ Equal → n < length xs → found-at xs t ≡ Some (slice_index_or xs n d)
  unfolding IsStrictlySortedBy
  was-found [] t n d h e l = absurd (omega arith)
  was-found (x ∷ xs) t zero d h e l = let same : bytes_eq (key x) t ≡ true = sym (is_eq-slice_cmp (key x) t) ∙ ap is_eq e in rw same refl
  was-found (x ∷ xs) t (suc n) d h e l =
      let it = slice_index_or xs n d in
      let same : key it ≡ t = same_order (key it) t e in
      let less : order (key x) t ≡ Less = subst (λ u. order (key x) u ≡ Less) same (at-all (key x) xs n d h.0 (omega arith)) in
      rw (other_path (key x) t less) (was-found xs t n d h.1 e (omega arith))

  -- the path of an item is none of those before it
  new-path : (xs : List X) (i : ℕ) (d : X) → IsStrictlySortedBy (slice_cmp nat_cmp) (map key xs) → i < length xs → is_among (map key (take i xs)) (key (slice_index_or xs i d)) ≡ false
  unfolding IsStrictlySortedBy
  new-path [] i d h l = absurd (omega (arith, l))
  new-path (x ∷ xs) zero d h l = refl
  new-path (x ∷ xs) (suc i) d h l =
      rw (other_path (key x) (key (slice_index_or xs i d)) (at-all (key x) xs i d h.0 (omega (arith, l)))) (new-path xs i d h.1 (omega (arith, l)))

  -- so it is put behind them
  pub path-put : (xs : List X) (i : ℕ) (x : X) → IsStrictlySortedBy (slice_cmp nat_cmp) (map key xs) → i < length xs → x ≡ slice_index_or xs i x → with_path (map key (take i xs)) (key x) ≡ map key (take (i + 1) xs)
  path-put xs i x h l is =
      let new : is_among (map key (take i xs)) (key x) ≡ false = subst (λ y. is_among (map key (take i xs)) (key y) ≡ false) (sym is) (new-path xs i x h l) in
      let put : with_path (map key (take i xs)) (key x) ≡ map key (take i xs) ++ key x ∷ [] = rw new refl in
      put ∙ ap (λ y. map key (take i xs) ++ key y ∷ []) is ∙ sym (map_more key xs i x l)

  none-found : (xs : List X) (t : List ℕ) → (IsAmong (map key xs) t → ⊥) → found-at xs t ≡ None
  none-found [] t h = refl
  none-found (x ∷ xs) t h = elim (cases_Bool (bytes_eq (key x) t)) [
    | inl here ↦ absurd (h (inl (same_path (key x) t here)))
    | inr other ↦ rw other (none-found xs t (λ m. h (inr m)))
  ]

  before-at : (v : List ℕ) (xs : List X) (n : ℕ) (t : List ℕ) → AllByRecursion (λ w. order v w ≡ Less) (map key xs) → slice_get (map key xs) n ≡ Some t → order v t ≡ Less
  before-at v [] n t h e = apart cc
  before-at v (x ∷ xs) zero t h e = let same : key x ≡ t = cc in subst (λ w. order v w ≡ Less) same h.0
  before-at v (x ∷ xs) (suc n) t h e = before-at v xs n t h.1 e

  pub found-there : (xs : List X) (t : List ℕ) (n : ℕ) → IsStrictlySortedBy (slice_cmp nat_cmp) (map key xs) → slice_get (map key xs) n ≡ Some t → slice_get xs n ≡ found-at xs t
  unfolding IsStrictlySortedBy
  found-there [] t n h e = apart cc
  found-there (x ∷ xs) t zero h e = let same : key x ≡ t = cc in rw ((bytes_eq-Decides (key x) t).1 same) refl
  found-there (x ∷ xs) t (suc n) h e = rw (other_path (key x) t (before-at (key x) xs n t h.0 e)) (found-there xs t n h.1 e)

  -- the number of a path among theirs is that of the item, and where it has none there is no item
  pub number-finds : (xs : List X) (t : List ℕ) (number : Option ℕ) → IsStrictlySortedBy (slice_cmp nat_cmp) (map key xs) → MatchOption number (IsAmong (map key xs) t → ⊥) (λ n. slice_get (map key xs) n ≡ Some t) → option_and_then (slice_get xs) number ≡ found-at xs t
  number-finds xs t None h none = sym (none-found xs t none)
  number-finds xs t (Some n) h there = found-there xs t n h there
