-- Lists in the order of their keys, each key once, which are paths.
use Rattle.std.proofs.Common.{◌≡◌, ℕ, Bool, true, false, inl, inr, List, [], ◌∷◌}
use Rattle.std.proofs.Common.{map, filter, Option, Some, None, refl, sym, ap, subst, ◌∙◌}
use Rattle.std.proofs.lemmas.Bool.{cases_Bool}
use Rattle.std.proofs.lemmas.Map.Text.{is_eq-slice_cmp}
use Rattle.std.proofs.lemmas.Slice.Eq.{bytes_eq-Decides}
use Rattle.std.specs.Cmp.Lexicographic.{nat_list_cmp_total, slice_cmp}
use Rattle.std.specs.List.{AllByRecursion, cons_option}
use Rattle.std.specs.List.Sorted.{IsStrictlySortedBy}
use Rattle.std.specs.Ordering.{is_eq, is_lt, nat_cmp, ordering_reverse}
use Rattle.std.specs.Prelude.{filter_map}
use Rattle.std.specs.Str.{bytes_eq}
use Rattle.std.specs.declared.cmp.Ordering.{Ordering}
use Rattle.std.specs.declared.cmp.Ordering.TheVariants.{Less, Equal, Greater}
use Rattle.redo_path.proofs.ApartLemmas.{apart}
use Rattle.redo_report.specs.Reports.{AreAscending}
use Rattle.redo_past.proofs.ItemLemmas.{IsItem, item-mapped}

abbrev pub order : List ℕ → List ℕ → Ordering
order = slice_cmp nat_cmp

pub same_path : (p q : List ℕ) → bytes_eq p q ≡ true → p ≡ q
same_path p q e = (bytes_eq-Decides p q).0 e

pub same_order : (p q : List ℕ) → order p q ≡ Equal → p ≡ q
same_order p q e = same_path p q (sym (is_eq-slice_cmp p q) ∙ ap is_eq e)

pub other_path : (p q : List ℕ) → order p q ≡ Less → bytes_eq p q ≡ false
other_path p q e = sym (is_eq-slice_cmp p q) ∙ ap is_eq e

pub never_before_itself : (p : List ℕ) → order p p ≡ Less → ⊥
never_before_itself p e =
    let bad : Less ≡ Greater = sym e ∙ nat_list_cmp_total.antisymm p p ∙ ap ordering_reverse e in
    apart cc

-- the path stands before all of these
abbrev pub IsBefore : List ℕ → List (List ℕ) → Type 0
IsBefore p qs = AllByRecursion (λ q. order p q ≡ Less) qs

before-more : (p q : List ℕ) (qs : List (List ℕ)) → order p q ≡ Less → IsBefore q qs → IsBefore p qs
before-more p q [] e h = tt
before-more p q (r ∷ qs) e h = (nat_list_cmp_total.trans p q r e h.0, before-more p q qs e h.1)

-- paths of which each stands before the next
pub ascending-sorted : (ps : List (List ℕ)) → AreAscending ps → IsStrictlySortedBy (slice_cmp nat_cmp) ps
unfolding IsStrictlySortedBy
ascending-sorted [] h = tt
ascending-sorted (p ∷ []) h = (tt, tt)
ascending-sorted (p ∷ q ∷ ps) h =
    let rest = ascending-sorted (q ∷ ps) h.1 in
    ((h.0, before-more p q ps h.0 rest.0), rest)

pub before-all : (p q : List ℕ) (qs : List (List ℕ)) → IsBefore p qs → IsItem qs q → order p q ≡ Less
before-all p q [] h m = absurd m
before-all p q (r ∷ qs) h m = elim m [
  | inl here ↦ let P : List ℕ → Type 0 = λ x. order p x ≡ Less in subst P here h.0
  | inr later ↦ before-all p q qs h.1 later
]

-- what is neither less nor equal is greater
pub least : (p q : List ℕ) → is_lt (order q p) ≡ false → bytes_eq q p ≡ false → order p q ≡ Less
least p q above other =
    (elim (order q p) as (λ v. order q p ≡ v → order p q ≡ Less) [
      | Less ↦ λ e. let bad : true ≡ false = ap is_lt (sym e) ∙ above in apart cc
      | Equal ↦ λ e. let bad : true ≡ false = ap is_eq (sym e) ∙ is_eq-slice_cmp q p ∙ other in apart cc
      | Greater ↦ λ e. nat_list_cmp_total.antisymm p q ∙ ap ordering_reverse e
    ]) refl

-- ---- parts of sorted lists

module _ {X : Type 0} (key : X → List ℕ) where
  before-kept : (f : X → Bool) (p : List ℕ) (xs : List X) → IsBefore p (map key xs) → IsBefore p (map key (filter f xs))
  before-kept f p [] h = tt
  before-kept f p (x ∷ xs) h = elim (cases_Bool (f x)) [
    | inl t ↦ rw t (h.0, before-kept f p xs h.1)
    | inr out ↦ rw out (before-kept f p xs h.1)
  ]

  pub kept-sorted : (f : X → Bool) (xs : List X) → IsStrictlySortedBy (slice_cmp nat_cmp) (map key xs) → IsStrictlySortedBy (slice_cmp nat_cmp) (map key (filter f xs))
  unfolding IsStrictlySortedBy
  kept-sorted f [] s = tt
  kept-sorted f (x ∷ xs) s = elim (cases_Bool (f x)) [
    | inl t ↦ rw t (before-kept f (key x) xs s.0, kept-sorted f xs s.1)
    | inr out ↦ rw out (kept-sorted f xs s.1)
  ]

module _ {X Y : Type 0} (key : X → List ℕ) (other : Y → List ℕ) (f : X → Option Y) (kept : (x : X) (y : Y) → f x ≡ Some y → other y ≡ key x) where
  before-made : (p : List ℕ) (xs : List X) → IsBefore p (map key xs) → IsBefore p (map other (filter_map f xs))
  before-made p [] h = tt
  before-made p (x ∷ xs) h =
      (elim (f x) as (λ v. f x ≡ v → IsBefore p (map other (cons_option v (filter_map f xs)))) [
        | None ↦ λ e. before-made p xs h.1
        | Some y ↦ λ e. (ap (order p) (kept x y e) ∙ h.0, before-made p xs h.1)
      ]) refl

  pub made-sorted : (xs : List X) → IsStrictlySortedBy (slice_cmp nat_cmp) (map key xs) → IsStrictlySortedBy (slice_cmp nat_cmp) (map other (filter_map f xs))
  unfolding IsStrictlySortedBy
  made-sorted [] s = tt
  made-sorted (x ∷ xs) s =
      (elim (f x) as (λ v. f x ≡ v → IsStrictlySortedBy (slice_cmp nat_cmp) (map other (cons_option v (filter_map f xs)))) [
        | None ↦ λ e. made-sorted xs s.1
        | Some y ↦ λ e. (let P : List ℕ → Type 0 = λ p. IsBefore p (map other (filter_map f xs)) in subst P (sym (kept x y e)) (before-made (key x) xs s.0), made-sorted xs s.1)
      ]) refl

-- ---- lists of the same items

module _ {X : Type 0} (key : X → List ℕ) where
  not-behind : (x : X) (xs : List X) → IsBefore (key x) (map key xs) → IsItem xs x → ⊥
  not-behind x xs h m = never_before_itself (key x) (before-all (key x) (key x) (map key xs) h (item-mapped key xs x m))

  first-same : (x y : X) (xs ys : List X) → IsBefore (key x) (map key xs) → IsBefore (key y) (map key ys) → IsItem (y ∷ ys) x → IsItem (x ∷ xs) y → x ≡ y
  first-same x y xs ys h k m n = elim m [
    | inl here ↦ sym here
    | inr later ↦ elim n [
      | inl here ↦ here
      | inr behind ↦
          let less = before-all (key y) (key x) (map key ys) k (item-mapped key ys x later) in
          let more = before-all (key x) (key y) (map key xs) h (item-mapped key xs y behind) in
          absurd (never_before_itself (key x) (nat_list_cmp_total.trans (key x) (key y) (key x) more less))
    ]
  ]

  rest-same : (x y : X) (xs ys : List X) → IsBefore (key x) (map key xs) → x ≡ y → (z : X) → IsItem xs z → IsItem (y ∷ ys) z → IsItem ys z
  rest-same x y xs ys h e z m n = elim n [
    | inl here ↦ absurd (not-behind x xs h (subst (IsItem xs) (sym (e ∙ here)) m))
    | inr later ↦ later
  ]

  -- two lists in order that have the same items are one
  pub same-list : (xs ys : List X) → IsStrictlySortedBy (slice_cmp nat_cmp) (map key xs) → IsStrictlySortedBy (slice_cmp nat_cmp) (map key ys) → ((x : X) → IsItem xs x → IsItem ys x) → ((x : X) → IsItem ys x → IsItem xs x) → xs ≡ ys
  unfolding IsStrictlySortedBy
  same-list [] [] s t to from = refl
  same-list [] (y ∷ ys) s t to from = absurd (from y (inl refl))
  same-list (x ∷ xs) [] s t to from = absurd (to x (inl refl))
  same-list (x ∷ xs) (y ∷ ys) s t to from =
      let same : x ≡ y = first-same x y xs ys s.0 t.0 (to x (inl refl)) (from y (inl refl)) in
      let rest : xs ≡ ys = same-list xs ys s.1 t.1
      (λ z m. rest-same x y xs ys s.0 same z m (to z (inr m)))
      (λ z m. rest-same y x ys xs t.0 (sym same) z m (from z (inr m))) in
      λ i. same i ∷ rest i
