-- A table of numbers that become known.
use Rattle.std.proofs.Common.{◌≡◌, ◌∙◌, ◌<◌, ◌+◌, ◌⊎◌, inl, inr, ℕ, zero, suc, List, [], ◌∷◌, Option, Some, None, refl, sym, ap, arith, length, set, map, replicate, slice_get}
use Rattle.std.proofs.lemmas.Bool.{cases_eq}
use Rattle.std.proofs.lemmas.List.{get_or-set_same, get_or-set_other}
use Rattle.std.proofs.lemmas.Option.{none-some}
use Rattle.redo_alike.specs.inside.Known.{known_at}
use Rattle.redo_alike.specs.inside.Walks.{AreOnce}

-- all are known
pub known-all : (xs : List ℕ) (n : ℕ) → known_at (map Some xs) n ≡ slice_get xs n
known-all [] n = refl
known-all (x ∷ xs) zero = refl
known-all (x ∷ xs) (suc n) = known-all xs n

-- none is
pub known-none : (size n : ℕ) → known_at (replicate size None) n ≡ None
known-none zero n = refl
known-none (suc size) zero = refl
known-none (suc size) (suc n) = known-none size n

-- what follows in an order isn't known, where only what came before is
known-fresh : (order : List ℕ) (known : List (Option ℕ)) (i x : ℕ) → AreOnce order → slice_get order i ≡ Some x →
    ((n h : ℕ) → known_at known n ≡ Some h → (j : ℕ) × (j < i) × (slice_get order j ≡ Some n)) →
    (o : Option ℕ) → known_at known x ≡ o → o ≡ None
known-fresh order known i x once at back None is = refl
known-fresh order known i x once at back (Some h) is =
    let found = back x h is in
    let same : found.0 ≡ i = once found.0 i x found.2 at in
    absurd (omega (arith, found.1, same))

pub known-new : (order : List ℕ) (known : List (Option ℕ)) (i x : ℕ) → AreOnce order → slice_get order i ≡ Some x →
    ((n h : ℕ) → known_at known n ≡ Some h → (j : ℕ) × (j < i) × (slice_get order j ≡ Some n)) → known_at known x ≡ None
known-new order known i x once at back = known-fresh order known i x once at back (known_at known x) refl

-- one more is known
module _ (known : List (Option ℕ)) (x v : ℕ) where
  pub known-here : x < length known → known_at (set known x (Some v)) x ≡ Some v
  known-here under = get_or-set_same known x (Some v) None under

  pub known-still : known_at known x ≡ None → (n h : ℕ) → known_at known n ≡ Some h → known_at (set known x (Some v)) n ≡ Some h
  known-still new n h is = elim (cases_eq n x) [
    | inl same ↦ absurd (none-some h (sym new ∙ ap (known_at known) (sym same) ∙ is))
    | inr other ↦ get_or-set_other known x n (Some v) None other ∙ is
  ]

  pub known-before : x < length known → (n h : ℕ) → known_at (set known x (Some v)) n ≡ Some h →
      ((n ≡ x) × (v ≡ h)) ⊎ (known_at known n ≡ Some h)
  known-before under n h is = elim (cases_eq n x) [
    | inl same ↦
        let e : Some v ≡ Some h = sym (known-here under) ∙ ap (known_at (set known x (Some v))) (sym same) ∙ is in
        let v_h : v ≡ h = cc in
        inl (same, v_h)
    | inr other ↦ inr (sym (get_or-set_other known x n (Some v) None other) ∙ is)
  ]

  -- it is known of one more in the order
  pub known-back : (order : List ℕ) (i : ℕ) → x < length known → slice_get order i ≡ Some x →
      ((n h : ℕ) → known_at known n ≡ Some h → (j : ℕ) × (j < i) × (slice_get order j ≡ Some n)) →
      (n h : ℕ) → known_at (set known x (Some v)) n ≡ Some h → (j : ℕ) × (j < i + 1) × (slice_get order j ≡ Some n)
  known-back order i under at back n h is = elim (known-before under n h is) [
    | inl here ↦ (i, omega arith, at ∙ ap Some (sym here.0))
    | inr old ↦
        let found = back n h old in
        (found.0, omega (arith, found.1), found.2)
  ]
