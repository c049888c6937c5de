-- Lists of what is listed.
use Rattle.std.proofs.Common.{◌++◌, Bool, inl, inr, ℕ, List, [], ◌∷◌, flat_map}
use Rattle.std.proofs.Common.{◌⊎◌, refl, subst, sym}
use Rattle.redo_names.specs.Paths.{IsAmong}
use Rattle.redo_list.specs.Lists.{ListedView}
use Rattle.redo_list.specs.declared.listed.State.{State}
use Rattle.redo_ood.specs.Foreseen.{IsListed, IsListedAs}

left : (xs ys : List ListedView) (p : List ℕ) (is : State → Bool) → IsListedAs xs p is → IsListedAs (xs ++ ys) p is
left [] ys p is m = absurd m
left (x ∷ xs) ys p is m = elim m [ inl here ↦ inl here | inr later ↦ inr (left xs ys p is later) ]

right : (xs ys : List ListedView) (p : List ℕ) (is : State → Bool) → IsListedAs ys p is → IsListedAs (xs ++ ys) p is
right [] ys p is m = m
right (x ∷ xs) ys p is m = inr (right xs ys p is m)

either : (xs ys : List ListedView) (p : List ℕ) (is : State → Bool) → IsListedAs (xs ++ ys) p is →
    IsListedAs xs p is ⊎ IsListedAs ys p is
either [] ys p is m = inr m
either (x ∷ xs) ys p is m = elim m [
  | inl here ↦ inl (inl here)
  | inr later ↦ elim (either xs ys p is later) [ inl a ↦ inl (inr a) | inr b ↦ inr b ]
]

module _ (f : List ℕ → List ListedView) where
  -- what is listed of one of these paths is listed of all
  pub listed-to : (ps : List (List ℕ)) (q p : List ℕ) (is : State → Bool) → IsAmong ps q → IsListedAs (f q) p is →
      IsListedAs (flat_map f ps) p is
  listed-to [] q p is there m = absurd there
  listed-to (x ∷ ps) q p is there m = elim there [
    | inl here ↦ left (f x) (flat_map f ps) p is (subst (λ y. IsListedAs (f y) p is) (sym here) m)
    | inr later ↦ right (f x) (flat_map f ps) p is (listed-to ps q p is later m)
  ]

  pub listed-from : (ps : List (List ℕ)) (p : List ℕ) (is : State → Bool) → IsListedAs (flat_map f ps) p is →
      (q : List ℕ) × IsAmong ps q × IsListedAs (f q) p is
  listed-from [] p is m = absurd m
  listed-from (x ∷ ps) p is m = elim (either (f x) (flat_map f ps) p is m) [
    | inl here ↦ (x, inl refl, here)
    | inr later ↦ let found = listed-from ps p is later in (found.0, inr found.1, found.2)
  ]

pub listed-path : (its : List ListedView) (p : List ℕ) (is : State → Bool) → IsListedAs its p is → IsListed its p
listed-path [] p is m = absurd m
listed-path (it ∷ its) p is m = elim m [ inl here ↦ inl here.0 | inr later ↦ inr (listed-path its p is later) ]
