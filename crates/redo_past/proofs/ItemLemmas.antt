-- What is an item of a list.
use Rattle.std.proofs.Common.{◌≡◌, ℕ, zero, suc, ◌<◌, Bool, true, false, ◌⊎◌, inl, inr, List, [], ◌∷◌, ◌++◌, length}
use Rattle.std.proofs.Common.{map, filter, Option, Some, None, refl, sym, ap, subst, ◌∙◌, arith}
use Rattle.std.proofs.lemmas.Bool.{cases_Bool}
use Rattle.std.specs.List.{AllByRecursion, cons_option}
use Rattle.std.specs.Prelude.{Contains, filter_map, slice_index_or}
use Rattle.redo_path.proofs.ApartLemmas.{apart}

module _ {X : Type 0} where
  -- it is one of these
  abbrev pub IsItem : List X → X → Type 0
  IsItem [] x = ⊥
  IsItem (y ∷ ys) x = (y ≡ x) ⊎ IsItem ys x

  pub item-contained : (xs : List X) (x : X) → IsItem xs x → Contains xs x
  item-contained [] x m = absurd m
  item-contained (y ∷ ys) x m = elim m [
    | inl here ↦ (zero, omega arith, here)
    | inr later ↦ let rest = item-contained ys x later in (suc rest.0, omega (arith, rest.1), rest.2)
  ]

  at-item : (xs : List X) (x : X) (k : ℕ) → k < length xs → slice_index_or xs k x ≡ x → IsItem xs x
  at-item [] x k below e = absurd (omega arith)
  at-item (y ∷ ys) x zero below e = inl e
  at-item (y ∷ ys) x (suc k) below e = inr (at-item ys x k (omega (arith, below)) e)

  pub contained-item : (xs : List X) (x : X) → Contains xs x → IsItem xs x
  contained-item xs x c = at-item xs x c.0 c.1 c.2

  pub of-item : (P : X → Type 0) (xs : List X) (x : X) → AllByRecursion P xs → IsItem xs x → P x
  of-item P [] x h m = absurd m
  of-item P (y ∷ ys) x h m = elim m [ inl here ↦ subst P here h.0 | inr later ↦ of-item P ys x h.1 later ]

  -- what holds of each item holds of all
  pub all-items : (P : X → Type 0) (xs : List X) → ((x : X) → IsItem xs x → P x) → AllByRecursion P xs
  all-items P [] h = tt
  all-items P (y ∷ ys) h = (h y (inl refl), all-items P ys (λ x m. h x (inr m)))

  pub item-front : (xs ys : List X) (x : X) → IsItem xs x → IsItem (xs ++ ys) x
  item-front [] ys x m = absurd m
  item-front (y ∷ xs) ys x m = elim m [ inl here ↦ inl here | inr later ↦ inr (item-front xs ys x later) ]

  pub item-back : (xs ys : List X) (x : X) → IsItem ys x → IsItem (xs ++ ys) x
  item-back [] ys x m = m
  item-back (y ∷ xs) ys x m = inr (item-back xs ys x m)

  pub item-cases : (xs ys : List X) (x : X) → IsItem (xs ++ ys) x → IsItem xs x ⊎ IsItem ys x
  item-cases [] ys x m = inr m
  item-cases (y ∷ xs) ys x m = elim m [
    | inl here ↦ inl (inl here)
    | inr later ↦ elim (item-cases xs ys x later) [ inl first ↦ inl (inr first) | inr second ↦ inr second ]
  ]

  pub item-kept : (p : X → Bool) (xs : List X) (x : X) → IsItem xs x → p x ≡ true → IsItem (filter p xs) x
  item-kept p [] x m t = absurd m
  item-kept p (y ∷ ys) x m t = elim (cases_Bool (p y)) [
    | inl passes ↦ rw passes (elim m [ inl here ↦ inl here | inr later ↦ inr (item-kept p ys x later t) ])
    | inr out ↦ rw out (elim m [
      | inl here ↦ let bad : false ≡ true = sym out ∙ ap p here ∙ t in apart cc
      | inr later ↦ item-kept p ys x later t
    ])
  ]

  pub kept-item : (p : X → Bool) (xs : List X) (x : X) → IsItem (filter p xs) x → IsItem xs x × (p x ≡ true)
  kept-item p [] x m = absurd m
  kept-item p (y ∷ ys) x m = elim (cases_Bool (p y)) [
    | inl passes ↦ elim (rw passes at m) [
      | inl here ↦ (inl here, sym (ap p here) ∙ passes)
      | inr later ↦ let k = kept-item p ys x later in (inr k.0, k.1)
    ]
    | inr out ↦ let k = kept-item p ys x (rw out at m) in (inr k.0, k.1)
  ]

module _ {X Y : Type 0} where
  pub item-made : (f : X → Option Y) (xs : List X) (x : X) (y : Y) → IsItem xs x → f x ≡ Some y → IsItem (filter_map f xs) y
  item-made f [] x y m e = absurd m
  item-made f (z ∷ zs) x y m e =
      (elim (f z) as (λ v. f z ≡ v → IsItem (z ∷ zs) x → IsItem (cons_option v (filter_map f zs)) y) [
        | None ↦ λ none n. elim n [
          | inl here ↦ let bad : None ≡ Some y = sym none ∙ ap f here ∙ e in apart cc
          | inr later ↦ item-made f zs x y later e
        ]
        | Some w ↦ λ some n. elim n [
          | inl here ↦ let same : Some w ≡ Some y = sym some ∙ ap f here ∙ e in inl cc
          | inr later ↦ inr (item-made f zs x y later e)
        ]
      ]) refl m

  pub made-item : (f : X → Option Y) (xs : List X) (y : Y) → IsItem (filter_map f xs) y → (x : X) × IsItem xs x × (f x ≡ Some y)
  made-item f [] y m = absurd m
  made-item f (z ∷ zs) y m =
      (elim (f z) as (λ v. f z ≡ v → IsItem (cons_option v (filter_map f zs)) y → (x : X) × IsItem (z ∷ zs) x × (f x ≡ Some y)) [
        | None ↦ λ none n. let k = made-item f zs y n in (k.0, inr k.1, k.2)
        | Some w ↦ λ some n. elim n [
          | inl here ↦ (z, inl refl, some ∙ ap Some here)
          | inr later ↦ let k = made-item f zs y later in (k.0, inr k.1, k.2)
        ]
      ]) refl m

  pub item-mapped : (f : X → Y) (xs : List X) (x : X) → IsItem xs x → IsItem (map f xs) (f x)
  item-mapped f [] x m = absurd m
  item-mapped f (z ∷ zs) x m = elim m [ inl here ↦ inl (ap f here) | inr later ↦ inr (item-mapped f zs x later) ]

  pub mapped-item : (f : X → Y) (xs : List X) (y : Y) → IsItem (map f xs) y → (x : X) × IsItem xs x × (f x ≡ y)
  mapped-item f [] y m = absurd m
  mapped-item f (z ∷ zs) y m = elim m [
    | inl here ↦ (z, inl refl, here)
    | inr later ↦ let k = mapped-item f zs y later in (k.0, inr k.1, k.2)
  ]
