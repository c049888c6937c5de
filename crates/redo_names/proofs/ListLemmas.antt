-- Lemmas on lists of paths, each once.
use Rattle.std.proofs.Common.{◌≡◌, ℕ, suc, ◌≤◌, Bool, true, cond, ◌⊎◌, inl, inr, List, [], ◌∷◌, ◌++◌, length, filter}
use Rattle.std.proofs.Common.{flat_map, refl, sym, ap, subst, ◌∙◌, arith, bytes_eq, length-append}
use Rattle.std.proofs.lemmas.Bool.{cases_Bool, both_ways}
use Rattle.std.proofs.lemmas.Slice.Eq.{bytes_eq-Decides}
use Rattle.redo_names.specs.Paths.{is_among, with_new, IsAmong, AreDistinct}
use Rattle.redo_names.proofs.PathLemmas.{among-told, distinct-last, told-among}

pub IsAmong-left : (ps qs : List (List ℕ)) (p : List ℕ) → IsAmong ps p → IsAmong (ps ++ qs) p
IsAmong-left [] qs p m = absurd m
IsAmong-left (x ∷ ps) qs p m = elim m [ inl here ↦ inl here | inr later ↦ inr (IsAmong-left ps qs p later) ]

pub IsAmong-right : (ps qs : List (List ℕ)) (p : List ℕ) → IsAmong qs p → IsAmong (ps ++ qs) p
IsAmong-right [] qs p m = m
IsAmong-right (x ∷ ps) qs p m = inr (IsAmong-right ps qs p m)

pub IsAmong-append : (ps qs : List (List ℕ)) (p : List ℕ) → IsAmong (ps ++ qs) p → IsAmong ps p ⊎ IsAmong qs p
IsAmong-append [] qs p m = inr m
IsAmong-append (x ∷ ps) qs p m = elim m [
  | inl here ↦ inl (inl here)
  | inr later ↦ elim (IsAmong-append ps qs p later) [ inl l ↦ inl (inr l) | inr r ↦ inr r ]
]

pub IsAmong-same : (ps : List (List ℕ)) (p q : List ℕ) → p ≡ q → IsAmong ps p → IsAmong ps q
IsAmong-same ps p q e m = let P : List ℕ → Type 0 = λ x. IsAmong ps x in subst P e m

pub with_new-first : (ps qs : List (List ℕ)) (p : List ℕ) → IsAmong ps p → IsAmong (with_new ps qs) p
with_new-first ps [] p m = m
with_new-first ps (q ∷ qs) p m = elim (cases_Bool (is_among ps q)) [
  | inl e ↦ rw e (with_new-first ps qs p m)
  | inr e ↦ rw e (with_new-first (ps ++ q ∷ []) qs p (IsAmong-left ps (q ∷ []) p m))
]

pub with_new-second : (ps qs : List (List ℕ)) (p : List ℕ) → IsAmong qs p → IsAmong (with_new ps qs) p
with_new-second ps [] p m = absurd m
with_new-second ps (q ∷ qs) p m = elim m [
  | inl here ↦ elim (cases_Bool (is_among ps q)) [
    | inl e ↦ rw e (with_new-first ps qs p (IsAmong-same ps q p here (among-told ps q e)))
    | inr e ↦ rw e (with_new-first (ps ++ q ∷ []) qs p (IsAmong-right ps (q ∷ []) p (inl here)))
  ]
  | inr later ↦ elim (cases_Bool (is_among ps q)) [
    | inl e ↦ rw e (with_new-second ps qs p later)
    | inr e ↦ rw e (with_new-second (ps ++ q ∷ []) qs p later)
  ]
]

pub with_new-cases : (ps qs : List (List ℕ)) (p : List ℕ) → IsAmong (with_new ps qs) p → IsAmong ps p ⊎ IsAmong qs p
with_new-cases ps [] p m = inl m
with_new-cases ps (q ∷ qs) p m = elim (cases_Bool (is_among ps q)) [
  | inl e ↦ elim (with_new-cases ps qs p (rw e at m)) [ inl l ↦ inl l | inr r ↦ inr (inr r) ]
  | inr e ↦ elim (with_new-cases (ps ++ q ∷ []) qs p (rw e at m)) [
    | inl l ↦ elim (IsAmong-append ps (q ∷ []) p l) [
      | inl old ↦ inl old
      | inr new ↦ elim new [ inl here ↦ inr (inl here) | inr none ↦ absurd none ]
    ]
    | inr r ↦ inr (inr r)
  ]
]

pub with_new-distinct : (ps qs : List (List ℕ)) → AreDistinct ps → AreDistinct (with_new ps qs)
with_new-distinct ps [] d = d
with_new-distinct ps (q ∷ qs) d = elim (cases_Bool (is_among ps q)) [
  | inl e ↦ rw e (with_new-distinct ps qs d)
  | inr e ↦ rw e (with_new-distinct (ps ++ q ∷ []) qs (distinct-last ps q d (λ m. both_ways _ e (told-among ps q m))))
]

pub with_new-length : (ps qs : List (List ℕ)) → length ps ≤ length (with_new ps qs)
with_new-length ps [] = omega arith
with_new-length ps (q ∷ qs) = elim (cases_Bool (is_among ps q)) [
  | inl e ↦ rw e (with_new-length ps qs)
  | inr e ↦ rw e (omega (arith, with_new-length (ps ++ q ∷ []) qs, length-append ps (q ∷ [])))
]

-- nothing was new if the list is no longer
pub with_new-still : (ps qs : List (List ℕ)) (q : List ℕ) → length (with_new ps qs) ≤ length ps → IsAmong qs q → IsAmong ps q
with_new-still ps [] q short m = absurd m
with_new-still ps (x ∷ qs) q short m = elim (cases_Bool (is_among ps x)) [
  | inl e ↦ elim m [
    | inl here ↦ IsAmong-same ps x q here (among-told ps x e)
    | inr later ↦ with_new-still ps qs q (rw e at short) later
  ]
  | inr e ↦ absurd (
      let longer = rw e at short in
      omega (arith, longer, with_new-length (ps ++ x ∷ []) qs, length-append ps (x ∷ [])))
]

-- the paths but for one place of x
abbrev pub without : List (List ℕ) → List ℕ → List (List ℕ)
without [] x = []
without (q ∷ qs) x = cond (bytes_eq q x) qs (q ∷ without qs x)

without-length : (qs : List (List ℕ)) (x : List ℕ) → IsAmong qs x → length qs ≡ suc (length (without qs x))
without-length [] x m = absurd m
without-length (q ∷ qs) x m = elim (cases_Bool (bytes_eq q x)) [
  | inl e ↦ rw e refl
  | inr e ↦ elim m [
    | inl here ↦ absurd (both_ways _ e ((bytes_eq-Decides q x).1 here))
    | inr later ↦ rw e (ap suc (without-length qs x later))
  ]
]

without-keeps : (qs : List (List ℕ)) (x p : List ℕ) → (x ≡ p → ⊥) → IsAmong qs p → IsAmong (without qs x) p
without-keeps [] x p other m = m
without-keeps (q ∷ qs) x p other m = elim (cases_Bool (bytes_eq q x)) [
  | inl e ↦ rw e (elim m [
    | inl here ↦ absurd (other (sym ((bytes_eq-Decides q x).0 e) ∙ here))
    | inr later ↦ later
  ])
  | inr e ↦ rw e (elim m [ inl here ↦ inl here | inr later ↦ inr (without-keeps qs x p other later) ])
]

-- of distinct paths there are no more than in a list that has them all
pub within-length : (ps qs : List (List ℕ)) → AreDistinct ps → ((p : List ℕ) → IsAmong ps p → IsAmong qs p) → length ps ≤ length qs
within-length [] qs d all = omega arith
within-length (x ∷ ps) qs d all =
    let rest = within-length ps (without qs x) d.1
    (λ p m. without-keeps qs x p (λ e. d.0 (IsAmong-same ps p x (sym e) m)) (all p (inr m))) in
    omega (arith, rest, without-length qs x (all x (inl refl)))

pub flat_map-among : (f : List ℕ → List (List ℕ)) (ps : List (List ℕ)) (p q : List ℕ) → IsAmong ps p → IsAmong (f p) q → IsAmong (flat_map f ps) q
flat_map-among f [] p q m n = absurd m
flat_map-among f (x ∷ ps) p q m n = elim m [
  | inl here ↦ IsAmong-left (f x) (flat_map f ps) q (let P : List ℕ → Type 0 = λ y. IsAmong (f y) q in subst P (sym here) n)
  | inr later ↦ IsAmong-right (f x) (flat_map f ps) q (flat_map-among f ps p q later n)
]

pub flat_map-from : (f : List ℕ → List (List ℕ)) (ps : List (List ℕ)) (q : List ℕ) → IsAmong (flat_map f ps) q → (p : List ℕ) × IsAmong ps p × IsAmong (f p) q
flat_map-from f [] q m = absurd m
flat_map-from f (x ∷ ps) q m = elim (IsAmong-append (f x) (flat_map f ps) q m) [
  | inl l ↦ (x, inl refl, l)
  | inr r ↦ let found = flat_map-from f ps q r in (found.0, inr found.1, found.2)
]

pub filter-passes : (f : List ℕ → Bool) (ps : List (List ℕ)) (p : List ℕ) → IsAmong (filter f ps) p → f p ≡ true
filter-passes f [] p m = absurd m
filter-passes f (x ∷ ps) p m = elim (cases_Bool (f x)) [
  | inl e ↦ elim (rw e at m) as (λ _. f p ≡ true) [
    | inl here ↦ ap f (sym here) ∙ e
    | inr later ↦ filter-passes f ps p later
  ]
  | inr e ↦ filter-passes f ps p (rw e at m)
]

pub filter-from : (f : List ℕ → Bool) (ps : List (List ℕ)) (p : List ℕ) → IsAmong (filter f ps) p → IsAmong ps p
filter-from f [] p m = absurd m
filter-from f (x ∷ ps) p m = elim (cases_Bool (f x)) [
  | inl e ↦ elim (rw e at m) as (λ _. IsAmong (x ∷ ps) p) [
    | inl here ↦ inl here
    | inr later ↦ inr (filter-from f ps p later)
  ]
  | inr e ↦ inr (filter-from f ps p (rw e at m))
]
