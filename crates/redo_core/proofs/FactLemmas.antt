-- What facts tell.
use Rattle.std.proofs.Common.{◌≡◌, ℕ, List, [], ◌∷◌, ◌++◌, Bool, Option, Some, None, inl, inr, map, cond, refl, sym, ap}
use Rattle.std.proofs.Common.{◌∙◌, bytes_eq, ◌+◌, ◌<◌, length, drop, slice_index_or}
use Rattle.std.specs.Map.{lookup}
use Rattle.std.specs.Prelude.{option_map}
use Rattle.std.proofs.lemmas.Bool.{cases_Bool, both_ways}
use Rattle.std.proofs.lemmas.Slice.Eq.{bytes_eq-Decides}
use Rattle.redo_record.specs.declared.outcome.Outcome.{Outcome}
use Rattle.redo_sync.specs.Shown.{Shown}
use Rattle.redo_core.specs.inside.Works.{few_known}
use Rattle.redo_core.specs.Views.{FactView}
use Rattle.std.proofs.lemmas.List.{drop_more}

-- looking up an outcome is looking up its fact
pub lookup-known : (es : List (List ℕ × Shown FactView)) (p : List ℕ) →
    lookup (bytes_eq p) (map (λ e. (e.0, e.1.value.outcome)) es) ≡ option_map (λ f. f.value.outcome) (lookup (bytes_eq p) es)
lookup-known [] p = refl
lookup-known (e ∷ es) p = elim (cases_Bool (bytes_eq p e.0)) [ inl t ↦ rw t refl | inr f ↦ rw f (lookup-known es p) ]

-- facts with one more
pub insert-told : (old new : List (List ℕ × Shown FactView)) (key : List ℕ) (fact : Shown FactView) →
    ((q : List ℕ) → lookup (bytes_eq q) new ≡ cond (bytes_eq key q) (Some fact) (lookup (bytes_eq q) old)) →
    (q : List ℕ) → lookup (bytes_eq q) (map (λ e. (e.0, e.1.value.outcome)) new) ≡
    cond (bytes_eq key q) (Some fact.value.outcome) (lookup (bytes_eq q) (map (λ e. (e.0, e.1.value.outcome)) old))
insert-told old new key fact updates q =
    let now = lookup-known new q ∙ ap (option_map (λ f. f.value.outcome)) (updates q) in
    elim (cases_Bool (bytes_eq key q)) [
      | inl t ↦ rw t (rw t at now)
      | inr f ↦ rw f (let there = rw f at now in there ∙ sym (lookup-known old q))
    ]

-- the first of two answers
abbrev pub first_of : Option Outcome → Option Outcome → Option Outcome
first_of None b = b
first_of (Some o) b = Some o

pub lookup-append : (f : List ℕ → Bool) (ks ms : List (List ℕ × Outcome)) → lookup f (ks ++ ms) ≡ first_of (lookup f ks) (lookup f ms)
lookup-append f [] ms = refl
lookup-append f (k ∷ ks) ms = elim (cases_Bool (f k.0)) [ inl t ↦ rw t refl | inr n ↦ rw n (lookup-append f ks ms) ]

pub map-push : (fs : List (Shown FactView)) (fact : Shown FactView) → few_known (fs ++ fact ∷ []) ≡ few_known fs ++ (fact.value.target, fact.value.outcome) ∷ []
map-push [] fact = refl
map-push (f ∷ fs) fact = ap (λ es. (f.value.target, f.value.outcome) ∷ es) (map-push fs fact)

pub either-way : (p q : List ℕ) → bytes_eq q p ≡ bytes_eq p q
either-way p q = elim (cases_Bool (bytes_eq p q)) [
  | inl t ↦ let is = (bytes_eq-Decides p q).0 t in (bytes_eq-Decides q p).1 (sym is) ∙ sym t
  | inr f ↦ elim (cases_Bool (bytes_eq q p)) [
    | inl t ↦ let is = (bytes_eq-Decides q p).0 t in absurd (both_ways _ f ((bytes_eq-Decides p q).1 (sym is)))
    | inr g ↦ g ∙ sym f
  ]
]

-- of the facts that are left, the first answers for its target
pub left-answers : (fs : List (Shown FactView)) (i : ℕ) (x : Shown FactView) (p : List ℕ) → i < length fs → x ≡ slice_index_or fs i x →
    lookup (bytes_eq p) (few_known (drop i fs)) ≡
    cond (bytes_eq x.value.target p) (Some x.value.outcome) (lookup (bytes_eq p) (few_known (drop (i + 1) fs)))
left-answers fs i x p below is =
    let target = x.value.target in
    let rest = lookup (bytes_eq p) (few_known (drop (i + 1) fs)) in
    ap (λ xs. lookup (bytes_eq p) (few_known xs)) (drop_more fs i x below ∙ ap (λ y. y ∷ drop (i + 1) fs) (sym is)) ∙
    ap (λ b. cond b (Some x.value.outcome) rest) (either-way target p)
