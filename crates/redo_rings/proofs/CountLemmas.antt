-- Places, counted without those of some paths.
use Rattle.std.proofs.Common.{◌≡◌, ◌∙◌, ◌+◌, ◌&&◌, inl, inr, ℕ, Bool, true, List, [], ◌∷◌, Option, refl, sym, ap, arith, cond, filter, length, map}
use Rattle.std.specs.Prelude.{All}
use Rattle.std.specs.List.{count_by}
use Rattle.std.proofs.lemmas.Bool.{cases_Bool}
use Rattle.std.proofs.lemmas.List.{length-map}
use Rattle.std.proofs.lemmas.List.Elements.{All-head, All-tail}
use Rattle.std.proofs.lemmas.List.Sums.{length-filter, sum_by-cons}
use Rattle.redo_names.specs.Paths.{AreDistinct, IsAmong, is_among}
use Rattle.redo_names.proofs.ListLemmas.{within-length}
use Rattle.redo_names.proofs.PathLemmas.{among-told, told-among}

module _ {X : Type 0} where
  counted : (p : X → Bool) (x : X) (xs : List X) → count_by p (x ∷ xs) ≡ cond (p x) 1 0 + count_by p xs
  counted p x xs = sum_by-cons (λ (y : X). cond (p y) 1 0) x xs

  -- one test finds what two others find apart
  pub count-apart : (p a b : X → Bool) (xs : List X) → All (λ x. cond (p x) 1 0 ≡ cond (a x) 1 0 + cond (b x) 1 0) xs →
      count_by p xs ≡ count_by a xs + count_by b xs
  count-apart p a b [] are = refl
  count-apart p a b (x ∷ xs) are =
      let E = λ (y : X). cond (p y) 1 0 ≡ cond (a y) 1 0 + cond (b y) 1 0 in
      let head = All-head E x xs are in
      let rest = count-apart p a b xs (All-tail E x xs are) in
      omega (arith, head, rest, counted p x xs, counted a x xs, counted b x xs)

  both-pass : (p q : X → Bool) (xs : List X) → filter p (filter q xs) ≡ filter (λ x. p x && q x) xs
  both-pass p q [] = refl
  both-pass p q (x ∷ xs) = elim (cases_Bool (q x)) [
    | inl t ↦ elim (cases_Bool (p x)) [
      | inl here ↦ rw (t, here) (ap (λ l. x ∷ l) (both-pass p q xs))
      | inr not ↦ rw (t, not) (both-pass p q xs)
    ]
    | inr f ↦ elim (cases_Bool (p x)) [
      | inl here ↦ rw (f, here) (both-pass p q xs)
      | inr not ↦ rw (f, not) (both-pass p q xs)
    ]
  ]

  pub count-filter : (p q : X → Bool) (xs : List X) → count_by p (filter q xs) ≡ count_by (λ x. p x && q x) xs
  count-filter p q xs =
      sym (length-filter p (filter q xs)) ∙ ap length (both-pass p q xs) ∙ length-filter (λ x. p x && q x) xs

-- Entries with paths

abbrev pub Entry : Type 0
Entry = List ℕ × Option (List ℕ)

abbrev pub paths_in : List Entry → List (List ℕ)
paths_in es = map (λ (e : Entry). e.0) es

abbrev pub is_of : List (List ℕ) → Entry → Bool
is_of ps e = is_among ps e.0

-- The entries whose paths pass a test

module _ (q : List ℕ → Bool) where
  abbrev pub passing : List Entry → List Entry
  passing es = filter (λ (e : Entry). q e.0) es

  pub kept-among : (es : List Entry) (p : List ℕ) → IsAmong (paths_in (passing es)) p → (q p ≡ true) × IsAmong (paths_in es) p
  kept-among [] p none = absurd none
  kept-among (e ∷ es) p is = elim (cases_Bool (q e.0)) [
    | inl t ↦ elim (rw t at is) as (λ _. (q p ≡ true) × IsAmong (paths_in (e ∷ es)) p) [
      | inl same ↦ (ap q (sym same) ∙ t, inl same)
      | inr rest ↦ let old = kept-among es p rest in (old.0, inr old.1)
    ]
    | inr f ↦ let old = kept-among es p (rw f at is) in (old.0, inr old.1)
  ]

  pub kept-distinct : (es : List Entry) → AreDistinct (paths_in es) → AreDistinct (paths_in (passing es))
  kept-distinct [] distinct = tt
  kept-distinct (e ∷ es) distinct = elim (cases_Bool (q e.0)) [
    | inl t ↦ rw t (λ is. distinct.0 (kept-among es e.0 is).1, kept-distinct es distinct.1)
    | inr f ↦ rw f (kept-distinct es distinct.1)
  ]

  pub kept-there : (es : List Entry) (p : List ℕ) → q p ≡ true → IsAmong (paths_in es) p → IsAmong (paths_in (passing es)) p
  kept-there [] p passes none = absurd none
  kept-there (e ∷ es) p passes (inl same) = let here : q e.0 ≡ true = ap q same ∙ passes in rw here (inl same)
  kept-there (e ∷ es) p passes (inr rest) = elim (cases_Bool (q e.0)) [
    | inl t ↦ rw t (inr (kept-there es p passes rest))
    | inr f ↦ rw f (kept-there es p passes rest)
  ]

-- the entries of some paths are as many as these
pub count-of : (ps : List (List ℕ)) (es : List Entry) → AreDistinct (paths_in es) → AreDistinct ps →
    ((p : List ℕ) → IsAmong ps p → IsAmong (paths_in es) p) → count_by (is_of ps) es ≡ length ps
count-of ps es distinct once there =
    let kept = passing (is_among ps) es in
    let few = within-length (paths_in kept) ps (kept-distinct (is_among ps) es distinct)
    (λ p is. among-told ps p (kept-among (is_among ps) es p is).0) in
    let many = within-length ps (paths_in kept) once
    (λ p is. kept-there (is_among ps) es p (told-among ps p is) (there p is)) in
    omega (arith, few, many, length-map kept (λ (e : Entry). e.0), length-filter (is_of ps) es)
