-- How often a pair is counted tells whether it was taken, and whether it stands twice.
use Rattle.std.proofs.Common.{◌≡◌, ℕ, ◌≤◌, ◌+◌, Bool, true, inl, inr, List, [], ◌∷◌, cond, refl, ap, arith, bytes_eq}
use Rattle.std.specs.Prelude.{nat_eq}
use Rattle.std.proofs.lemmas.Bool.{cases_Bool, cases_lt, and_parts, and_from, eqb-true, eq-eqb}
use Rattle.std.proofs.lemmas.List.Sums.{sum_by-cons}
use Rattle.std.proofs.lemmas.Slice.Eq.{bytes_eq-Decides}
use Rattle.redo_build.specs.Takes.{is_at, times_taken, IsTaken, AreOnce, AreCountedOnce}

-- how much a pair that passes or doesn't counts
abbrev weight : Bool → ℕ
weight b = cond b 1 0

is_at-true : (p : List ℕ) (turn : ℕ) (x : (List ℕ) × ℕ) → is_at p turn x ≡ true → (x.0 ≡ p) × (x.1 ≡ turn)
is_at-true p turn x h =
    let parts = and_parts (bytes_eq x.0 p) (nat_eq x.1 turn) h in
    ((bytes_eq-Decides x.0 p).0 parts.0, eqb-true x.1 turn parts.1)

is_at-from : (p : List ℕ) (turn : ℕ) (x : (List ℕ) × ℕ) → (x.0 ≡ p) × (x.1 ≡ turn) → is_at p turn x ≡ true
is_at-from p turn x h =
    and_from (bytes_eq x.0 p) (nat_eq x.1 turn) ((bytes_eq-Decides x.0 p).1 h.0) (eq-eqb x.1 turn h.1)

times-cons : (x : (List ℕ) × ℕ) (xs : List ((List ℕ) × ℕ)) (p : List ℕ) (turn : ℕ) →
    times_taken (x ∷ xs) p turn ≡ weight (is_at p turn x) + times_taken xs p turn
times-cons x xs p turn = sum_by-cons (λ y. cond (is_at p turn y) 1 0) x xs

pub taken-counted : (xs : List ((List ℕ) × ℕ)) (p : List ℕ) (turn : ℕ) → IsTaken xs p turn → 1 ≤ times_taken xs p turn
taken-counted [] p turn m = absurd m
taken-counted (x ∷ xs) p turn m = elim m [
  | inl here ↦
      let one : weight (is_at p turn x) ≡ 1 = ap weight (is_at-from p turn x here) in
      omega (arith, one, times-cons x xs p turn)
  | inr later ↦ omega (arith, taken-counted xs p turn later, times-cons x xs p turn)
]

pub counted-taken : (xs : List ((List ℕ) × ℕ)) (p : List ℕ) (turn : ℕ) → 1 ≤ times_taken xs p turn → IsTaken xs p turn
counted-taken [] p turn h = absurd (omega (arith, h))
counted-taken (x ∷ xs) p turn h = elim (cases_Bool (is_at p turn x)) [
  | inl t ↦ inl (is_at-true p turn x t)
  | inr f ↦
      let none : weight (is_at p turn x) ≡ 0 = ap weight f in
      inr (counted-taken xs p turn (omega (arith, h, none, times-cons x xs p turn)))
]

pub once-counted : (xs : List ((List ℕ) × ℕ)) → AreOnce xs → AreCountedOnce xs
once-counted [] once p turn = omega arith
once-counted (x ∷ xs) once p turn =
    let rest = once-counted xs once.1 p turn in
    elim (cases_Bool (is_at p turn x)) [
      | inl t ↦
          let one : weight (is_at p turn x) ≡ 1 = ap weight t in
          let here = is_at-true p turn x t in
          let gone : 1 ≤ times_taken xs x.0 x.1 → ⊥ = λ h. once.0 (counted-taken xs x.0 x.1 h) in
          let same : times_taken xs x.0 x.1 ≡ times_taken xs p turn = λ i. times_taken xs (here.0 i) (here.1 i) in
          elim (cases_lt 0 (times_taken xs p turn)) [
            | inl some ↦ absurd (gone (omega (arith, some, same)))
            | inr none ↦ omega (arith, one, none, times-cons x xs p turn)
          ]
      | inr f ↦
          let none : weight (is_at p turn x) ≡ 0 = ap weight f in
          omega (arith, rest, none, times-cons x xs p turn)
    ]

pub counted-once : (xs : List ((List ℕ) × ℕ)) → AreCountedOnce xs → AreOnce xs
counted-once [] counted = tt
counted-once (x ∷ xs) counted = (
  λ m.
      let one : weight (is_at x.0 x.1 x) ≡ 1 = ap weight (is_at-from x.0 x.1 x (refl, refl)) in
      absurd (omega (arith, one, counted x.0 x.1, taken-counted xs x.0 x.1 m, times-cons x xs x.0 x.1)),
  counted-once xs (λ p turn. omega (arith, counted p turn, times-cons x xs p turn)),
)
