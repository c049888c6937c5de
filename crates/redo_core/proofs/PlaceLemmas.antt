-- A filter over entries that passes at ascending places gives the paths at these places.
use Rattle.std.proofs.Common.{◌≡◌, ℕ, suc, ◌+◌, ◌<◌, ◌≤◌, Bool, true, inl, inr, List, [], ◌∷◌, map, length, filter}
use Rattle.std.proofs.Common.{slice_get, slice_index_or, Some, refl, sym, ap, ap₂, subst, ◌∙◌, arith}
use Rattle.std.proofs.lemmas.Bool.{cases_Bool, cases_eq}
use Rattle.redo_build.specs.Schedule.{Entry, paths_of}
use Rattle.std.specs.Prelude.{AllPairs}
use Rattle.std.specs.List.Sorted.{IsStrictlyIncreasing}
use Rattle.std.proofs.lemmas.List.Kept.{AllPairs-from_increasing}
use Rattle.redo_past.proofs.ItemLemmas.{IsItem}
use Rattle.redo_table.specs.Schedule.{times}
use Rattle.redo_table.proofs.NumberLemmas.{at-same, at-other, times-cons, times-nil}

-- a number stands in a list
abbrev pub IsPlace : List ℕ → ℕ → Type 0
IsPlace = IsItem

pub times-place : (xs : List ℕ) (k : ℕ) → 0 < times k xs → IsPlace xs k
times-place [] k h = absurd (omega (arith, h, times-nil k))
times-place (x ∷ xs) k h = elim (cases_eq x k) [
  | inl same ↦ inl same
  | inr other ↦ inr (times-place xs k (omega (arith, h, times-cons k x xs, at-other k x (λ e. other (sym e)))))
]

pub place-times : (xs : List ℕ) (k : ℕ) → IsPlace xs k → 0 < times k xs
place-times [] k m = absurd m
place-times (x ∷ xs) k m = elim m [
  | inl here ↦ omega (arith, times-cons k x xs, at-same k x (sym here))
  | inr later ↦ omega (arith, times-cons k x xs, place-times xs k later)
]

-- numbers from n on, each above the one before
abbrev pub AscendFrom : ℕ → List ℕ → Type 0
AscendFrom n [] = Unit {0}
AscendFrom n (i ∷ is) = (n ≤ i) × AscendFrom (suc i) is

ascends-from : (n : ℕ) (xs : List ℕ) → AllPairs (λ x y. x < y) xs → ((d : ℕ) → 0 < length xs → n ≤ slice_index_or xs 0 d) → AscendFrom n xs
ascends-from n [] all least = tt
ascends-from n (x ∷ xs) all least = (
  least x (omega arith),
  ascends-from (suc x) xs (λ i j d lt within. all (suc i) (suc j) d (omega (arith, lt)) (omega (arith, within)))
      (λ d some. all 0 1 d (omega arith) (omega (arith, some))),
)

pub increasing-ascends : (xs : List ℕ) → IsStrictlyIncreasing xs → AscendFrom 0 xs
increasing-ascends xs up = ascends-from 0 xs (AllPairs-from_increasing xs up) (λ d some. omega arith)

below_none : (n : ℕ) (is : List ℕ) (k : ℕ) → k < n → AscendFrom n is → IsPlace is k → ⊥
below_none n [] k h a m = m
below_none n (i ∷ is) k h a m = elim m [
  | inl here ↦ absurd (omega (arith, a.0, here))
  | inr later ↦ below_none (suc i) is k (omega (arith, a.0)) a.1 later
]

-- what the entries from number n on pass
pub record PassAt (f : Entry → Bool) (g : ℕ → List ℕ) (n : ℕ) (es : List Entry) (places : List ℕ) : Type 0 where
  pub ascending : AscendFrom n places
  pub within : (k : ℕ) → IsPlace places k → k < n + length es
  pub passes : (i : ℕ) (e : Entry) → slice_get es i ≡ Some e → IsPlace places (n + i) → f e ≡ true
  pub alone : (i : ℕ) (e : Entry) → slice_get es i ≡ Some e → f e ≡ true → IsPlace places (n + i)
  pub named : (i : ℕ) (e : Entry) → slice_get es i ≡ Some e → g (n + i) ≡ e.path

later-from : (n : ℕ) (rest : List ℕ) → AscendFrom n rest → (IsPlace rest n → ⊥) → AscendFrom (suc n) rest
later-from n [] a first = tt
later-from n (i ∷ is) a first = elim (cases_eq i n) [
  | inl same ↦ absurd (first (inl same))
  | inr other ↦ ((let least = a.0 in omega (arith, least, other)), a.1)
]

-- the same of the entries behind the first
PassAt-tail : (f : Entry → Bool) (g : ℕ → List ℕ) (n : ℕ) (e : Entry) (es : List Entry) (places rest : List ℕ) → PassAt f g n (e ∷ es) places →
    AscendFrom (suc n) rest → ((k : ℕ) → IsPlace rest k → IsPlace places k) → ((k : ℕ) → n < k → IsPlace places k → IsPlace rest k) →
    PassAt f g (suc n) es rest
PassAt-tail f g n e es places rest all ascends in' out' = record {
  ascending = ascends;
  within = λ k m. let most = all.within k (in' k m) in omega (arith, most);
  passes = λ i x at m.
      let P : ℕ → Type 0 = IsPlace rest in
      let same : suc n + i ≡ n + suc i = omega arith in
      all.passes (suc i) x at (in' (n + suc i) (subst P same m));
  alone = λ i x at t.
      let P : ℕ → Type 0 = IsPlace rest in
      let same : n + suc i ≡ suc n + i = omega arith in
      subst P same (out' (n + suc i) (omega arith) (all.alone (suc i) x at t));
  named = λ i x at. let same : suc n + i ≡ n + suc i = omega arith in ap g same ∙ all.named (suc i) x at;
}

pub filter-places : (f : Entry → Bool) (g : ℕ → List ℕ) (n : ℕ) (es : List Entry) (places : List ℕ) → PassAt f g n es places →
    paths_of (filter f es) ≡ map g places
filter-places f g n [] [] h = refl
filter-places f g n [] (i ∷ is) h = absurd (let least = h.ascending.0 in let most = h.within i (inl refl) in omega (arith, least, most))
filter-places f g n (e ∷ es) [] h =
    let rest = filter-places f g (suc n) es [] (PassAt-tail f g n e es [] [] h tt (λ k m. m) (λ k above m. m)) in
    elim (cases_Bool (f e)) [ inl t ↦ absurd (h.alone 0 e refl t) | inr u ↦ rw u rest ]
filter-places f g n (e ∷ es) (i ∷ is) h =
    let zero_more : n + 0 ≡ n = omega arith in
    let P : ℕ → Type 0 = IsPlace (i ∷ is) in
    elim (cases_eq i n) [
      | inl same ↦
          let t : f e ≡ true = h.passes 0 e refl (subst P (sym zero_more) (inl same)) in
          let A : ℕ → Type 0 = λ m. AscendFrom (suc m) is in
          let rest = filter-places f g (suc n) es is (PassAt-tail f g n e es (i ∷ is) is h (subst A same h.ascending.1) (λ k m. inr m)
          (λ k above m. elim m [ inl here ↦ absurd (omega (arith, here, same, above)) | inr later ↦ later ])) in
          let name : g i ≡ e.path = ap g (same ∙ sym zero_more) ∙ h.named 0 e refl in
          rw t (ap₂ (λ x xs. x ∷ xs) (sym name) rest)
      | inr other ↦
          let first : IsPlace (i ∷ is) n → ⊥ = λ m. elim m [
            | inl here ↦ other here
            | inr later ↦ below_none (suc i) is n (let least = h.ascending.0 in omega (arith, least, other)) h.ascending.1 later
          ] in
          let rest = filter-places f g (suc n) es (i ∷ is) (PassAt-tail f g n e es (i ∷ is) (i ∷ is) h
          (later-from n (i ∷ is) h.ascending first) (λ k m. m) (λ k above m. m)) in
          elim (cases_Bool (f e)) [
            | inl t ↦ absurd (first (subst P zero_more (h.alone 0 e refl t)))
            | inr u ↦ rw u rest
          ]
    ]
