-- Numbers from the least on, each once.
use Rattle.std.proofs.Common.{◌≡◌, ◌∙◌, ◌<◌, ◌⊎◌, inl, inr, ℕ, zero, suc, List, [], ◌∷◌, refl, sym, ap, subst, arith, length, get_or, Contains}
use Rattle.std.specs.List.{AllPairs}
use Rattle.std.specs.List.Sorted.{IsStrictlyIncreasing}
use Rattle.std.proofs.lemmas.List.Kept.{AllPairs-from_increasing}

-- each is below all behind it
Rising : List ℕ → Type 0
Rising [] = Unit {0}
Rising (x ∷ xs) = ((y : ℕ) → Contains xs y → x < y) × Rising xs

rising : (xs : List ℕ) → AllPairs (λ x y. x < y) xs → Rising xs
unfolding Rising
rising [] pairs = tt
rising (x ∷ xs) pairs = (
  λ y is. subst (λ z. x < z) is.2 (pairs 0 (suc is.0) y (omega arith) (omega (arith, is.1))),
  rising xs (λ i j d low high. pairs (suc i) (suc j) d (omega (arith, low)) (omega (arith, high))),
)

in-head : (x : ℕ) (xs : List ℕ) → Contains (x ∷ xs) x
in-head x xs = (0, omega arith, refl)

in-tail : (x : ℕ) (xs : List ℕ) (y : ℕ) → Contains xs y → Contains (x ∷ xs) y
in-tail x xs y is = (suc is.0, omega (arith, is.1), is.2)

in-at : (x : ℕ) (xs : List ℕ) (y k : ℕ) → k < length (x ∷ xs) → get_or (x ∷ xs) k y ≡ y → (x ≡ y) ⊎ Contains xs y
in-at x xs y zero low is = inl is
in-at x xs y (suc k) low is = inr (k, omega (arith, low), is)

in-cases : (x : ℕ) (xs : List ℕ) (y : ℕ) → Contains (x ∷ xs) y → (x ≡ y) ⊎ Contains xs y
in-cases x xs y is = in-at x xs y is.0 is.1 is.2

heads : (x y : ℕ) (xs ys : List ℕ) → Rising (x ∷ xs) → Rising (y ∷ ys) → Contains (y ∷ ys) x → Contains (x ∷ xs) y → x ≡ y
unfolding Rising
heads x y xs ys rise rise' x_in y_in = elim (in-cases y ys x x_in) [
  | inl same ↦ sym same
  | inr behind ↦ elim (in-cases x xs y y_in) [
    | inl same ↦ same
    | inr also ↦
        let a = rise'.0 x behind in
        let b = rise.0 y also in
        absurd (omega (arith, a, b))
  ]
]

tails : (x y : ℕ) (xs ys : List ℕ) → Rising (x ∷ xs) → x ≡ y → ((g : ℕ) → Contains (x ∷ xs) g → Contains (y ∷ ys) g) →
    (g : ℕ) → Contains xs g → Contains ys g
unfolding Rising
tails x y xs ys rise same to g is = elim (in-cases y ys g (to g (in-tail x xs g is))) [
  | inl head ↦ let low = rise.0 g is in absurd (omega (arith, low, same, head))
  | inr behind ↦ behind
]

same-rising : (xs ys : List ℕ) → Rising xs → Rising ys → ((g : ℕ) → Contains xs g → Contains ys g) →
    ((g : ℕ) → Contains ys g → Contains xs g) → xs ≡ ys
unfolding Rising
same-rising [] [] rise rise' to from = refl
same-rising [] (y ∷ ys) rise rise' to from = absurd (omega (arith, (from y (in-head y ys)).1))
same-rising (x ∷ xs) [] rise rise' to from = absurd (omega (arith, (to x (in-head x xs)).1))
same-rising (x ∷ xs) (y ∷ ys) rise rise' to from =
    let e : x ≡ y = heads x y xs ys rise rise' (to x (in-head x xs)) (from y (in-head y ys)) in
    let rest : xs ≡ ys = same-rising xs ys rise.1 rise'.1 (tails x y xs ys rise e to) (tails y x ys xs rise' (sym e) from) in
    ap (λ z. z ∷ xs) e ∙ ap (λ l. y ∷ l) rest

-- the same numbers from the least on are one list
pub same-increasing : (xs ys : List ℕ) → IsStrictlyIncreasing xs → IsStrictlyIncreasing ys → ((g : ℕ) → Contains xs g → Contains ys g) →
    ((g : ℕ) → Contains ys g → Contains xs g) → xs ≡ ys
same-increasing xs ys up up' to from =
    same-rising xs ys (rising xs (AllPairs-from_increasing xs up)) (rising ys (AllPairs-from_increasing ys up')) to from
