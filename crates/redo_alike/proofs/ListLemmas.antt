-- Items of lists by their places.
use Rattle.std.proofs.Common.{◌≡◌, ◌∙◌, ◌<◌, ◌⊎◌, inl, inr, ℕ, zero, suc, List, [], ◌∷◌, ◌++◌, Some, refl, sym, ap, arith, length, slice_get, take, Contains}
use Rattle.std.proofs.lemmas.Option.{none-some, same_Some, slice_get_within, get_or_from_slice_get, slice_get-get_or}
use Rattle.redo_alike.specs.inside.Walks.{AreOnce}

module _ {X : Type 0} where
  pub get-in : (xs : List X) (k : ℕ) (x : X) → slice_get xs k ≡ Some x → Contains xs x
  get-in xs k x is = (k, slice_get_within xs k x is, get_or_from_slice_get xs k x x is)

  pub in-get : (xs : List X) (x : X) → Contains xs x → (k : ℕ) × (slice_get xs k ≡ Some x)
  in-get xs x is = (is.0, slice_get-get_or xs is.0 x is.1 ∙ ap Some is.2)

  pub get-kept : (xs ys : List X) (k : ℕ) (x : X) → slice_get xs k ≡ Some x → slice_get (xs ++ ys) k ≡ Some x
  get-kept [] ys k x is = absurd (none-some x is)
  get-kept (y ∷ xs) ys zero x is = is
  get-kept (y ∷ xs) ys (suc k) x is = get-kept xs ys k x is

  pub get-last : (xs : List X) (x : X) → slice_get (xs ++ x ∷ []) (length xs) ≡ Some x
  get-last [] x = refl
  get-last (y ∷ xs) x = get-last xs x

  pub get-push : (xs : List X) (x : X) (k : ℕ) (y : X) → slice_get (xs ++ x ∷ []) k ≡ Some y →
      (slice_get xs k ≡ Some y) ⊎ ((k ≡ length xs) × (x ≡ y))
  get-push [] x zero y is = inr (refl, same_Some x y is)
  get-push [] x (suc k) y is = absurd (none-some y is)
  get-push (z ∷ xs) x zero y is = inl is
  get-push (z ∷ xs) x (suc k) y is = elim (get-push xs x k y is) [
    | inl old ↦ inl old
    | inr new ↦ inr (ap suc new.0, new.1)
  ]

  pub get-take : (j : ℕ) (xs : List X) (k : ℕ) (x : X) → slice_get (take j xs) k ≡ Some x → (k < j) × (slice_get xs k ≡ Some x)
  get-take zero xs k x is = absurd (none-some x is)
  get-take (suc j) [] k x is = absurd (none-some x is)
  get-take (suc j) (y ∷ xs) zero x is = (omega arith, is)
  get-take (suc j) (y ∷ xs) (suc k) x is =
      let rest = get-take j xs k x is in
      (omega (arith, rest.0), rest.1)

  take-get : (j : ℕ) (xs : List X) (k : ℕ) (x : X) → k < j → slice_get xs k ≡ Some x → slice_get (take j xs) k ≡ Some x
  take-get zero xs k x low is = absurd (omega (arith, low))
  take-get (suc j) [] k x low is = absurd (none-some x is)
  take-get (suc j) (y ∷ xs) zero x low is = is
  take-get (suc j) (y ∷ xs) (suc k) x low is = take-get j xs k x (omega (arith, low)) is

  pub in-front : (j : ℕ) (xs : List X) (k : ℕ) (x : X) → k < j → slice_get xs k ≡ Some x → Contains (take j xs) x
  in-front j xs k x low is = get-in (take j xs) k x (take-get j xs k x low is)

  -- an item of a front, with its place
  pub front-in : (j : ℕ) (xs : List X) (x : X) → Contains (take j xs) x → (k : ℕ) × (k < j) × (slice_get xs k ≡ Some x)
  front-in j xs x is =
      let at = in-get (take j xs) x is in
      let there = get-take j xs at.0 x at.1 in
      (at.0, there.0, there.1)

-- no number is there twice
pub once-push : (ns : List ℕ) (x : ℕ) → AreOnce ns → (Contains ns x → ⊥) → AreOnce (ns ++ x ∷ [])
once-push ns x once new i j n p q = elim (get-push ns x i n p) [
  | inl a ↦ elim (get-push ns x j n q) [
    | inl b ↦ once i j n a b
    | inr b ↦ absurd (new (get-in ns i x (a ∙ ap Some (sym b.1))))
  ]
  | inr a ↦ elim (get-push ns x j n q) [
    | inl b ↦ absurd (new (get-in ns j x (b ∙ ap Some (sym a.1))))
    | inr b ↦ a.0 ∙ sym b.0
  ]
]

pub once-front : (ns ms : List ℕ) → AreOnce (ns ++ ms) → AreOnce ns
once-front ns ms once i j n p q = once i j n (get-kept ns ms i n p) (get-kept ns ms j n q)

pub once-last : (ns : List ℕ) (x : ℕ) → AreOnce (ns ++ x ∷ []) → Contains ns x → ⊥
once-last ns x once is =
    let at = in-get ns x is in
    let same : at.0 ≡ length ns = once at.0 (length ns) x (get-kept ns (x ∷ []) at.0 x at.1) (get-last ns x) in
    let under : at.0 < length ns = slice_get_within ns at.0 x at.1 in
    absurd (omega (arith, same, under))
