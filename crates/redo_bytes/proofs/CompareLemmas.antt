-- Words of bytes, compared as the numbers that they spell.
use Rattle.std.proofs.Common.{◌≡◌, ◌+◌, ◌*◌, ◌<◌, ℕ, suc, Bool, true, false, List, [], ◌∷◌, refl, sym, ap, ◌∙◌, arith, length, nat_eq, slice_index_or, w32, w64}
use Rattle.std.specs.Cmp.{ranks}
use Rattle.std.specs.Cmp.Lexicographic.{bytes_decides, pointwise, slice_cmp}
use Rattle.std.specs.Int.{from_be_bytes, to_be_bytes}
use Rattle.std.specs.Ordering.{MatchOrdering, nat_cmp, ordering_then}
use Rattle.std.specs.declared.cmp.Ordering.{Ordering}
use Rattle.std.specs.declared.cmp.Ordering.TheVariants.{Less, Equal, Greater}
use Rattle.std.proofs.lemmas.Nat.{be_bytes_4, be_bytes_8}

abbrev pub Bytes : List ℕ → Type 0
Bytes xs = (k : ℕ) → slice_index_or xs k 0 < 256

-- ---- equality

both : (b c : Bool) → (b ≡ true → c ≡ true) → (c ≡ true → b ≡ true) → b ≡ c
both true true f g = refl
both true false f g = sym (f refl)
both false true f g = g refl
both false false f g = refl

number-is : (x y : ℕ) → nat_eq x y ≡ true → x ≡ y
number-is x y e = grind arith

is-number : (x y : ℕ) → x ≡ y → nat_eq x y ≡ true
is-number x y e = grind arith

pub equal-words : (xs ys : List ℕ) → length xs ≡ 8 → length ys ≡ 8 → Bytes xs → Bytes ys → nat_eq (from_be_bytes w64 xs) (from_be_bytes w64 ys) ≡ pointwise nat_eq xs ys
equal-words xs ys p q f g =
    let same : from_be_bytes w64 xs ≡ from_be_bytes w64 ys → xs ≡ ys = λ e. sym (be_bytes_8 xs _ p f refl) ∙ ap (to_be_bytes w64) e ∙ be_bytes_8 ys _ q g refl in
    let lists = bytes_decides xs ys in
    both _ _ (λ t. lists.1 (same (number-is _ _ t))) (λ t. is-number _ _ (ap (from_be_bytes w64) (lists.0 t)))

pub equal-halves : (xs ys : List ℕ) → length xs ≡ 4 → length ys ≡ 4 → Bytes xs → Bytes ys → nat_eq (from_be_bytes w32 xs) (from_be_bytes w32 ys) ≡ pointwise nat_eq xs ys
equal-halves xs ys p q f g =
    let same : from_be_bytes w32 xs ≡ from_be_bytes w32 ys → xs ≡ ys = λ e. sym (be_bytes_4 xs _ p f refl) ∙ ap (to_be_bytes w32) e ∙ be_bytes_4 ys _ q g refl in
    let lists = bytes_decides xs ys in
    both _ _ (λ t. lists.1 (same (number-is _ _ t))) (λ t. is-number _ _ (ap (from_be_bytes w32) (lists.0 t)))

-- ---- order

-- the number that the bytes spell after n, the greatest first
abbrev spelled : ℕ → List ℕ → ℕ
spelled n [] = n
spelled n (b ∷ bs) = spelled (n * 256 + b) bs

spells : (xs : List ℕ) → length xs ≡ 8 → from_be_bytes w64 xs ≡ spelled 0 xs
spells [] p = absurd (omega arith)
spells (a ∷ []) p = absurd (omega arith)
spells (a ∷ b ∷ []) p = absurd (omega arith)
spells (a ∷ b ∷ c ∷ []) p = absurd (omega arith)
spells (a ∷ b ∷ c ∷ d ∷ []) p = absurd (omega arith)
spells (a ∷ b ∷ c ∷ d ∷ e ∷ []) p = absurd (omega arith)
spells (a ∷ b ∷ c ∷ d ∷ e ∷ f ∷ []) p = absurd (omega arith)
spells (a ∷ b ∷ c ∷ d ∷ e ∷ f ∷ g ∷ []) p = absurd (omega arith)
spells (a ∷ b ∷ c ∷ d ∷ e ∷ f ∷ g ∷ h ∷ []) p = omega arith
spells (a ∷ b ∷ c ∷ d ∷ e ∷ f ∷ g ∷ h ∷ i ∷ rest) p = absurd (omega arith)

is-Less : (x y : ℕ) (r : Ordering) → MatchOrdering r (x < y) (x ≡ y) (y < x) → x < y → r ≡ Less
is-Less x y Less h l = refl
is-Less x y Equal h l = let e : x ≡ y = h in absurd (omega arith)
is-Less x y Greater h l = let e : y < x = h in absurd (omega arith)

is-Equal : (x y : ℕ) (r : Ordering) → MatchOrdering r (x < y) (x ≡ y) (y < x) → x ≡ y → r ≡ Equal
is-Equal x y Less h l = let e : x < y = h in absurd (omega arith)
is-Equal x y Equal h l = refl
is-Equal x y Greater h l = let e : y < x = h in absurd (omega arith)

is-Greater : (x y : ℕ) (r : Ordering) → MatchOrdering r (x < y) (x ≡ y) (y < x) → y < x → r ≡ Greater
is-Greater x y Less h l = let e : x < y = h in absurd (omega arith)
is-Greater x y Equal h l = let e : x ≡ y = h in absurd (omega arith)
is-Greater x y Greater h l = refl

rises : (a b : ℕ) (xs ys : List ℕ) → length xs ≡ length ys → Bytes xs → a < b → spelled a xs < spelled b ys
rises a b [] [] p f l = l
rises a b [] (y ∷ ys) p f l = absurd (omega arith)
rises a b (x ∷ xs) [] p f l = absurd (omega arith)
rises a b (x ∷ xs) (y ∷ ys) p f l = let small : x < 256 = f 0 in rises (a * 256 + x) (b * 256 + y) xs ys (omega arith) (λ k. f (suc k)) (omega arith)

order-spelled : (a : ℕ) (xs ys : List ℕ) → length xs ≡ length ys → Bytes xs → Bytes ys → nat_cmp (spelled a xs) (spelled a ys) ≡ slice_cmp nat_cmp xs ys
order-spelled a [] [] p f g = is-Equal a a _ (ranks a a) refl
order-spelled a [] (y ∷ ys) p f g = absurd (omega arith)
order-spelled a (x ∷ xs) [] p f g = absurd (omega arith)
order-spelled a (x ∷ xs) (y ∷ ys) p f g = by (order-spelled (a * 256 + x) xs ys (omega arith) (λ k. f (suc k)) (λ k. g (suc k))) (nat_cmp x y) refl (ranks x y)
  where
    left : ℕ
    left = spelled (a * 256 + x) xs

    right : ℕ
    right = spelled (a * 256 + y) ys

    by : nat_cmp left (spelled (a * 256 + x) ys) ≡ slice_cmp nat_cmp xs ys → (o : Ordering) → nat_cmp x y ≡ o → MatchOrdering o (x < y) (x ≡ y) (y < x) → nat_cmp left right ≡ ordering_then (nat_cmp x y) (slice_cmp nat_cmp xs ys)
    by rest Less e h =
        let l : x < y = h in
        is-Less left right _ (ranks left right) (rises (a * 256 + x) (a * 256 + y) xs ys (omega arith) (λ k. f (suc k)) (omega arith))
        ∙ sym (ap (λ o. ordering_then o (slice_cmp nat_cmp xs ys)) e)
    by rest Greater e h =
        let l : y < x = h in
        is-Greater left right _ (ranks left right) (rises (a * 256 + y) (a * 256 + x) ys xs (omega arith) (λ k. g (suc k)) (omega arith))
        ∙ sym (ap (λ o. ordering_then o (slice_cmp nat_cmp xs ys)) e)
    by rest Equal e h =
        let same : x ≡ y = h in
        ap (λ n. nat_cmp left (spelled (a * 256 + n) ys)) (sym same)
        ∙ rest
        ∙ sym (ap (λ o. ordering_then o (slice_cmp nat_cmp xs ys)) e)

pub order-words : (xs ys : List ℕ) → length xs ≡ 8 → length ys ≡ 8 → Bytes xs → Bytes ys → nat_cmp (from_be_bytes w64 xs) (from_be_bytes w64 ys) ≡ slice_cmp nat_cmp xs ys
order-words xs ys p q f g = (λ i. nat_cmp (spells xs p i) (spells ys q i)) ∙ order-spelled 0 xs ys (omega arith) f g
