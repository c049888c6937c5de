-- Vectors of four lanes.
use Rattle.std.proofs.Common.{◌≡◌, ℕ, zero, suc, ◌<◌, ◌-◌, ◌*◌, ◌/◌, ◌%◌, ◌^◌, List, [], ◌∷◌, length, slice_index, bit_or, arith, refl}
use Rattle.std.proofs.lemmas.List.{get_or-map}
use Rattle.std.specs.Int.{rotate_right, w32}
use Rattle.std.specs.Simd.Lanes.{zip2}
use Rattle.redo_digest.specs.inside.Lanes.{eight, lane_at, lanes}

-- what holds of each of the four lanes
pub below_four : (P : ℕ → Type 0) → P 0 → P 1 → P 2 → P 3 → (j : ℕ) → j < 4 → P j
below_four P p0 p1 p2 p3 zero h = p0
below_four P p0 p1 p2 p3 (suc zero) h = p1
below_four P p0 p1 p2 p3 (suc (suc zero)) h = p2
below_four P p0 p1 p2 p3 (suc (suc (suc zero))) h = p3
below_four P p0 p1 p2 p3 (suc (suc (suc (suc n)))) h = absurd (omega arith)

-- what holds of each list of four elements
pub four_lanes : (P : List ℕ → Type 0) → ((a b c d : ℕ) → P (a ∷ b ∷ c ∷ d ∷ [])) → (xs : List ℕ) → length xs ≡ 4 → P xs
four_lanes P p (a ∷ b ∷ c ∷ d ∷ []) h = p a b c d
four_lanes P p [] h = absurd (omega arith)
four_lanes P p (a ∷ []) h = absurd (omega arith)
four_lanes P p (a ∷ b ∷ []) h = absurd (omega arith)
four_lanes P p (a ∷ b ∷ c ∷ []) h = absurd (omega arith)
four_lanes P p (a ∷ b ∷ c ∷ d ∷ e ∷ xs) h = absurd (omega arith)

-- two shifts of each lane and an or are a rotation
abbrev Rotates : ℕ → List ℕ → Type 0
Rotates k a = (j : ℕ) → j < 4
    → slice_index (zip2 bit_or
    (zip2 (λ x n. x / 2 ^ n) a (k ∷ k ∷ k ∷ k ∷ []))
    (zip2 (λ x n. x * 2 ^ n % 2 ^ 32) a ((32 - k) ∷ (32 - k) ∷ (32 - k) ∷ (32 - k) ∷ []))) j
    ≡ rotate_right w32 (slice_index a j) k

pub shifts_rotate : (k : ℕ) → 0 < k → k < 32 → (a : List ℕ) → length a ≡ 4 → Rotates k a
shifts_rotate k low high =
    let right : k % 32 ≡ k = omega arith in
    let left : (32 - k) % 32 ≡ 32 - k = omega arith in
    four_lanes (Rotates k) (λ a0 a1 a2 a3.
    below_four _ (rw (right, left) refl) (rw (right, left) refl) (rw (right, left) refl) (rw (right, left) refl))

-- a shift of each lane
abbrev Shifts : ℕ → List ℕ → Type 0
Shifts k a = (j : ℕ) → j < 4 → slice_index (zip2 (λ x n. x / 2 ^ n) a (k ∷ k ∷ k ∷ k ∷ [])) j ≡ slice_index a j / 2 ^ k

pub shift_each : (k : ℕ) (a : List ℕ) → length a ≡ 4 → Shifts k a
shift_each k = four_lanes (Shifts k) (λ a0 a1 a2 a3. below_four _ refl refl refl refl)

-- word k of block j
pub lane_of : (x : List (List ℕ)) (j k : ℕ) → k < length x → slice_index (lanes j x) k ≡ lane_at x k j
lane_of x j k lt = get_or-map (λ v. slice_index v j) x k [] 0 lt

-- what holds of each of the eight words
pub below_eight : (P : ℕ → Type 0) → P 0 → P 1 → P 2 → P 3 → P 4 → P 5 → P 6 → P 7 → (k : ℕ) → k < 8 → P k
below_eight P a0 a1 a2 a3 b0 b1 b2 b3 zero h = a0
below_eight P a0 a1 a2 a3 b0 b1 b2 b3 (suc zero) h = a1
below_eight P a0 a1 a2 a3 b0 b1 b2 b3 (suc (suc zero)) h = a2
below_eight P a0 a1 a2 a3 b0 b1 b2 b3 (suc (suc (suc zero))) h = a3
below_eight P a0 a1 a2 a3 b0 b1 b2 b3 (suc (suc (suc (suc n)))) h = below_four (λ n. P (suc (suc (suc (suc n))))) b0 b1 b2 b3 n (omega arith)

-- word k of the hash value in lane j
pub word_in : (x : List (List ℕ)) (j k : ℕ) → k < 8 → slice_index (eight j x) k ≡ lane_at x k j
word_in x j = below_eight _ refl refl refl refl refl refl refl refl
