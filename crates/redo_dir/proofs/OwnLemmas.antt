-- Names of temporary files.
use Rattle.std.proofs.Common.{◌≡◌, ◌+◌, ℕ, zero, suc, List, [], ◌∷◌, ap, arith, refl, take}
use Rattle.std.specs.Prelude.{◌/◌, ◌%◌, slice_index}
use Rattle.hex.specs.Hex.{encode_lower, encode_with, lower_digits}

-- the digits of the first bytes are the first digits
first_digits : (table : List ℕ) (n m : ℕ) (bytes : List ℕ) → m ≡ n + n → encode_with table (take n bytes) ≡ take m (encode_with table bytes)
unfolding encode_with
first_digits table zero m bytes e = let none : m ≡ 0 = omega (arith, e) in rw none refl
first_digits table (suc n) zero bytes e = absurd (omega (arith, e))
first_digits table (suc n) (suc zero) bytes e = absurd (omega (arith, e))
first_digits table (suc n) (suc (suc m)) [] e = refl
first_digits table (suc n) (suc (suc m)) (b ∷ bs) e = ap (λ ds. slice_index table (b / 16) ∷ slice_index table (b % 16) ∷ ds) (first_digits table n m bs (omega (arith, e)))

pub digits_of_front : (bytes : List ℕ) → encode_lower (take 8 bytes) ≡ take 16 (encode_lower bytes)
digits_of_front bytes = first_digits lower_digits 8 16 bytes refl
