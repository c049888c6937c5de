-- A word that decodes is the encoding of its bytes exactly where each of its bytes is one of the sixteen digits.
use Rattle.std.proofs.Common.{◌≡◌, ℕ, zero, suc, ◌+◌, ◌*◌, ◌/◌, ◌%◌, ◌<◌, Bool, true, false, List, [], ◌∷◌, length, refl, sym, ap, ◌∙◌, arith, Option, Some, None}
use Rattle.std.proofs.lemmas.Bool.{or_parts}
use Rattle.std.proofs.lemmas.Slice.Eq.{bytes_eq-Decides}
use Rattle.std.specs.List.{list_any}
use Rattle.std.specs.Prelude.{nat_le, if◌then◌else◌, slice_index, ◌||◌, Result, Ok, Err}
use Rattle.std.specs.Result.{result_unwrap_or}
use Rattle.hex.specs.Hex.{IsBytes, decode_pairs, decode_sized, digit_or_error, encode_lower, encode_with, hex_digit_value, lower_digits, pair_value, value_at, ◌>>=◌}
use Rattle.hex.specs.declared.error.FromHexError.{FromHexError}
use Rattle.hex.proofs.HexLemmas.{IsDigits-lower_digits, decode_sized-ok, length-encode_with}
use Rattle.hex.proofs.Pairs.{decode_sized-pairs}
use Rattle.redo_digest.specs.Digest.{digest_of, is_other}
use Rattle.redo_digest.proofs.SpellingLemmas.{digest_is}

-- ---- the digits that are written

-- what no element of a list passes, the one at a place doesn't pass
pub none_at : (p : ℕ → Bool) (xs : List ℕ) (k : ℕ) → k < length xs → list_any p xs ≡ false → p (slice_index xs k) ≡ false
none_at p [] k lt h = absurd (omega arith)
none_at p (x ∷ xs) zero lt h = (or_parts (p x) (list_any p xs) h).0
none_at p (x ∷ xs) (suc k) lt h = none_at p xs k (omega arith) (or_parts (p x) (list_any p xs) h).1

digit_is_one : (v : ℕ) → v < 16 → is_other (slice_index lower_digits v) ≡ false
digit_is_one v lt = none_at is_other lower_digits v lt refl

encoded_digits : (bytes : List ℕ) → IsBytes bytes → list_any is_other (encode_lower bytes) ≡ false
unfolding encode_with
encoded_digits [] h = refl
encoded_digits (b ∷ bytes) h =
    let fits : b < 256 = h 0 in
    rw (digit_is_one (b / 16) (omega arith), digit_is_one (b % 16) (omega arith)) (encoded_digits bytes (λ i. h (suc i)))

-- ---- a word of digits is written again

-- the code of the digit of a value, the letters in lower case
abbrev code_of : ℕ → ℕ
code_of v = if nat_le 10 v then v + 87 else v + 48

code_is : (c v : ℕ) → hex_digit_value c ≡ Some v → is_other c ≡ false → c ≡ code_of v
code_is c v h small = grind (arith)

-- the digit of a value, by its code
pub digit_code : (v : ℕ) → v < 16 → slice_index lower_digits v ≡ code_of v
digit_code v lt = code_is _ v (IsDigits-lower_digits v lt) (digit_is_one v lt)

value_small : (c v : ℕ) → hex_digit_value c ≡ Some v → v < 16
value_small c v h = grind (arith)

digit_again : (c v : ℕ) → hex_digit_value c ≡ Some v → is_other c ≡ false → slice_index lower_digits v ≡ c
digit_again c v h small =
    let lt = value_small c v h in
    digit_code v lt ∙ sym (code_is c v h small)

bind_ok : {A B : Type 0} (r : Result A FromHexError) (f : A → Result B FromHexError) (y : B) → (r >>= f) ≡ Ok y → (x : A) × (r ≡ Ok x) × (f x ≡ Ok y)
bind_ok (Ok x) f y h = (x, refl, h)
bind_ok (Err e) f y h = cc h

digit_value : (c i : ℕ) (o : Option ℕ) (v : ℕ) → digit_or_error c i o ≡ Ok v → o ≡ Some v
digit_value c i (Some w) v h = ap Some (ap (λ (r : Result ℕ FromHexError). result_unwrap_or r 0) h)
digit_value c i None v h = cc h

pair_again : (a b i byte : ℕ) → pair_value a b i ≡ Ok byte → is_other a ≡ false → is_other b ≡ false → (slice_index lower_digits (byte / 16) ≡ a) × (slice_index lower_digits (byte % 16) ≡ b)
pair_again a b i byte h sa sb =
    let high = bind_ok (value_at a i) _ byte h in
    let low = bind_ok (value_at b (i + 1)) _ byte high.2 in
    let va : hex_digit_value a ≡ Some high.0 = digit_value a i _ high.0 high.1 in
    let vb : hex_digit_value b ≡ Some low.0 = digit_value b (i + 1) _ low.0 low.1 in
    let whole : high.0 * 16 + low.0 ≡ byte = ap (λ (r : Result ℕ FromHexError). result_unwrap_or r 0) low.2 in
    let fits : low.0 < 16 = value_small b low.0 vb in
    let first : byte / 16 ≡ high.0 = omega arith in
    let second : byte % 16 ≡ low.0 = omega arith in
    (ap (slice_index lower_digits) first ∙ digit_again a high.0 va sa, ap (slice_index lower_digits) second ∙ digit_again b low.0 vb sb)

pairs_again : (i : ℕ) (word bytes : List ℕ) → decode_pairs i word ≡ Ok bytes → list_any is_other word ≡ false → encode_lower bytes ≡ word
unfolding decode_pairs encode_with
pairs_again i [] bytes h small =
    let e : [] ≡ bytes = ap (λ (r : Result (List ℕ) FromHexError). result_unwrap_or r []) h in
    rw (← e) refl
pairs_again i (a ∷ []) bytes h small = cc h
pairs_again i (a ∷ b ∷ rest) bytes h small =
    let first = bind_ok (pair_value a b i) _ bytes h in
    let behind = bind_ok (decode_pairs (i + 2) rest) _ bytes first.2 in
    let e : first.0 ∷ behind.0 ≡ bytes = ap (λ (r : Result (List ℕ) FromHexError). result_unwrap_or r []) behind.2 in
    let sa = or_parts (is_other a) (is_other b || list_any is_other rest) small in
    let sb = or_parts (is_other b) (list_any is_other rest) sa.1 in
    let pair = pair_again a b i first.0 first.1 sa.0 sb.0 in
    rw (← e, pair.0, pair.1) (ap (λ (w : List ℕ). a ∷ b ∷ w) (pairs_again (i + 2) rest behind.0 behind.1 sb.1))

-- ---- what a word is read as

pub digits_are_read : (word bytes : List ℕ) → list_any is_other word ≡ false → decode_sized word 32 ≡ Ok bytes → digest_of word ≡ Some bytes
digits_are_read word bytes small ok =
    let size = decode_sized-ok word 32 bytes ok in
    let pairs = sym (decode_sized-pairs word 32 (omega arith) (omega arith)) ∙ ok in
    rw (ok, (bytes_eq-Decides (encode_lower bytes) word).1 (pairs_again 0 word bytes pairs small)) refl

other_none : (word : List ℕ) (o : Option (List ℕ)) → list_any is_other word ≡ true → digest_of word ≡ o → digest_of word ≡ None
other_none word (Some digest) other h =
    let spelled = digest_is word digest h in
    let digits : list_any is_other word ≡ false = ap (list_any is_other) spelled.whole ∙ encoded_digits digest spelled.is.bytes in
    absurd cc
other_none word None other h = h

pub other_is_none : (word : List ℕ) → list_any is_other word ≡ true → digest_of word ≡ None
other_is_none word other = other_none word (digest_of word) other refl

size_none : (word : List ℕ) (o : Option (List ℕ)) → (length word ≡ 64 → ⊥) → digest_of word ≡ o → digest_of word ≡ None
size_none word (Some digest) size h =
    let spelled = digest_is word digest h in
    let twice : length word ≡ 2 * length digest = ap length spelled.whole ∙ length-encode_with lower_digits digest in
    let half : length digest ≡ 32 = spelled.is.size in
    absurd (size (omega arith))
size_none word None size h = h

pub other_size_is_none : (word : List ℕ) → (length word ≡ 64 → ⊥) → digest_of word ≡ None
other_size_is_none word size = size_none word (digest_of word) size refl

-- ---- the value of a pair

pub pair_read : (a b i high low : ℕ) → hex_digit_value a ≡ Some high → hex_digit_value b ≡ Some low → pair_value a b i ≡ Ok (high * 16 + low)
pair_read a b i high low h l = rw (h, l) refl
