-- Each digest of a content is one: it has 32 bytes.
use Rattle.std.proofs.Common.{ℕ, zero, suc, ◌<◌, ◌/◌, ◌%◌, ◌^◌, List, [], ◌∷◌, ◌++◌, arith}
use Rattle.std.specs.Int.{byte_at, bytes_high_first, to_be_bytes, w32}
use Rattle.std.specs.Prelude.{slice_index}
use Rattle.hex.specs.Hex.{IsBytes}
use Rattle.sha2.specs.Sha256.{digest_bytes, sha256}
use Rattle.sha2.proofs.Facts256.{length-sha256}
use Rattle.redo_digest.specs.Digest.{IsDigest}

no_bytes : IsBytes []
no_bytes i = omega arith

byte_first : (x : ℕ) (xs : List ℕ) → x < 256 → IsBytes xs → IsBytes (x ∷ xs)
byte_first x xs h k i = elim i as (λ i. slice_index (x ∷ xs) i < 256) [ zero ↦ h | suc j ↦ k j ]

bytes_behind : (xs ys : List ℕ) → IsBytes xs → IsBytes ys → IsBytes (xs ++ ys)
bytes_behind [] ys h k = k
bytes_behind (x ∷ xs) ys h k = byte_first x (xs ++ ys) (h 0) (bytes_behind xs ys (λ i. h (suc i)) k)

low_byte : (n : ℕ) → n % 256 < 256
low_byte n = omega arith

byte_fits : (k n : ℕ) → byte_at k n < 256
byte_fits zero n = low_byte n
byte_fits (suc k) n = low_byte (n / 256 ^ suc k)

high_first : (k n : ℕ) → IsBytes (bytes_high_first k n)
high_first zero n = no_bytes
high_first (suc k) n = byte_first (byte_at k n) (bytes_high_first k n) (byte_fits k n) (high_first k n)

words_bytes : (hash : List ℕ) (n : ℕ) → IsBytes (digest_bytes hash n)
unfolding digest_bytes
words_bytes hash zero = no_bytes
words_bytes hash (suc n) = bytes_behind (digest_bytes hash n) (to_be_bytes w32 (slice_index hash n)) (words_bytes hash n) (high_first 4 (slice_index hash n))

sha256_bytes : (content : List ℕ) → IsBytes (sha256 content)
unfolding sha256
sha256_bytes content = words_bytes _ 8

pub digest_of_content : (content : List ℕ) → IsDigest (sha256 content)
digest_of_content content = record { size = length-sha256 content; bytes = sha256_bytes content }
