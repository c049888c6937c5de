-- A content with its padding, in blocks of 64 bytes.
use Rattle.std.specs.Prelude.{◌≡◌, ◌+◌, ◌*◌, ◌/◌, ◌%◌, ℕ, List, drop, length, take}
use Rattle.sha2.specs.Sha256.{padded_message}

-- the block with this number
abbrev pub block_of : List ℕ → ℕ → List ℕ
block_of m k = take 64 (drop (k * 64) (padded_message m))

-- the front of some bytes is what the padded content has behind the whole blocks of the content
abbrev pub IsTail : List ℕ → List ℕ → Type 0
IsTail m tail = take (64 * ((length m % 64 + 72) / 64)) tail ≡ drop (length m / 64 * 64) (padded_message m)
