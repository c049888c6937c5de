-- Digests of contents, their spelling, and the states of paths.
use Rattle.std.specs.Prelude.{◌≡◌, ◌+◌, ◌/◌, ◌&&◌, ◌||◌, ℕ, Bool, List, Option, Some, None, IfSome, [], ◌∷◌, if◌then◌else◌, length, nat_le}
use Rattle.std.specs.Prelude.{not, option_and_then, option_map, slice_index_or}
use Rattle.std.specs.Result.{result_ok}
use Rattle.std.specs.Str.{bytes_eq}
use Rattle.hex.specs.Hex.{IsBytes, decode_sized, encode_lower}
use Rattle.sha2.specs.Sha256.{sha256}

-- 32 bytes
pub record IsDigest (digest : List ℕ) : Type 0 where
  pub size : length digest ≡ 32
  pub bytes : IsBytes digest

-- the word is the digits of a digest, with lower-case letters
pub record Spells (word digest : List ℕ) : Type 0 where
  pub whole : word ≡ encode_lower digest
  pub is : IsDigest digest

-- the digest that a word spells, if it spells one
abbrev pub digest_of : List ℕ → Option (List ℕ)
digest_of word =
    option_and_then (λ bytes. if bytes_eq (encode_lower bytes) word then Some bytes else None)
    (result_ok (decode_sized word 32))

-- whether a byte is none of the sixteen digits
abbrev pub is_other : ℕ → Bool
is_other c = not (nat_le 48 c && nat_le c 57 || nat_le 97 c && nat_le c 102)

-- how many blocks of 64 bytes a content of this length has with its padding
abbrev pub blocks_for : ℕ → ℕ
blocks_for n = (n + 72) / 64

-- one of four contents
abbrev pub one_of : List ℕ → List ℕ → List ℕ → List ℕ → ℕ → List ℕ
one_of a b c d j = slice_index_or (a ∷ b ∷ c ∷ d ∷ []) j []

-- what stood at a path: a file with this digest, or no file
abbrev pub State : Type 0
State = Option (List ℕ)

abbrev pub IsState : State → Type 0
IsState state = IfSome state IsDigest

-- the state of a path with this file, or with none
abbrev pub state_of : Option (List ℕ) → State
state_of file = option_map sha256 file
