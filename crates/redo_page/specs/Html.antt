-- Texts on a page: how bytes are shown and escaped, in HTML and in JSON, and how both read what was escaped.
use Rattle.std.specs.Prelude.{◌≡◌, ℕ, zero, suc, ◌/◌, ◌%◌, Bool, false, ◌==◌, ◌&&◌, ◌||◌, not, nat_lt, List, [], ◌∷◌}
use Rattle.std.specs.Prelude.{◌++◌, drop, length, take}
use Rattle.std.specs.Prelude.{codes, flat_map, if◌then◌else◌, slice_index}
use Rattle.std.specs.Str.Lossy.{after_first_chunk, utf8_invalid_len, utf8_valid_len}

-- What is shown

-- a control byte other than the tab
abbrev pub is_control : ℕ → Bool
is_control byte = (nat_lt byte 32 && not (byte == 9)) || byte == 127

abbrev pub hex_digit : ℕ → ℕ
hex_digit n = slice_index (codes "0123456789abcdef") n

-- a byte as `\xNN`
abbrev pub named : ℕ → List ℕ
named byte = codes "\\x" ++ hex_digit (byte / 16) ∷ hex_digit (byte % 16) ∷ []

-- a byte of a character as it is shown
abbrev pub visible : ℕ → List ℕ
visible byte = if is_control byte then named byte else byte ∷ []

-- the longest front of some bytes that is UTF-8
abbrev pub text_front : List ℕ → List ℕ
text_front bytes = take (utf8_valid_len bytes) bytes

-- the bytes behind it that are part of no character
abbrev pub broken_bytes : List ℕ → List ℕ
broken_bytes bytes = let rest = drop (utf8_valid_len bytes) bytes in take (utf8_invalid_len rest) rest

-- what is shown of bytes with at most so many runs of text
abbrev pub shown_within : ℕ → List ℕ → List ℕ
shown_within zero bytes = []
shown_within (suc k) bytes =
    flat_map visible (text_front bytes) ++ flat_map named (broken_bytes bytes)
    ++ shown_within k (after_first_chunk bytes)

-- bytes as they are shown: characters as they are, but control bytes, and bytes that are part of no character, as
-- `\xNN` each
unfoldable pub shown : List ℕ → List ℕ
shown bytes = shown_within (length bytes) bytes

-- What is written

-- what stands for a byte: `&`, `<`, `>`, `"` and `'` are written as references
abbrev pub reference : ℕ → List ℕ
reference byte =
    if byte == 38 then codes "&amp;" else
    if byte == 60 then codes "&lt;" else
    if byte == 62 then codes "&gt;" else
    if byte == 34 then codes "&quot;" else
    if byte == 39 then codes "&#39;" else byte ∷ []

-- bytes as they are shown, escaped
unfoldable pub escaped : List ℕ → List ℕ
escaped bytes = flat_map reference (shown bytes)

-- What HTML reads

-- whether a byte might begin or end markup, or a reference
abbrev pub is_markup : ℕ → Bool
is_markup byte = byte == 38 || byte == 60 || byte == 62 || byte == 34 || byte == 39

-- HTML reads this text as these bytes, in the content of an element or between quotes in an attribute: a reference as
-- what it stands for, and any other byte as itself, unless it might begin or end markup
pub data Reads : List ℕ → List ℕ → Type 0 where
  end : Reads [] []
  amp : (text bytes : List ℕ) → Reads text bytes → Reads (codes "&amp;" ++ text) (38 ∷ bytes)
  lt : (text bytes : List ℕ) → Reads text bytes → Reads (codes "&lt;" ++ text) (60 ∷ bytes)
  gt : (text bytes : List ℕ) → Reads text bytes → Reads (codes "&gt;" ++ text) (62 ∷ bytes)
  quot : (text bytes : List ℕ) → Reads text bytes → Reads (codes "&quot;" ++ text) (34 ∷ bytes)
  apos : (text bytes : List ℕ) → Reads text bytes → Reads (codes "&#39;" ++ text) (39 ∷ bytes)
  plain : (byte : ℕ) (text bytes : List ℕ) → is_markup byte ≡ false → Reads text bytes →
      Reads (byte ∷ text) (byte ∷ bytes)

-- What stands in the data

-- what stands for a byte in a string of JSON: `"`, `\` and the tab are escaped, and `<`, so that no tag begins there
abbrev pub in_string : ℕ → List ℕ
in_string byte =
    if byte == 34 then codes "\\\"" else
    if byte == 92 then codes "\\\\" else
    if byte == 60 then codes "\\u003c" else
    if byte == 9 then codes "\\t" else byte ∷ []

-- bytes as they are shown, as a string of JSON
unfoldable pub quoted : List ℕ → List ℕ
quoted bytes = codes "\"" ++ flat_map in_string (shown bytes) ++ codes "\""

-- whether a byte means something else than itself in a string of JSON, or might begin a tag
abbrev pub is_special : ℕ → Bool
is_special byte = byte == 34 || byte == 92 || byte == 60 || byte == 9

-- JSON reads this text, between quotes, as these bytes: an escape as what it stands for, and any other byte as itself
pub data ReadsString : List ℕ → List ℕ → Type 0 where
  end_string : ReadsString [] []
  quote : (text bytes : List ℕ) → ReadsString text bytes → ReadsString (codes "\\\"" ++ text) (34 ∷ bytes)
  backslash : (text bytes : List ℕ) → ReadsString text bytes → ReadsString (codes "\\\\" ++ text) (92 ∷ bytes)
  less_than : (text bytes : List ℕ) → ReadsString text bytes → ReadsString (codes "\\u003c" ++ text) (60 ∷ bytes)
  tab : (text bytes : List ℕ) → ReadsString text bytes → ReadsString (codes "\\t" ++ text) (9 ∷ bytes)
  itself : (byte : ℕ) (text bytes : List ℕ) → is_special byte ≡ false → ReadsString text bytes →
      ReadsString (byte ∷ text) (byte ∷ bytes)
