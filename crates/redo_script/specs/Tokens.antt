-- The tokens of a text, and the bytes that begin and end them.
use Rattle.std.specs.Prelude.{◌≡◌, ◌≢◌, ℕ, suc, Bool, true, false, ◌||◌, ◌==◌, if◌then◌else◌, List, [], ◌∷◌}
use Rattle.redo_script.specs.Bytes.{is_digit, is_plain, is_blank}
use Rattle.redo_script.specs.Syntax.{Word}
use Rattle.redo_script.specs.Bytes as bytes

-- A token, with the line on which it begins: a word, and whether it is written with plain bytes only; `;`; the end of
-- a line; and `>` or `>>`.
pub data Token : Type 0 where
  word : (line : ℕ) → (is_plain : Bool) → Word → Token
  semicolon : (line : ℕ) → Token
  newline : (line : ℕ) → Token
  redirect : (line : ℕ) → (appends : Bool) → Token

-- a byte that ends a word
abbrev pub ends_word : ℕ → Bool
ends_word b = is_blank b || (b == bytes.newline) || (b == bytes.semicolon) || (b == bytes.greater)

-- a word ends here: at such a byte, or at the end of the text
abbrev pub AtWordEnd : List ℕ → Type 0
AtWordEnd [] = Unit {0}
AtWordEnd (b ∷ bs) = ends_word b ≡ true

-- this byte does not come next
abbrev pub IsNotBefore : ℕ → List ℕ → Type 0
IsNotBefore c [] = Unit {0}
IsNotBefore c (b ∷ bs) = b ≢ c

-- more digits, if any, then `>`
abbrev pub digits_then : List ℕ → Bool
digits_then [] = false
digits_then (b ∷ bs) = if is_digit b then digits_then bs else (b == bytes.greater)

-- a byte that a word may begin with: a plain one, a quote or `$`
abbrev pub begins_word : ℕ → Bool
begins_word b = is_plain b || (b == bytes.single_quote) || (b == bytes.double_quote) || (b == bytes.dollar)

-- a byte that is literal after a backslash in double quotes, and never without one
abbrev pub is_escaped : ℕ → Bool
is_escaped b = (b == bytes.dollar) || (b == bytes.backquote) || (b == bytes.double_quote) || (b == bytes.backslash)

-- the line after a byte
abbrev pub line_after : ℕ → ℕ → ℕ
line_after line b = if b == bytes.newline then suc line else line
