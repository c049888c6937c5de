-- Runs of bytes that are read at once.
use Rattle.std.specs.Prelude.{not, ◌≡◌, ℕ, Bool, true, false, ◌&&◌, ◌||◌, ◌==◌, List, [], ◌∷◌, Result, Ok, Err}
use Rattle.redo_script.specs.declared.fault.ScriptFault.{ScriptFault}
use Rattle.redo_script.specs.Faults.{Fails}
use Rattle.redo_script.specs.Tokens.{Token, is_escaped}
use Rattle.std.specs.Borrow.{Bor}
use Rattle.redo_script.specs.Bytes as bytes
use Rattle.redo_script.specs.Bytes.{is_digit, is_plain, is_blank}
use Rattle.redo_script.specs.Reading.{Reader, read_on}

-- After part of a text, reading goes on with the rest and has the result of reading all of it, unless memory ran out or
-- the part has the fault.
abbrev pub ReadsOn : Reader → Result (Bor (List ℕ)) ScriptFault → Result (List Token) ScriptFault → Type 0
ReadsOn r (Ok rest) total = read_on r rest.now ≡ total
ReadsOn r (Err e) total = Fails e total

-- every byte is plain
abbrev pub all_plain : List ℕ → Bool
all_plain [] = true
all_plain (b ∷ bs) = is_plain b && all_plain bs

-- every byte is a digit
abbrev pub all_digits : List ℕ → Bool
all_digits [] = true
all_digits (b ∷ bs) = is_digit b && all_digits bs

-- a word ends here, and no redirection follows directly
abbrev pub ends_plainly : List ℕ → Bool
ends_plainly [] = true
ends_plainly (b ∷ bs) = is_blank b || (b == bytes.newline) || (b == bytes.semicolon)

-- this byte comes first
abbrev pub begins_with : ℕ → List ℕ → Bool
begins_with c [] = false
begins_with c (b ∷ bs) = b == c

-- a byte that isn't literal in quotes of one kind or the other, or ends a line
abbrev pub is_special : ℕ → Bool
is_special b = is_escaped b || (b == bytes.single_quote) || (b == bytes.newline)

-- no byte is special in quotes
abbrev pub all_quotable : List ℕ → Bool
all_quotable [] = true
all_quotable (b ∷ bs) = not (is_special b) && all_quotable bs

-- a byte that opens or closes quotes
abbrev pub is_quote : ℕ → Bool
is_quote b = (b == bytes.single_quote) || (b == bytes.double_quote)
