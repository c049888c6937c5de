-- Places in a text: bytes of one line, and where its tokens stop.
use Rattle.std.specs.Prelude.{◌≡◌, ℕ, ◌+◌, ◌-◌, ◌≤◌, Bool, true, false, if◌then◌else◌, List, [], ◌∷◌, ◌++◌, length}
use Rattle.std.specs.Prelude.{Result, Ok, Err}
use Rattle.redo_script.specs.declared.fault.ScriptFault.{ScriptFault}
use Rattle.redo_script.specs.declared.lexer.Mode.{Mode}
use Rattle.redo_script.specs.declared.lexer.Mode.TheVariants as modes
use Rattle.redo_script.specs.declared.places.Span.{Span}
use Rattle.redo_script.specs.Tokens.{line_after}
use Rattle.redo_script.specs.Reading.{Reader, at_start, next_byte}
use Rattle.redo_script.specs.Texts.{first_line}

-- the line after these bytes, the first of which is on this line
abbrev pub line_from : ℕ → List ℕ → ℕ
line_from line [] = line
line_from line (b ∷ bs) = line_from (line_after line b) bs

-- the text has a line with this number
abbrev pub HasLine : List ℕ → ℕ → Type 0
HasLine text line = (1 ≤ line) × (line ≤ line_from 1 text)

-- These bytes of the text are in this line. If there are none, the line ends there.
pub record IsInLine (text : List ℕ) (line : ℕ) (span : Span) : Type 0 where
  pub before : List ℕ
  pub marked : List ℕ
  pub after : List ℕ
  pub is : text ≡ before ++ marked ++ after
  pub starts : length before ≡ span.start
  pub ends : span.start + length marked ≡ span.end
  pub line_is : line_from 1 before ≡ line
  pub has_no_newline : first_line marked ≡ marked
  pub shown : marked ≡ [] → first_line after ≡ []

-- these bytes of the text are in one line
abbrev pub IsInOneLine : List ℕ → Span → Type 0
IsInOneLine text span = (line : ℕ) × IsInLine text line span

-- each of these ends before the next begins
abbrev pub AreInOrder : List Span → Type 0
AreInOrder [] = Unit {0}
AreInOrder (a ∷ []) = Unit {0}
AreInOrder (a ∷ b ∷ spans) = (a.end ≤ b.start) × AreInOrder (b ∷ spans)

-- the next byte is inside quotes
abbrev pub is_inside : Mode → Bool
is_inside modes.Gap = false
is_inside modes.Semicolon = false
is_inside modes.Redirect = false
is_inside modes.Comment = false
is_inside modes.Word = false
is_inside modes.Dollar = false
is_inside modes.Name = false
is_inside modes.Single = true
is_inside modes.Double = true
is_inside modes.QuotedDollar = true
is_inside modes.QuotedName = true
is_inside modes.Escape = true

-- a digit or a name has to come next
abbrev pub is_dollar : Mode → Bool
is_dollar modes.Gap = false
is_dollar modes.Semicolon = false
is_dollar modes.Redirect = false
is_dollar modes.Comment = false
is_dollar modes.Word = false
is_dollar modes.Dollar = true
is_dollar modes.Name = false
is_dollar modes.Single = false
is_dollar modes.Double = false
is_dollar modes.QuotedDollar = true
is_dollar modes.QuotedName = false
is_dollar modes.Escape = false

-- where the quote is that was opened last, after the byte at this place took one mode to another
abbrev pub quote_after : (old new : Mode) → (at quote : ℕ) → ℕ
quote_after old new at quote = if is_inside old then quote else if is_inside new then at else quote

-- this place, if the byte at it is a fault, or else where reading the others stops
abbrev pub stop_or : ℕ → Result Reader ScriptFault → (Reader → ℕ) → ℕ
stop_or at (Ok r) later = later r
stop_or at (Err fault) later = at

-- Where reading the rest of a text stops, which begins at this place: at the byte that can't be where it is; or at the
-- end, at the `$` that ends the text, or else at the quote that was opened last.
unfoldable pub stop_from : Reader → (at quote : ℕ) → List ℕ → ℕ
stop_from r at quote [] = if is_dollar r.mode then at - 1 else quote
stop_from r at quote (b ∷ bs) =
    stop_or at (next_byte r b) (λ r'. stop_from r' (at + 1) (quote_after r.mode r'.mode at quote) bs)

-- where the tokens of a text stop that has a fault of them
unfoldable pub stop_of : List ℕ → ℕ
stop_of text = stop_from at_start 0 0 text
