-- The tokens of a text, byte by byte, or the first fault: which byte may come next, and what it does.
use Rattle.std.specs.Prelude.{ℕ, ◌+◌, Bool, true, false, ◌&&◌, ◌==◌, if◌then◌else◌, List, [], ◌∷◌, ◌++◌, Option, Some}
use Rattle.std.specs.Prelude.{None, Result, Ok}
use Rattle.redo_script.specs.declared.ast.Parameter.{Parameter}
use Rattle.redo_script.specs.declared.ast.Parameter.TheVariants.{One, Two, Three}
use Rattle.redo_script.specs.declared.fault.ScriptFault.{ScriptFault}
use Rattle.redo_script.specs.declared.fault.Reason.TheVariants as reasons
use Rattle.redo_script.specs.declared.lexer.Mode.{Mode}
use Rattle.redo_script.specs.declared.lexer.Mode.TheVariants as modes
use Rattle.redo_script.specs.Faults.{◌>>=◌, fault_at}
use Rattle.redo_script.specs.Syntax.{Symbol, byte, quoted, bare, named_quoted, named_bare, Word}
use Rattle.redo_script.specs.Bytes as bytes
use Rattle.redo_script.specs.Bytes.{is_digit, is_plain, is_blank, begins_name, continues_name}
use Rattle.redo_script.specs.Tokens.{Token, word, semicolon, newline, redirect, ends_word, is_escaped, line_after}

-- Where reading is: between which bytes, the line, the line of the quote that was opened last, the word that was
-- begun, the name that was begun last, and the tokens so far.
pub record Reader : Type 0 where
  pub mode : Mode
  pub line : ℕ
  pub opened : ℕ
  pub word_line : ℕ
  pub is_plain : Bool
  pub is_number : Bool
  pub word : Word
  pub name : List ℕ
  pub tokens : List Token

-- before the first byte
abbrev pub at_start : Reader
at_start = record {
  mode = modes.Gap;
  line = 1;
  opened = 1;
  word_line = 1;
  is_plain = true;
  is_number = true;
  word = [];
  name = [];
  tokens = [];
}

-- the next byte is a fault
abbrev pub unsupported : Reader → Result Reader ScriptFault
unsupported r = fault_at r.line reasons.Unsupported

-- the next byte belongs to something else
abbrev pub with_mode : Reader → Mode → Reader
with_mode r m = record r { mode = m }

-- one more token, then a place between words
abbrev pub with_token : Reader → Token → Reader
with_token r t = record r { mode = modes.Gap; tokens = r.tokens ++ t ∷ [] }

-- one more symbol of the word
abbrev pub with_symbol : Reader → Mode → Symbol → Reader
with_symbol r m s = record r { mode = m; word = r.word ++ s ∷ [] }

-- no word is begun
abbrev pub with_no_word : Reader → Reader
with_no_word r = record r { word = [] }

-- a word begins here
abbrev pub with_begun_word : Reader → Reader
with_begun_word r = record r { word_line = r.line; is_plain = true; is_number = true; word = [] }

-- a piece that isn't plain bytes
abbrev pub with_quote : Reader → Mode → Reader
with_quote r m = record r { mode = m; opened = r.line; is_plain = false; is_number = false }

-- a byte that a word begins or continues with
abbrev pub word_byte : Reader → ℕ → Result Reader ScriptFault
word_byte r b =
    if is_plain b
    then Ok (record r { mode = modes.Word; is_number = r.is_number && is_digit b; word = r.word ++ byte b ∷ [] })
    else if b == bytes.single_quote then Ok (with_quote r modes.Single)
    else if b == bytes.double_quote then Ok (with_quote r modes.Double)
    else if b == bytes.dollar then Ok (with_quote r modes.Dollar)
    else unsupported r

-- a byte between words
abbrev pub gap_byte : Reader → ℕ → Result Reader ScriptFault
gap_byte r b =
    if is_blank b then Ok (with_mode r modes.Gap)
    else if b == bytes.newline then Ok (record (with_token r (newline r.line)) { line = r.line + 1 })
    else if b == bytes.semicolon then Ok (with_mode (with_token r (semicolon r.line)) modes.Semicolon)
    else if b == bytes.greater then Ok (with_mode r modes.Redirect)
    else if b == bytes.hash then Ok (with_mode r modes.Comment)
    else word_byte (with_begun_word r) b

-- the current word ends
abbrev pub with_word : Reader → Reader
with_word r = with_no_word (with_token r (word r.word_line r.is_plain r.word))

-- a byte directly after a piece of a word
abbrev pub in_word : Reader → ℕ → Result Reader ScriptFault
in_word r b =
    if (b == bytes.greater) && r.is_number then unsupported r
    else if ends_word b then gap_byte (with_word r) b
    else word_byte r b

-- a byte directly after `;`
abbrev pub after_semicolon : Reader → ℕ → Result Reader ScriptFault
after_semicolon r b = if b == bytes.semicolon then unsupported r else gap_byte r b

-- a byte directly after `>`
abbrev pub after_redirect : Reader → ℕ → Result Reader ScriptFault
after_redirect r b =
    if b == bytes.greater then Ok (with_token r (redirect r.line true))
    else gap_byte (with_token r (redirect r.line false)) b

-- a byte of a comment
abbrev pub in_comment : Reader → ℕ → Result Reader ScriptFault
in_comment r b = if b == bytes.newline then gap_byte r b else Ok r

-- a byte in single quotes
abbrev pub in_single : Reader → ℕ → Result Reader ScriptFault
in_single r b =
    if b == bytes.single_quote then Ok (with_mode r modes.Word)
    else Ok (record (with_symbol r modes.Single (byte b)) { line = line_after r.line b })

-- a byte in double quotes
abbrev pub in_double : Reader → ℕ → Result Reader ScriptFault
in_double r b =
    if b == bytes.double_quote then Ok (with_mode r modes.Word)
    else if b == bytes.dollar then Ok (with_mode r modes.QuotedDollar)
    else if b == bytes.backslash then Ok (with_mode r modes.Escape)
    else if b == bytes.backquote then unsupported r
    else Ok (record (with_symbol r modes.Double (byte b)) { line = line_after r.line b })

-- a byte after a backslash in double quotes
abbrev pub after_backslash : Reader → ℕ → Result Reader ScriptFault
after_backslash r b =
    if b == bytes.newline then unsupported r
    else if is_escaped b then Ok (with_symbol r modes.Double (byte b))
    else Ok (with_symbol (with_symbol r modes.Double (byte bytes.backslash)) modes.Double (byte b))

-- the parameter that a digit names
abbrev pub parameter_named : ℕ → Option Parameter
parameter_named b = if b == 49 then Some One else if b == 50 then Some Two else if b == 51 then Some Three else None

-- one more parameter of the word, if there is one
abbrev pub with_parameter : Reader → Mode → (Parameter → Symbol) → Option Parameter → Result Reader ScriptFault
with_parameter r m symbol None = unsupported r
with_parameter r m symbol (Some p) = Ok (with_symbol r m (symbol p))

-- a name begins with this byte
abbrev pub with_name : Reader → Mode → ℕ → Reader
with_name r m b = record r { mode = m; name = b ∷ [] }

-- a byte after `$`
abbrev pub after_dollar : Reader → ℕ → Result Reader ScriptFault
after_dollar r b =
    if begins_name b then Ok (with_name r modes.Name b) else with_parameter r modes.Word bare (parameter_named b)

-- a byte after `$` in double quotes
abbrev pub after_quoted_dollar : Reader → ℕ → Result Reader ScriptFault
after_quoted_dollar r b =
    if begins_name b then Ok (with_name r modes.QuotedName b)
    else with_parameter r modes.Double quoted (parameter_named b)

-- one more byte of a name
abbrev pub with_name_byte : Reader → ℕ → Reader
with_name_byte r b = record r { name = r.name ++ b ∷ [] }

-- a byte directly after one of a name
abbrev pub in_name : Reader → ℕ → Result Reader ScriptFault
in_name r b =
    if continues_name b then Ok (with_name_byte r b) else in_word (with_symbol r modes.Word (named_bare r.name)) b

-- a byte directly after one of a name in double quotes
abbrev pub in_quoted_name : Reader → ℕ → Result Reader ScriptFault
in_quoted_name r b =
    if continues_name b then Ok (with_name_byte r b)
    else in_double (with_symbol r modes.Double (named_quoted r.name)) b

-- one more byte, by what it belongs to
abbrev pub by_mode : Mode → Reader → ℕ → Result Reader ScriptFault
by_mode modes.Gap r b = gap_byte r b
by_mode modes.Semicolon r b = after_semicolon r b
by_mode modes.Redirect r b = after_redirect r b
by_mode modes.Comment r b = in_comment r b
by_mode modes.Word r b = in_word r b
by_mode modes.Dollar r b = after_dollar r b
by_mode modes.Name r b = in_name r b
by_mode modes.Single r b = in_single r b
by_mode modes.Double r b = in_double r b
by_mode modes.QuotedDollar r b = after_quoted_dollar r b
by_mode modes.QuotedName r b = in_quoted_name r b
by_mode modes.Escape r b = after_backslash r b

-- one more byte
unfoldable pub next_byte : Reader → ℕ → Result Reader ScriptFault
next_byte r b = by_mode r.mode r b

-- the end of the text, by what was read last
abbrev pub end_by_mode : Mode → Reader → Result (List Token) ScriptFault
end_by_mode modes.Gap r = Ok r.tokens
end_by_mode modes.Semicolon r = Ok r.tokens
end_by_mode modes.Comment r = Ok r.tokens
end_by_mode modes.Redirect r = Ok (with_token r (redirect r.line false)).tokens
end_by_mode modes.Word r = Ok (with_word r).tokens
end_by_mode modes.Name r = Ok (with_word (with_symbol r modes.Word (named_bare r.name))).tokens
end_by_mode modes.Dollar r = fault_at r.line reasons.Unsupported
end_by_mode modes.QuotedDollar r = fault_at r.line reasons.Unsupported
end_by_mode modes.Single r = fault_at r.opened reasons.OpenQuote
end_by_mode modes.Double r = fault_at r.opened reasons.OpenQuote
end_by_mode modes.QuotedName r = fault_at r.opened reasons.OpenQuote
end_by_mode modes.Escape r = fault_at r.opened reasons.OpenQuote

-- the end of the text
unfoldable pub at_end : Reader → Result (List Token) ScriptFault
at_end r = end_by_mode r.mode r

-- reading goes on to the end of the text
unfoldable pub read_on : Reader → List ℕ → Result (List Token) ScriptFault
read_on r [] = at_end r
read_on r (b ∷ bs) = next_byte r b >>= λ r'. read_on r' bs

-- the tokens of a text, or the first fault
unfoldable pub tokens_of : List ℕ → Result (List Token) ScriptFault
tokens_of text = read_on at_start text
