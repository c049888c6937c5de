-- Where the tokens of a text stop.
use Rattle.std.specs.Prelude.{◌≡◌, ℕ, true, List, [], ◌∷◌, ◌++◌, ◌⊎◌, ◌+◌, length}
use Rattle.redo_script.specs.declared.fault.ScriptFault.{ScriptFault}
use Rattle.redo_script.specs.Bytes.{begins_name}
use Rattle.redo_script.specs.declared.ast.Parameter.{Parameter}
use Rattle.redo_script.specs.Tokens.{Token}
use Rattle.redo_grammar.specs.Tokens.{Names, AreTokens}
use Rattle.redo_script.specs.Marks.{line_from}
use Rattle.redo_script.specs.declared.fault.Reason.TheVariants as reasons
use Rattle.redo_script.specs.Bytes as bytes

-- some text that begins with these bytes has tokens
pub record CanGoOn (bs : List ℕ) : Type 0 where
  pub more : List ℕ
  pub tokens : List Token
  pub are_tokens : AreTokens (bs ++ more) tokens

-- the fault is Unsupported, at the first byte that can't be where it is: the text before it can still continue
pub record StopsAtByte (text : List ℕ) (fault : ScriptFault) : Type 0 where
  pub before : List ℕ
  pub byte : ℕ
  pub after : List ℕ
  pub is : text ≡ before ++ byte ∷ after
  pub can_go_on : CanGoOn before
  pub stops : CanGoOn (before ++ byte ∷ []) → ⊥
  pub fault_is : fault ≡ record { line = line_from 1 before; why = reasons.Unsupported }

-- The fault is OpenQuote, on the line of a quote: the text before it has tokens, and no longer prefix of the text
-- has.
pub record QuoteIsOpen (text : List ℕ) (fault : ScriptFault) : Type 0 where
  pub before : List ℕ
  pub quote : ℕ
  pub inside : List ℕ
  pub is : text ≡ before ++ quote ∷ inside
  pub is_quote : (quote ≡ bytes.single_quote) ⊎ (quote ≡ bytes.double_quote)
  pub tokens : List Token
  pub has_tokens : AreTokens before tokens
  pub is_longest : (x y : List ℕ) (ts : List Token) → inside ≡ x ++ y → AreTokens (before ++ quote ∷ x) ts → ⊥
  pub fault_is : fault ≡ record { line = line_from 1 before; why = reasons.OpenQuote }

-- the bytes end after a `$` without its digit or name: only that digit or the first byte of a name can come next
abbrev pub NeedsParameter : List ℕ → Type 0
NeedsParameter bs = (b : ℕ) → CanGoOn (bs ++ b ∷ []) → ((p : Parameter) × Names b p) ⊎ (begins_name b ≡ true)

-- The text can still continue, but ends after a `$` without its digit or name, which is Unsupported on the line of the
-- end, or else in a quote.
pub record StopsAtEnd (text : List ℕ) (fault : ScriptFault) : Type 0 where
  pub can_go_on : CanGoOn text
  pub fault_is :
      (NeedsParameter text × (fault ≡ record { line = line_from 1 text; why = reasons.Unsupported }))
      ⊎ ((NeedsParameter text → ⊥) × QuoteIsOpen text fault)

-- The tokens of the text stop here: at the byte that can't be where it is, at the `$` that ends the text, or at the
-- quote that isn't closed.
abbrev pub StopsAt : List ℕ → ScriptFault → ℕ → Type 0
StopsAt text fault at =
    ((stop : StopsAtByte text fault) × (length stop.before ≡ at))
    ⊎ (NeedsParameter text × (at + 1 ≡ length text))
    ⊎ ((quote : QuoteIsOpen text fault) × (length quote.before ≡ at))
