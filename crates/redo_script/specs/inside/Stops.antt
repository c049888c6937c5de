-- Where tokens stop, in contracts of the functions that look for it.
use Rattle.std.specs.Prelude.{◌≡◌, ◌≤◌, ◌-◌, ℕ, List, length, take, Result, Err, Option, Some, None}
use Rattle.redo_script.specs.declared.fault.ScriptFault.{ScriptFault}
use Rattle.redo_script.specs.declared.lexer.stops.Stop.{Stop}
use Rattle.redo_script.specs.Tokens.{Token}
use Rattle.redo_script.specs.Reading.{tokens_of}
use Rattle.redo_script.specs.Marks.{line_from, stop_of}
use Rattle.redo_script.specs.declared.fault.Reason.TheVariants as reasons

-- The tokens of the text have this fault, and stop at this place, which is in the fault's line.
pub record StopsWith (text : List ℕ) (stop : Stop) : Type 0 where
  pub is_fault : tokens_of text ≡ Err stop.fault
  pub place : stop.at ≡ stop_of text
  pub within : stop.at ≤ length text
  pub line_is : line_from 1 (take stop.at text) ≡ stop.fault.line

-- no fault, or this one
abbrev pub Ends : Result (List Token) ScriptFault → Option Stop → Type 0
Ends read None = (fault : ScriptFault) → read ≡ Err fault → ⊥
Ends read (Some stop) = read ≡ Err stop.fault

-- at the end of a text of this length it is at the quote, or else at the last byte
abbrev pub IsAtEnd : ℕ → ℕ → Option Stop → Type 0
IsAtEnd quote len None = Unit {0}
IsAtEnd quote len (Some stop) =
    (stop.fault.why ≡ reasons.OpenQuote → stop.at ≡ quote)
    × (stop.fault.why ≡ reasons.Unsupported → stop.at ≡ len - 1)
