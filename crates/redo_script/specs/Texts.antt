-- The script of a whole text, and the fault of a text that has none.
use Rattle.std.specs.Prelude.{ℕ, Bool, true, false, ◌&&◌, ◌==◌, if◌then◌else◌, List, [], ◌∷◌, Result, Ok, codes}
use Rattle.std.specs.Str.{bytes_eq}
use Rattle.redo_script.specs.declared.fault.ScriptFault.{ScriptFault}
use Rattle.redo_script.specs.Faults.{◌>>=◌, fault_at}
use Rattle.redo_script.specs.Syntax.{Script}
use Rattle.redo_script.specs.Tokens.{line_after}
use Rattle.redo_script.specs.Reading.{tokens_of}
use Rattle.redo_script.specs.Parsing.{statements_of}
use Rattle.redo_script.specs.declared.fault.Reason.TheVariants as reasons
use Rattle.redo_script.specs.Bytes as bytes

-- the bytes before the first newline
abbrev pub first_line : List ℕ → List ℕ
first_line [] = []
first_line (b ∷ bs) = if b == bytes.newline then [] else b ∷ first_line bs

-- whether the bytes begin with `#!`
abbrev pub begins_interpreter : List ℕ → Bool
begins_interpreter [] = false
begins_interpreter (a ∷ []) = false
begins_interpreter (a ∷ b ∷ bs) = (a == bytes.hash) && (b == bytes.bang)

-- an interpreter line, if the text begins with one, is exactly this one
abbrev pub interpreter_is_fit : List ℕ → Bool
interpreter_is_fit text = if begins_interpreter text then bytes_eq (first_line text) (codes "#!/bin/sh -e") else true

-- no byte is NUL
abbrev pub has_no_nul : List ℕ → Bool
has_no_nul [] = true
has_no_nul (b ∷ bs) = if b == 0 then false else has_no_nul bs

-- the first pass: a fault at the first NUL byte, counting lines from this one on
abbrev pub nul_from : ℕ → List ℕ → Result (List ℕ) ScriptFault
nul_from line [] = Ok []
nul_from line (b ∷ bs) = if b == 0 then fault_at line reasons.Nul else nul_from (line_after line b) bs

-- the second pass: a fault on the first line
abbrev pub interpreter_of : List ℕ → Result (List ℕ) ScriptFault
interpreter_of text = if interpreter_is_fit text then Ok [] else fault_at 1 reasons.Interpreter

-- the script of a text, or the fault of the first of the four passes that has one
unfoldable pub script_in : List ℕ → Result Script ScriptFault
script_in text = do
  none ← nul_from 1 text
  fit ← interpreter_of text
  tokens ← tokens_of text
  statements_of tokens
