-- How the last two passes run side by side.
use Rattle.std.specs.Prelude.{ℕ, ◌≡◌, List, [], Some, None, Result, Ok, Err}
use Rattle.std.specs.Borrow.{Bor}
use Rattle.redo_script.specs.declared.fault.ScriptFault.{ScriptFault}
use Rattle.redo_script.specs.declared.statements.Statements.{Statements}
use Rattle.redo_script.specs.declared.reader.passes.Passes.{Passes}
use Rattle.redo_script.specs.declared.lexer.Mode.TheVariants as modes
use Rattle.redo_script.specs.Faults.{◌>>=◌, Fails}
use Rattle.redo_script.specs.Syntax.{Script}
use Rattle.redo_script.specs.Tokens.{Token}
use Rattle.redo_script.specs.Parsing.{Parser, parse_on, statements_of}
use Rattle.redo_script.specs.Reading.{read_on, tokens_of}
use Rattle.redo_script.specs.inside.Lexer.{reader_of}
use Rattle.redo_script.specs.inside.Parser.{parser_of}

-- With these tokens to come, reading statements has this result in all; a fault that was kept is that result.
abbrev pub IsOn : Statements → List Token → Result Script ScriptFault → Type 0
IsOn s ts total = elim s.fault [ None ↦ parse_on (parser_of s.parser) ts ≡ total | Some e ↦ total ≡ Err e ]

-- After some of the tokens the parser goes on with the others, and has the result that all of them have, unless memory
-- ran out or the first ones have the fault.
abbrev pub ParsesOn : {U : Type 0} → Parser → Result U ScriptFault → List Token → Result Script ScriptFault → Type 0
ParsesOn p (Ok u) ts total = parse_on p ts ≡ total
ParsesOn p (Err e) ts total = Fails e total

-- With this result of reading the rest of the text, reading statements has this result in all: a fault of the tokens
-- goes before one of the commands.
abbrev pub Follows : Statements → Result (List Token) ScriptFault → Result Script ScriptFault → Type 0
Follows s (Ok ts) total = IsOn s ts total
Follows s (Err e) total = total ≡ Err e

-- With the rest of the text to come, the last two passes have this result in all.
abbrev pub IsAt : Passes → List ℕ → Result Script ScriptFault → Type 0
IsAt p left total = Follows p.statements (read_on (reader_of p.lexer) left) total

-- After part of the text the passes go on with the rest, and have the result that all of it has, unless memory ran out
-- or the part has the fault.
abbrev pub GoesOn : Passes → Result (Bor (List ℕ)) ScriptFault → Result Script ScriptFault → Type 0
GoesOn p (Ok left) total = IsAt p left.now total
GoesOn p (Err e) total = Fails e total

-- from the text on, the first passes were read to become the second, with what was returned
abbrev pub ReadsFrom : Passes → List ℕ → Passes → Result (Bor (List ℕ)) ScriptFault → Type 0
ReadsFrom old text new result = (total : Result Script ScriptFault) → IsAt old text total → GoesOn new result total

-- no token is left in the lexer
abbrev pub IsHanded : Passes → Type 0
IsHanded p = (reader_of p.lexer).tokens ≡ []

-- the lexer is between words, and no token is left in it
abbrev pub IsBetween : Passes → Type 0
IsBetween p = (p.lexer.mode ≡ modes.Gap) × IsHanded p

-- the last two passes, one after the other
abbrev pub script_by_tokens : List ℕ → Result Script ScriptFault
script_by_tokens text = do
  tokens ← tokens_of text
  statements_of tokens
