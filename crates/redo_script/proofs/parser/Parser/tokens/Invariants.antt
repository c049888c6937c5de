use Rattle.std.proofs.Common.{◌≡◌, ◌++◌, List, Result, drop, map}
use Rattle.redo_script.specs.declared.fault.ScriptFault.{ScriptFault}
use Rattle.redo_script.specs.Syntax.{Script}
use Rattle.redo_script.specs.Tokens.{Token}
use Rattle.redo_script.specs.inside.Lexer.{token_of}
use Rattle.redo_script.specs.inside.Parser.{parser_of}
use Rattle.redo_script.specs.Parsing.{parse_on}
use Rattle.redo_script.proofs.parser.Parser.tokens.Given as goal

abbrev pub invariant-loop-place : goal.invariant-loop-place
invariant-loop-place l = record {
  reads : (ts : List Token) (total : Result Script ScriptFault) → parse_on (parser_of l.fn.self) (map token_of l.fn.tokens.items ++ ts) ≡ total → parse_on (parser_of l.self) (map token_of (drop l.place-index l.fn.tokens.items) ++ ts) ≡ total;
  left : drop l.place-index l.place-items ≡ drop l.place-index l.fn.tokens.items;
}
