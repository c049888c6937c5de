use Rattle.std.proofs.Common.{◌≤◌, ◌+◌, length}
use Rattle.redo_script.specs.inside.Lexer.{reader_of}
use Rattle.redo_script.proofs.StopMarkLemmas.{Reads}
use Rattle.redo_script.proofs.lexer.stops.stop_of_tokens.Given as goal

abbrev pub invariant-loop-at : goal.invariant-loop-at
invariant-loop-at l = record {
  reads : Reads l.text l.at (reader_of l.quoting.lexer) l.quoting.quote;
  within : l.at ≤ length l.text;
  line : l.quoting.lexer.line ≤ l.at + 1;
}
