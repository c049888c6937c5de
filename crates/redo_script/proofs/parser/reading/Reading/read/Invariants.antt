use Rattle.std.proofs.Common.{◌≤◌, ◌+◌}
use Rattle.redo_script.proofs.parser.reading.Reading.read.Given as goal

abbrev pub invariant-loop-at : goal.invariant-loop-at
invariant-loop-at l = l.self.scanner.lexer.line ≤ l.at + 1
