use Rattle.std.proofs.Common.{◌≤◌, ◌+◌}
use Rattle.redo_script.proofs.parser.reading.Reading.byte.Given as goal

abbrev pub invariant-loop-marked : goal.invariant-loop-marked
invariant-loop-marked l = l.self.scanner.lexer.line ≤ l.fn.self.scanner.lexer.line + 1
