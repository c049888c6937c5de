use Rattle.std.proofs.Common.{◌≡◌, ◌++◌, drop, map}
use Rattle.redo_script.specs.Syntax.{byte, Word}
use Rattle.redo_script.specs.inside.Parser.{status_on}
use Rattle.redo_script.proofs.number.Number.past_bytes.Given as goal

abbrev pub invariant-loop-byte : goal.invariant-loop-byte
invariant-loop-byte l = (w : Word) → status_on l.fn.self.digits l.fn.self.value (map byte l.bytes ++ w) ≡ status_on l.number.digits l.number.value (map byte (drop l.byte-index l.bytes) ++ w)
