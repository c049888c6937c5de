use Rattle.std.proofs.Common.{◌≡◌, drop}
use Rattle.redo_script.specs.View.{symbols_of}
use Rattle.redo_script.specs.inside.Parser.{status_on}
use Rattle.redo_script.proofs.number.Number.past_parts.Given as goal

abbrev pub invariant-loop-part : goal.invariant-loop-part
invariant-loop-part l = status_on l.number.digits l.number.value (symbols_of (drop l.part-index l.parts)) ≡ status_on l.fn.self.digits l.fn.self.value (symbols_of l.fn.parts)
