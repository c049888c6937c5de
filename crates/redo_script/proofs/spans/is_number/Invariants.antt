use Rattle.std.proofs.Common.{◌≡◌, drop}
use Rattle.redo_script.specs.inside.Runs.{all_digits}
use Rattle.redo_script.proofs.spans.is_number.Given as goal

abbrev pub invariant-loop-byte : goal.invariant-loop-byte
invariant-loop-byte l = all_digits (drop l.byte-index l.bytes) ≡ all_digits l.fn.bytes
