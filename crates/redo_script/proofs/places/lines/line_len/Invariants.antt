use Rattle.std.proofs.Common.{◌≡◌, ◌+◌, length, drop}
use Rattle.redo_script.specs.Texts.{first_line}
use Rattle.redo_script.proofs.places.lines.line_len.Given as goal

abbrev pub invariant-loop-i : goal.invariant-loop-i
invariant-loop-i l = length (first_line l.text) ≡ l.i + length (first_line (drop l.i l.text))
