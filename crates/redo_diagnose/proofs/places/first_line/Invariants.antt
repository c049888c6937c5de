use Rattle.std.proofs.Common.{◌≡◌, ◌++◌, drop}
use Rattle.redo_script.specs.Texts.{first_line}
use Rattle.redo_diagnose.proofs.places.first_line.Given as goal

-- the line so far, with the rest of it, is the line
abbrev pub invariant-loop-byte : goal.invariant-loop-byte
invariant-loop-byte l = l.line.items ++ first_line (drop l.byte-index l.text) ≡ first_line l.fn.text
