use Rattle.std.proofs.Common.{◌≡◌, not, ◌&&◌, drop}
use Rattle.redo_script.specs.Texts.{has_no_nul}
use Rattle.redo_script.proofs.reader.has_nul.Given as goal

abbrev pub invariant-loop-byte : goal.invariant-loop-byte
invariant-loop-byte l = (not l.found && has_no_nul (drop l.byte-index l.text)) ≡ has_no_nul l.fn.text
