use Rattle.std.proofs.Common.{◌≡◌, ◌≤◌, ◌+◌, drop}
use Rattle.redo_script.specs.Texts.{nul_from}
use Rattle.redo_script.proofs.reader.refuse_nul.Given as goal

abbrev pub invariant-loop-byte : goal.invariant-loop-byte
invariant-loop-byte l = record {
  reads : nul_from l.line (drop l.byte-index l.text) ≡ nul_from 1 l.text;
  line : l.line ≤ l.byte-index + 1;
}
