use Rattle.std.proofs.Common.{◌≡◌, drop}
use Rattle.redo_script.specs.Bytes.{all_continue}
use Rattle.redo_script.proofs.item.are_name_bytes.Given as goal

abbrev pub invariant-loop-byte : goal.invariant-loop-byte
invariant-loop-byte l = all_continue (drop l.byte-index l.bytes) ≡ all_continue l.fn.bytes
