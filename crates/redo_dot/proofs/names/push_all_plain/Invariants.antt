use Rattle.std.proofs.Common.{◌≡◌, ◌++◌, drop, flat_map}
use Rattle.redo_dot.specs.Dot.{plain_byte}
use Rattle.redo_dot.proofs.names.push_all_plain.Given as goal

-- the bytes so far, with those that are left, are all
abbrev pub invariant-loop-byte : goal.invariant-loop-byte
invariant-loop-byte l =
    l.text.items ++ flat_map plain_byte (drop l.byte-index l.bytes) ≡ l.initial.text.items ++ flat_map plain_byte l.bytes
