use Rattle.std.proofs.Common.{◌≡◌, ◌++◌, drop, flat_map}
use Rattle.redo_dot.specs.Dot.{entity_byte}
use Rattle.redo_dot.proofs.names.push_all.Given as goal

-- the bytes so far, with those that are left, are all
abbrev pub invariant-loop-byte : goal.invariant-loop-byte
invariant-loop-byte l =
    l.text.items ++ flat_map entity_byte (drop l.byte-index l.bytes) ≡ l.initial.text.items ++ flat_map entity_byte l.bytes
