use Rattle.std.proofs.Common.{◌≡◌, take}
use Rattle.std.specs.List.{list_any}
use Rattle.redo_digest.specs.Digest.{is_other}
use Rattle.redo_digest.proofs.digest.has_other.Given as goal

-- whether one of the bytes so far is no digit
abbrev pub invariant-loop-byte : goal.invariant-loop-byte
invariant-loop-byte l = l.found ≡ list_any is_other (take l.byte-index l.word)
