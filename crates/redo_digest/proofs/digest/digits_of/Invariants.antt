use Rattle.std.proofs.Common.{◌≡◌, ◌*◌, ◌++◌, drop, length, take}
use Rattle.hex.specs.Hex.{encode_with, lower_digits}
use Rattle.redo_digest.proofs.digest.digits_of.Given as goal

-- the digits of the bytes so far are written
abbrev pub invariant-bytes : goal.invariant-bytes
invariant-bytes l =
    (length l.digits ≡ 64) ×
    (take (2 * l.at) l.digits ++ encode_with lower_digits (drop l.at l.bytes) ≡ encode_with lower_digits l.bytes)
