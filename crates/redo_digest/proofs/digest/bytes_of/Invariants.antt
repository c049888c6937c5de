use Rattle.std.proofs.Common.{◌≡◌, ◌*◌, drop, length, take}
use Rattle.hex.specs.Hex.{decode_pairs}
use Rattle.hex.proofs.Pairs.{prepend}
use Rattle.redo_digest.proofs.digest.bytes_of.Given as goal

-- the pairs so far are decoded
abbrev pub invariant-bytes : goal.invariant-bytes
invariant-bytes l =
    (length l.bytes ≡ 32) ×
    (decode_pairs 0 l.word ≡ prepend (take l.at l.bytes) (decode_pairs (2 * l.at) (drop (2 * l.at) l.word)))
