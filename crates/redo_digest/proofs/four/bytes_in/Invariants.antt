use Rattle.std.proofs.Common.{◌≡◌, ◌*◌, length, take}
use Rattle.sha2.specs.Sha256.{digest_bytes}
use Rattle.redo_digest.specs.inside.Lanes.{eight}
use Rattle.redo_digest.proofs.four.bytes_in.Given as goal

-- the bytes of the words so far
abbrev pub invariant-words : goal.invariant-words
invariant-words l = (length l.out ≡ 32) × (take (4 * l.i) l.out ≡ digest_bytes (eight l.lane l.state) l.i)
