use Rattle.std.proofs.Common.{◌≡◌, ℕ, ◌<◌, length, ◌*◌}
use Rattle.sha2.specs.Sha256.{IsRoundsAt, word_at}
use Rattle.redo_digest.specs.Digest.{one_of}
use Rattle.redo_digest.specs.inside.Lanes.{eight, lane_at, lanes}
use Rattle.redo_digest.proofs.lanes.compress.Given as goal

-- the words so far are the blocks'
abbrev pub invariant-load : goal.invariant-load
invariant-load l =
    (length l.w ≡ 16) × ((j k : ℕ) → j < 4 → k < l.i → lane_at l.w k j ≡ word_at (one_of l.a l.b l.c l.d j) (4 * k))

-- each lane has come as far as its block
abbrev pub invariant-schedule : goal.invariant-schedule
invariant-schedule l =
    (j : ℕ) → j < 4 → IsRoundsAt (one_of l.a l.b l.c l.d j) (eight j l.state) (lanes j l.w) (eight j l.v) (16 * l.turn)
