use Rattle.std.proofs.Common.{ℕ, ◌<◌, slice_index_or, []}
use Rattle.redo_digest.specs.Digest.{one_of}
use Rattle.redo_digest.specs.inside.Lanes.{eight}
use Rattle.redo_digest.proofs.PaddingLemmas.{LaneAt}
use Rattle.redo_digest.proofs.four.four_digests.Given as goal

-- each lane has taken in the blocks so far, and those of contents that have ended have their digests
abbrev pub invariant-each : goal.invariant-each
invariant-each l =
    (j : ℕ) → j < 4 → LaneAt (one_of l.a l.b l.c l.d j) (eight j l.state) (slice_index_or l.made j []) l.block
