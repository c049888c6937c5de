use Rattle.std.proofs.Common.{◌≡◌, ℕ, ◌<◌, ◌≤◌, [], length, slice_index_or}
use Rattle.std.specs.Prelude.{◌==◌, if◌then◌else◌, slice_index}
use Rattle.sha2.specs.Sha256.{digest_bytes}
use Rattle.redo_digest.specs.inside.Lanes.{eight}
use Rattle.redo_digest.proofs.four.keep_ended.Given as goal

-- the lanes so far are done, the others are as they were
abbrev pub invariant-lanes : goal.invariant-lanes
invariant-lanes l =
    (length l.made ≡ 4)
    × ((j : ℕ) → j < l.lane → slice_index_or l.made j [] ≡ (if slice_index l.counts j == l.taken then digest_bytes (eight j l.state) 8 else slice_index_or l.initial.made j []))
    × ((j : ℕ) → l.lane ≤ j → slice_index_or l.made j [] ≡ slice_index_or l.initial.made j [])
