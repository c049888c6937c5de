use Rattle.std.proofs.Common.{◌≡◌, ℕ, length, slice_index, take}
use Rattle.std.specs.List.{count_by}
use Rattle.redo_rings.specs.inside.Found.{is_at}
use Rattle.redo_rings.proofs.finding.counts.Given as goal

abbrev pub invariant-loop-place : goal.invariant-loop-place
invariant-loop-place l =
    (length l.counts.items ≡ length l.places)
    × ((m : ℕ) → slice_index l.counts.items m ≡ count_by (is_at m) (take l.place-index l.places))
