use Rattle.std.proofs.Common.{◌<◌, ◌≤◌, ℕ, slice_index}
use Rattle.redo_rings.proofs.walks.least_place.Given as goal

abbrev pub invariant-loop-place : goal.invariant-loop-place
invariant-loop-place l =
    (l.best < l.place) × ((k : ℕ) → k < l.place → slice_index l.numbers l.best ≤ slice_index l.numbers k)
