use Rattle.std.proofs.Common.{◌≡◌, ℕ, length, None}
use Rattle.redo_rings.specs.inside.Walks.{circle_at}
use Rattle.redo_rings.proofs.walks.begun.Given as goal

abbrev pub invariant-loop-number : goal.invariant-loop-number
invariant-loop-number l =
    (length l.circles.items ≡ l._number) × ((n : ℕ) → circle_at l.circles.items n ≡ None)
