use Rattle.std.proofs.Common.{◌≡◌, ◌<◌, ℕ, Some, Contains, slice_get}
use Rattle.redo_alike.specs.inside.Known.{known_at}
use Rattle.redo_alike.proofs.groups.groups_below.Given as goal

abbrev pub invariant-loop-need : goal.invariant-loop-need
invariant-loop-need l =
    ((k m : ℕ) → k < l.need-index → slice_get l.needs k ≡ Some m → (g : ℕ) × (known_at l.known m ≡ Some g) × Contains l.below.items g)
    × ((g : ℕ) → Contains l.below.items g → (m : ℕ) × Contains l.needs m × (known_at l.known m ≡ Some g))
