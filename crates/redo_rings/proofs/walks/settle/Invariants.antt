use Rattle.std.proofs.Common.{◌≡◌, ℕ, take}
use Rattle.redo_rings.specs.inside.Walks.{IsIn, place_at}
use Rattle.redo_rings.proofs.walks.settle.Given as goal

abbrev pub invariant-loop-number : goal.invariant-loop-number
invariant-loop-number l =
    ((n : ℕ) → IsIn (take l.number-index l.numbers) n → place_at l.places n ≡ l.place)
    × ((n : ℕ) → (IsIn (take l.number-index l.numbers) n → ⊥) → place_at l.places n ≡ place_at l.initial.places n)
