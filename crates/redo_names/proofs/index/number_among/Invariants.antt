use Rattle.std.proofs.Common.{◌≡◌, ◌<◌, ℕ, Some, slice_get}
use Rattle.redo_names.proofs.index.number_among.Given as goal

-- none of the paths before this one has the text
abbrev pub invariant-few : goal.invariant-few
invariant-few l = (k : ℕ) → k < l.number → slice_get l.paths k ≡ Some l.text → ⊥
