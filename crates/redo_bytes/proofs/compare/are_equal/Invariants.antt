use Rattle.std.proofs.Common.{◌≡◌, nat_eq, length}
use Rattle.std.specs.Cmp.Lexicographic.{pointwise}
use Rattle.redo_bytes.proofs.compare.are_equal.Given as goal

abbrev pub invariant-words : goal.invariant-words
invariant-words l = pointwise nat_eq l.left l.right ≡ pointwise nat_eq l.left_rest l.right_rest

abbrev pub decreases-words : goal.decreases-words
decreases-words l = length l.left_rest
