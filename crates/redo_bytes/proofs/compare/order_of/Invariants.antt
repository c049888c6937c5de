use Rattle.std.proofs.Common.{◌≡◌, length}
use Rattle.std.specs.Cmp.Lexicographic.{slice_cmp}
use Rattle.std.specs.Ordering.{nat_cmp}
use Rattle.redo_bytes.proofs.compare.order_of.Given as goal

abbrev pub invariant-words : goal.invariant-words
invariant-words l = slice_cmp nat_cmp l.left l.right ≡ slice_cmp nat_cmp l.left_rest l.right_rest

abbrev pub decreases-words : goal.decreases-words
decreases-words l = length l.left_rest
