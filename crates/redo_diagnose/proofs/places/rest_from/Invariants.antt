use Rattle.std.proofs.Common.{◌≡◌, ◌+◌, ◌≤◌, length}
use Rattle.redo_diagnose.specs.Diagnoses.{rest_at}
use Rattle.redo_diagnose.proofs.places.rest_from.Given as goal

-- What is left is read as the whole text is, and no line is counted twice.
abbrev pub invariant-loop-left : goal.invariant-loop-left
invariant-loop-left l = record {
  same : rest_at l.here l.number l.left ≡ rest_at 1 l.fn.number l.fn.text;
  small : l.here + length l.left ≤ 1 + length l.fn.text;
}

abbrev pub decreases-loop-left : goal.decreases-loop-left
decreases-loop-left l = length l.left
