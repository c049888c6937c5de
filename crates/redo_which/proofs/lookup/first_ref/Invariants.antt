use Rattle.std.proofs.Common.{◌≡◌, ◌≤◌, ◌+◌, ◌^◌, length}
use Rattle.redo_which.specs.Rule.{chosen_among, chosen_of, missing_among, missing_of}
use Rattle.redo_which.proofs.lookup.first_ref.Given as goal

-- none so far was a file, and they are few
abbrev pub invariant-loop-candidate : goal.invariant-loop-candidate
invariant-loop-candidate l = record {
  missing : l.count + length (missing_among l.tree l.candidates) ≡ length (missing_of l.tree l.target);
  chosen : chosen_among l.tree l.candidates ≡ chosen_of l.tree l.target;
  few : l.count + length l.candidates ≤ 2 ^ 20;
}

abbrev pub decreases-loop-candidate : goal.decreases-loop-candidate
decreases-loop-candidate l = length l.candidates
