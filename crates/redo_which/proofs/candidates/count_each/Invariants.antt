use Rattle.std.proofs.Common.{◌≡◌, ◌≤◌, ◌+◌, length}
use Rattle.redo_path.specs.Names.{IsPart}
use Rattle.redo_which.specs.Candidates.{suffixes}
use Rattle.redo_which.specs.inside.Slots.{slots_by}
use Rattle.redo_which.proofs.SlotLemmas.{flat}
use Rattle.redo_which.proofs.candidates.count_each.Given as goal

-- those so far, with those by the suffixes of what is left, are all
abbrev pub invariant-loop-count : goal.invariant-loop-count
invariant-loop-count l = record {
  total : l.count + length (flat (slots_by (suffixes l.left) l.dir)) ≡ length (flat (slots_by (suffixes l.end) l.dir));
  part : IsPart l.left;
  small : l.count + length l.left ≤ length l.end;
}

abbrev pub decreases-loop-count : goal.decreases-loop-count
decreases-loop-count l = length l.left
