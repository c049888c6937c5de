use Rattle.std.proofs.Common.{◌≡◌, ℕ, List, take}
use Rattle.redo_names.specs.Paths.{is_among}
use Rattle.redo_page.specs.inside.Links.{targets_of}
use Rattle.redo_page.proofs.links.targets_of.Given as goal

-- the targets so far
abbrev pub invariant-loop-diagnosis : goal.invariant-loop-diagnosis
invariant-loop-diagnosis l =
    (p : List ℕ) → is_among l.set p ≡ is_among (targets_of (take l.diagnosis-index l.diagnoses)) p
