use Rattle.std.proofs.Common.{take}
use Rattle.std.specs.Prelude.{flat_map}
use Rattle.redo_ood.specs.Listing.{changed}
use Rattle.redo_ood.specs.inside.Resting.{IsGrown}
use Rattle.redo_ood.proofs.asked.add_paths.Given as goal

-- the paths of the entries so far were added
abbrev pub invariant-loop-entry : goal.invariant-loop-entry
invariant-loop-entry l = IsGrown l.fn.found (flat_map changed (take l.entry-index l.entries)) l.found
