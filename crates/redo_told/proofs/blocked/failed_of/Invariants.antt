use Rattle.std.proofs.Common.{◌≡◌, ◌++◌, drop, flat_map}
use Rattle.redo_names.specs.Paths.{is_among}
use Rattle.redo_told.specs.inside.Steps.{blocker}
use Rattle.redo_told.proofs.blocked.failed_of.Given as goal

-- the paths so far, with those of the entries that are left, are all
abbrev pub invariant-loop-entry : goal.invariant-loop-entry
invariant-loop-entry l =
    l.paths.items ++ flat_map (blocker (is_among l.failed)) (drop l.entry-index l.entries)
    ≡ flat_map (blocker (is_among l.failed)) l.entries
