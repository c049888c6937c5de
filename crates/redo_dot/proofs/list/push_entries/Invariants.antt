use Rattle.std.proofs.Common.{◌≡◌, ◌++◌, drop, flat_map}
use Rattle.redo_names.specs.Paths.{is_among}
use Rattle.redo_dot.specs.Lists.{listed_edge}
use Rattle.redo_dot.proofs.list.push_entries.Given as goal

-- the lines so far, with those that are left, are all
abbrev pub invariant-loop-entry : goal.invariant-loop-entry
invariant-loop-entry l =
    l.text.items ++ flat_map (listed_edge (is_among l.targets) l.target) (drop l.entry-index l.entries)
    ≡ l.initial.text.items ++ flat_map (listed_edge (is_among l.targets) l.target) l.entries
