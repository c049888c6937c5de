use Rattle.std.proofs.Common.{◌≡◌, ◌++◌, drop, flat_map}
use Rattle.redo_names.specs.Paths.{is_among}
use Rattle.redo_dot.specs.Lists.{listed_lines}
use Rattle.redo_dot.proofs.list.push_all.Given as goal

-- the lines so far, with those that are left, are all
abbrev pub invariant-loop-listed : goal.invariant-loop-listed
invariant-loop-listed l =
    l.text.items ++ flat_map (listed_lines (is_among l.targets) l.book) (drop l.listed-index l.list)
    ≡ l.initial.text.items ++ flat_map (listed_lines (is_among l.targets) l.book) l.list
