use Rattle.std.proofs.Common.{◌≡◌, ◌++◌, drop, flat_map}
use Rattle.redo_dot.specs.Dot.{entry_lines}
use Rattle.redo_dot.proofs.edges.push_entries.Given as goal

-- the lines so far, with those that are left, are all
abbrev pub invariant-loop-dep : goal.invariant-loop-dep
invariant-loop-dep l =
    l.text.items ++ flat_map (entry_lines l.with_rules l.target) (drop l.dep-index l.deps)
    ≡ l.initial.text.items ++ flat_map (entry_lines l.with_rules l.target) l.deps
