use Rattle.std.proofs.Common.{◌≡◌, ◌++◌, drop, flat_map}
use Rattle.redo_json.specs.Lists.{listed_tokens}
use Rattle.redo_json.proofs.list.push_all.Given as goal

-- the targets so far, with those that are left, are all
abbrev pub invariant-loop-target : goal.invariant-loop-target
invariant-loop-target l =
    l.out ++ flat_map listed_tokens (drop l.target-index l.targets)
    ≡ l.initial.out ++ flat_map listed_tokens l.targets
