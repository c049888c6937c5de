use Rattle.std.proofs.Common.{◌≡◌, ◌++◌, drop, flat_map}
use Rattle.redo_json.specs.Members.{named_tokens}
use Rattle.redo_json.proofs.paths.push_each.Given as goal

-- the paths so far, with those that are left, are all
abbrev pub invariant-loop-path : goal.invariant-loop-path
invariant-loop-path l =
    l.out ++ flat_map named_tokens (drop l.path-index l.paths) ≡ l.initial.out ++ flat_map named_tokens l.paths
