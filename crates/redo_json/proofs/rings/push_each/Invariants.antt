use Rattle.std.proofs.Common.{◌≡◌, ◌++◌, drop, flat_map}
use Rattle.redo_json.specs.Members.{ring_tokens}
use Rattle.redo_json.proofs.rings.push_each.Given as goal

-- the rings so far, with those that are left, are all
abbrev pub invariant-loop-ring : goal.invariant-loop-ring
invariant-loop-ring l =
    l.out ++ flat_map ring_tokens (drop l.ring-index l.rings) ≡ l.initial.out ++ flat_map ring_tokens l.rings
