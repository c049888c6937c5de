use Rattle.std.proofs.Common.{◌≡◌, drop, map}
use Rattle.redo_names.specs.Paths.{is_among}
use Rattle.redo_query.proofs.users.is_one.Given as goal

-- it is one of all where it is one of those that are left
abbrev pub invariant-loop-other : goal.invariant-loop-other
invariant-loop-other l =
    is_among (map (λ p. p.now) (drop l.other-index l.paths)) l.path ≡ is_among (map (λ p. p.now) l.paths) l.path
