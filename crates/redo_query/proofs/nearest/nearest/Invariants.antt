use Rattle.std.proofs.Common.{map, take}
use Rattle.redo_query.specs.inside.Best.{IsBest}
use Rattle.redo_query.proofs.nearest.nearest.Given as goal

-- the nearest of the names so far
abbrev pub invariant-loop-name : goal.invariant-loop-name
invariant-loop-name l = IsBest l.word (map (λ p. p.now) (take l.name-index l.names)) l.best
