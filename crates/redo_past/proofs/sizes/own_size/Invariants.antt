use Rattle.std.proofs.Common.{take}
use Rattle.redo_past.specs.inside.Books.{AreSized}
use Rattle.redo_past.proofs.sizes.own_size.Given as goal

-- the entries so far have so many bytes
abbrev pub invariant-loop-dep : goal.invariant-loop-dep
invariant-loop-dep l = AreSized l.files (take l.dep-index l.own) l.size
