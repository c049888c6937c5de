use Rattle.std.proofs.Common.{◌≡◌, Some, map, take}
use Rattle.redo_alike.proofs.known.all_known.Given as goal

abbrev pub invariant-loop-one : goal.invariant-loop-one
invariant-loop-one l = map Some l.all.items ≡ take l.one-index l.known
