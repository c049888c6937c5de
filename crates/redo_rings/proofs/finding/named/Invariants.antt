use Rattle.std.proofs.Common.{◌≡◌, Some, map, slice_get, take}
use Rattle.redo_rings.proofs.finding.named.Given as goal

abbrev pub invariant-loop-number : goal.invariant-loop-number
invariant-loop-number l = map (slice_get l.names) (take l.number-index l.numbers) ≡ map Some l.paths.items
