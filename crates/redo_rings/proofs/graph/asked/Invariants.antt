use Rattle.std.proofs.Common.{◌≡◌, Some, filter, map, slice_get, take}
use Rattle.redo_names.specs.Paths.{is_among}
use Rattle.redo_record.specs.Progress.{changes}
use Rattle.redo_rings.proofs.graph.asked.Given as goal

abbrev pub invariant-loop-dep : goal.invariant-loop-dep
invariant-loop-dep l =
    map (slice_get l.names) l.numbers.items ≡ map Some (filter (is_among l.names) (changes (take l.dep-index l.dep-items)))
