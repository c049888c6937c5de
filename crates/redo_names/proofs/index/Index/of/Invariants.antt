use Rattle.std.proofs.Common.{◌≡◌, length, take}
use Rattle.redo_names.specs.inside.Index.{IsIndexOf}
use Rattle.redo_names.proofs.index.Index.of.Given as goal

-- the paths so far are entered, and the row is as large as it was made
abbrev pub invariant-paths : goal.invariant-paths
invariant-paths l = record { index : IsIndexOf l.index (take l.number l.paths); places : length l.index.places.items ≡ l.places }
