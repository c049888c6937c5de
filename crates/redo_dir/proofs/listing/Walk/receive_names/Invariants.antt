use Rattle.std.proofs.Common.{◌≡◌, ◌++◌}
use Rattle.std.specs.List.{FoldsTo}
use Rattle.redo_dir.specs.inside.Levels.{ReceivesName, progress}
use Rattle.redo_dir.proofs.listing.Walk.receive_names.Given as goal

-- the names so far were received, and the others are still to be
abbrev pub invariant-names : goal.invariant-names
invariant-names l = record {
  received : FoldsTo ReceivesName (progress l.fn.self) l.yielded (progress l.self);
  left : l.fn.names.items ≡ l.yielded ++ l.name-iterator.rest.items;
}
