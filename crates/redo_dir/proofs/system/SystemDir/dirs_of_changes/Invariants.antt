use Rattle.std.proofs.Common.{◌≡◌, map, take}
use Rattle.std.specs.List.{AllByRecursion}
use Rattle.std.specs.Path.{path_buf_bytes, path_join}
use Rattle.std.specs.Prelude.{IfSome, option_copied}
use Rattle.redo_dir.specs.Called.{IsAmong, IsCovered}
use Rattle.redo_dir.specs.Stored.{steps_of}
use Rattle.redo_dir.proofs.system.SystemDir.dirs_of_changes.Given as goal

-- the directories of the first changes are there, and so is the last one
abbrev pub invariant-loop-change : goal.invariant-loop-change
invariant-loop-change g l = record {
  items : l.change-items ≡ l.self.done.items;
  covered : AllByRecursion (IsCovered l.self.view.top.now (map path_buf_bytes l.places.items)) (steps_of (take l.change-index l.change-items));
  last : IfSome (option_copied l.last) (λ dir. IsAmong (map path_buf_bytes l.places.items) (path_join l.self.view.top.now dir));
}
