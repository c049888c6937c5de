use Rattle.std.proofs.Common.{map, take}
use Rattle.std.specs.List.{AllByRecursion}
use Rattle.std.specs.Path.{path_buf_bytes, path_join}
use Rattle.std.specs.Prelude.{IfSome, option_copied}
use Rattle.redo_dir.specs.Called.{IsAmong, IsSettling}
use Rattle.redo_dir.proofs.system.SystemDir.places_to_settle.Given as goal

-- the first files are there with their directories, and so is the last directory
abbrev pub invariant-loop-path : goal.invariant-loop-path
invariant-loop-path g l = record {
  settling : AllByRecursion (IsSettling l.self.view.top.now (map path_buf_bytes l.places.items)) (take l.path-index l.paths);
  last : IfSome (option_copied l.last) (λ dir. IsAmong (map path_buf_bytes l.places.items) (path_join l.self.view.top.now dir));
}
