use Rattle.std.proofs.Common.{◌≡◌, [], drop}
use Rattle.redo_names.specs.Paths.{with_new}
use Rattle.redo_names.proofs.set.PathSet.of_paths.Given as goal

-- the paths so far, with those that are left, are all
abbrev pub invariant-loop-path : goal.invariant-loop-path
invariant-loop-path l = with_new l.set (drop l.path-index l.paths) ≡ with_new [] l.paths
