use Rattle.std.proofs.Common.{◌≡◌, filter, is_some, map, take}
use Rattle.std.specs.Prelude.{◌&&◌}
use Rattle.redo_tree.specs.Tree.{file_at}
use Rattle.redo_dir.specs.Own.{is_temporary}
use Rattle.redo_mend.proofs.own.temporaries.Given as goal

-- those so far that are files of the run
abbrev pub invariant-loop-path : goal.invariant-loop-path
invariant-loop-path l =
    l.paths.items ≡ filter (λ p. is_some (file_at l.tree p) && is_temporary l.journal p) (map (λ q. q.now) (take l.path-index l.path-items))
