use Rattle.std.specs.List.{FoldsTo}
use Rattle.redo_dir.specs.inside.Levels.{ListsDir, progress, with_none_waiting}
use Rattle.redo_dir.proofs.listing.Walk.list_level.Given as goal

-- the directories so far were listed
abbrev pub invariant-dirs : goal.invariant-dirs
invariant-dirs g l = FoldsTo (ListsDir (g.D.DirView.lists l.work)) (with_none_waiting (progress l.fn.self)) l.yielded (progress l.self)
