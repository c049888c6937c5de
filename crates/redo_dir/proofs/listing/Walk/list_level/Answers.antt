use Rattle.redo_dir.specs.inside.Levels.{ListsDir, progress, with_none_waiting}
use Rattle.redo_dir.proofs.ListingLemmas.{FoldsTo-last}
use Rattle.redo_dir.proofs.listing.Walk.list_level.Goals as goal

pub dirs-preserved : goal.dirs-preserved
dirs-preserved g c =
    FoldsTo-last (ListsDir (g.D.DirView.lists c.args.work.now)) (with_none_waiting (progress c.args.self.now)) (progress c.dirs.self) (progress c.list_dir.new.self) c.dirs.yielded c.in-Some.dir c.dirs.invariant c.in_ok-list_dir.ensures.listed
