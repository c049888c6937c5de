use Rattle.std.proofs.Common.{subst, sym}
use Rattle.redo_dir.specs.Loaded.{Unread}
use Rattle.redo_run.specs.Directories.{IsUnread}
use Rattle.redo_run.proofs.LoadingLemmas.{whole_unread}
use Rattle.redo_run.proofs.loading.load_unread.Goals as goal

pub returns-in-Err-clause-unread : goal.returns-in-Err-clause-unread
returns-in-Err-clause-unread g c =
    let lists = g.D.DirView.lists c.args.dir.now in
    let looks = g.D.DirView.looks c.args.dir.now in
    let refuses = g.D.DirView.refuses c.args.dir.now in
    subst (IsUnread lists looks Unread refuses) (sym c.unread.ensures)
    (whole_unread lists looks Unread refuses c.in-Err.fault c.in-Err.ensures.fault)
