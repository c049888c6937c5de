use Rattle.std.proofs.Common.{◌≡◌, Err, rules, subst, sym}
use Rattle.std.specs.Prelude.{IfErr}
use Rattle.redo_dir.specs.Loaded.{wants}
use Rattle.redo_run.specs.Directories.{IsUnread}
use Rattle.redo_run.proofs.LoadingLemmas.{placed_unread, wanted_unread}
use Rattle.redo_run.proofs.loading.load_wanted.Goals as goal

pub returns-in-Err-clause-unread : goal.returns-in-Err-clause-unread
returns-in-Err-clause-unread g c =
    let lists = g.D.DirView.lists c.args.dir.now in
    let looks = g.D.DirView.looks c.args.dir.now in
    let reads = g.D.DirView.reads c.args.dir.now in
    let refuses = g.D.DirView.refuses c.args.dir.now in
    subst (IsUnread lists looks reads refuses) (sym c.unread.ensures)
    (wanted_unread lists looks reads refuses (wants c.args.reading.wanted.now) c.in-Err.fault c.in-Err.ensures.fault)

pub returns-in_err-check_places-in-Ok-clause-unread : goal.returns-in_err-check_places-in-Ok-clause-unread
returns-in_err-check_places-in-Ok-clause-unread g c =
    let lists = g.D.DirView.lists c.args.dir.now in
    let looks = g.D.DirView.looks c.args.dir.now in
    let reads = g.D.DirView.reads c.args.dir.now in
    let refuses = g.D.DirView.refuses c.args.dir.now in
    let fault = c.in_err-check_places-in-Ok.field-0.0 in
    let told : Err fault ≡ c.from_residual.result = search rules in
    subst (λ r. IfErr r (IsUnread lists looks reads refuses)) told
    (placed_unread lists looks reads refuses (wants c.args.reading.wanted.now) c.in-Ok.tree c.args.names.now.passed fault
    c.in-Ok.ensures.loaded c.in_err-check_places-in-Ok.ensures.refused)
