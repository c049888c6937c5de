use Rattle.std.proofs.Common.{◌≡◌, rules, true}
use Rattle.redo_dir.specs.Loaded.{wants}
use Rattle.redo_run.proofs.OpeningLemmas.{opened_part}
use Rattle.redo_run.proofs.opening.open_part.Goals as goal

-- all that was looked into was read
pub returns-then-branch-clause-opened : goal.returns-then-branch-clause-opened
returns-then-branch-clause-opened g c =
    let dir = c.args.dir.now in
    let mended : c.in_ok-is_mending_read.field-0 ≡ true = search rules in
    let read : c.in_ok-is_past_read-in-Ok.field-0 ≡ true = search rules in
    opened_part (g.D.DirView.lists dir) (g.D.DirView.looks dir) (g.D.DirView.reads dir) (g.D.DirView.refuses dir)
    (g.D.DirView.lacks dir) (wants c.args.reading.wanted.now) c.in_ok-tree.tree c.args.names.now.passed c.in-Ok.opened
    c.in_ok-tree.ensures.loaded c.in_ok-tree.ensures.own c.in-Ok.ensures.opened
    c.runs_rest_on_what_they_read.ensures.mended (c.in_ok-is_mending_read.ensures mended)
    (c.in_ok-is_past_read-in-Ok.ensures read)
