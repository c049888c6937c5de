use Rattle.std.proofs.Common.{refl, true}
use Rattle.std.proofs.lemmas.Result.{err_from_is_err_and}
use Rattle.redo_dir.specs.Loaded.{wants}
use Rattle.redo_dir.specs.declared.contents.Wanted.{Wanted}
use Rattle.redo_run.proofs.OpeningLemmas.{opened_all, refused_unopened}
use Rattle.redo_run.proofs.opening.open_all.Goals as goal

-- all files were read
pub returns-clause-opened : goal.returns-clause-opened
returns-clause-opened g c =
    let dir = c.args.dir.now in
    let wanted : Wanted = record { all = true; paths = c.new.result } in
    opened_all (g.D.DirView.lists dir) (g.D.DirView.looks dir) (g.D.DirView.reads dir) (g.D.DirView.refuses dir)
    (g.D.DirView.lacks dir) (wants wanted) c.in_ok-tree.tree c.args.names.now.passed c.in_ok-open_over.field-0
    c.in_ok-tree.ensures.loaded c.in_ok-tree.ensures.own c.in_ok-open_over.ensures.opened
    (λ p. refl)

-- and the book is refused
pub returns-in_err-open_over-clause-fault : goal.returns-in_err-open_over-clause-fault
returns-in_err-open_over-clause-fault g c =
    let dir = c.args.dir.now in
    let wanted : Wanted = record { all = true; paths = c.new.result } in
    let p = err_from_is_err_and c.from_residual-in_err-open_over.result c.from_residual-in_err-open_over.ensures.1 in
    rw (p.1, p.2) (refused_unopened (g.D.DirView.lists dir) (g.D.DirView.looks dir) (g.D.DirView.reads dir) (g.D.DirView.refuses dir)
    wanted refl c.in_ok-tree.tree c.args.names.now.passed c.in_err-open_over.field-0.0 c.in_ok-tree.ensures.loaded
    c.in_err-open_over.ensures.refused)
