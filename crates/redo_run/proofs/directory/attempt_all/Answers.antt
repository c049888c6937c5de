use Rattle.std.proofs.Common.{refl, true}
use Rattle.redo_dir.specs.declared.contents.Wanted.{Wanted}
use Rattle.redo_run.proofs.DirectoryLemmas.{attempted_all, not_attempted_all}
use Rattle.redo_run.proofs.directory.attempt_all.Goals as goal

pub returns-clause-decided : goal.returns-clause-decided
returns-clause-decided g c =
    let dir = c.args.dir.now in let wanted : Wanted = record { all = true; paths = c.args.round.now.wanted.paths } in
    attempted_all (g.D.DirView.lists dir) (g.D.DirView.looks dir) (g.D.DirView.reads dir) (g.D.DirView.refuses dir)
    c.args.options.now wanted refl (g.D.DirView.lacks dir) c.attempt.result c.attempt.ensures.foreseen

pub returns-clause-fault : goal.returns-clause-fault
returns-clause-fault g c =
    let dir = c.args.dir.now in let wanted : Wanted = record { all = true; paths = c.args.round.now.wanted.paths } in
    not_attempted_all (g.D.DirView.lists dir) (g.D.DirView.looks dir) (g.D.DirView.reads dir) (g.D.DirView.refuses dir)
    c.args.options.now wanted refl c.attempt.result c.attempt.ensures.fault
