use Rattle.redo_dir.specs.Loaded.{wants}
use Rattle.redo_run.proofs.DirectoryLemmas.{attempted, not_attempted}
use Rattle.redo_run.proofs.directory.attempt.Goals as goal

pub returns-clause-foreseen : goal.returns-clause-foreseen
returns-clause-foreseen g c =
    let dir = c.args.dir.now in let round = c.args.round.now in
    attempted (g.D.DirView.lists dir) (g.D.DirView.looks dir) (wants round.wanted) (g.D.DirView.reads dir) (g.D.DirView.refuses dir)
    c.args.options.now c.in_ok-tree.tree round.names.passed c.load_wanted.new.names.passed c.load_wanted.ensures.passed
    c.in_ok-tree.ensures.loaded (g.D.DirView.lacks dir) c.in_ok-tree.ensures.own c.foresee_over.result c.foresee_over.ensures.foreseen

pub returns-clause-fault : goal.returns-clause-fault
returns-clause-fault g c =
    let dir = c.args.dir.now in let round = c.args.round.now in
    not_attempted (g.D.DirView.lists dir) (g.D.DirView.looks dir) (wants round.wanted) (g.D.DirView.reads dir) (g.D.DirView.refuses dir)
    c.args.options.now c.in_ok-tree.tree round.names.passed c.load_wanted.new.names.passed c.load_wanted.ensures.passed
    c.in_ok-tree.ensures.loaded c.foresee_over.result c.foresee_over.ensures.refused
