use Rattle.redo_dot.proofs.GraphLemmas.{listed}
use Rattle.redo_dot.proofs.list.list_dot.Goals as goal

pub returns : goal.returns
returns c =
    listed _ c.in_ok-set.set c.args.targets.now c.args.book.now c.in_ok-text.ensures c.in_ok-set.ensures
