use Rattle.redo_which.proofs.FirstLemmas.{first-distinct}
use Rattle.redo_which.proofs.missing.Missing.each_once.Goals as goal

pub returns : goal.returns
returns c = rw (← c.self.view_is) (first-distinct c.self.inside.target c.self.inside.count)
