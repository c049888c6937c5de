use Rattle.redo_which.proofs.FirstLemmas.{first-below}
use Rattle.redo_which.proofs.missing.Missing.each_below.Goals as goal

pub returns : goal.returns
returns c = rw (← c.self.view_is) (first-below c.self.inside.target c.self.inside.count c.self.invariant)
