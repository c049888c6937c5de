use Rattle.std.specs.Prelude.{◌*◌}
use Rattle.redo_crew.specs.Word.{out_for_each}
use Rattle.redo_crew.specs.Bell.{opened}
use Rattle.redo_crew.proofs.BellLemmas.{few_acts, goes_on, leads}
use Rattle.redo_crew.proofs.laws.the_bell_stops_nobody.Goals as goal

pub returns-clause-moves : goal.returns-clause-moves
returns-clause-moves c = λ workers ready left acts b l. leads (workers * out_for_each) acts (opened workers ready left) b l

pub returns-clause-goes_on : goal.returns-clause-goes_on
returns-clause-goes_on c = λ workers ready left acts b fit l n. goes_on (workers * out_for_each) workers ready left acts b fit l n

pub returns-clause-bounded : goal.returns-clause-bounded
returns-clause-bounded c = λ workers ready left acts b l. few_acts (workers * out_for_each) workers ready left acts b l
