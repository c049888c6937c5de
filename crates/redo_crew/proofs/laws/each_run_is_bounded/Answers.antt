use Rattle.std.specs.Prelude.{◌*◌}
use Rattle.redo_crew.specs.Word.{out_for_each}
use Rattle.redo_crew.specs.Runs.{opening}
use Rattle.redo_crew.proofs.BoundLemmas.{bounded, few}
use Rattle.redo_crew.proofs.laws.each_run_is_bounded.Goals as goal

pub returns-clause-costs : goal.returns-clause-costs
returns-clause-costs c = λ workers ready left moves s l. bounded (workers * out_for_each) moves (opening workers ready left) s l

pub returns-clause-most : goal.returns-clause-most
returns-clause-most c = λ workers ready left moves s l. few (workers * out_for_each) workers ready left moves s l
