use Rattle.std.specs.Prelude.{◌*◌}
use Rattle.redo_crew.specs.Word.{out_for_each}
use Rattle.redo_crew.proofs.CountLemmas.{all_counted, all_kept}
use Rattle.redo_crew.proofs.laws.each_worker_is_counted.Goals as goal

pub returns-clause-started : goal.returns-clause-started
returns-clause-started c = λ workers ready left moves s l going. (all_counted (workers * out_for_each) workers ready left moves s l going).0

pub returns-clause-present : goal.returns-clause-present
returns-clause-present c = λ workers ready left moves s l going. (all_counted (workers * out_for_each) workers ready left moves s l going).1

pub returns-clause-holding : goal.returns-clause-holding
returns-clause-holding c = λ workers ready left moves s l going. (all_counted (workers * out_for_each) workers ready left moves s l going).2

pub returns-clause-working : goal.returns-clause-working
returns-clause-working c = λ workers ready left moves s l. (all_kept (workers * out_for_each) workers ready left moves s l).3
