use Rattle.std.specs.Prelude.{◌*◌}
use Rattle.redo_crew.specs.Word.{out_for_each}
use Rattle.redo_crew.proofs.BellLemmas.{all_match}
use Rattle.redo_crew.proofs.laws.each_call_is_a_ring.Goals as goal

pub returns-clause-going : goal.returns-clause-going
returns-clause-going c = λ workers ready left acts b l e. ((all_match (workers * out_for_each) workers ready left acts b l).2 e).0

pub returns-clause-over : goal.returns-clause-over
returns-clause-over c = λ workers ready left acts b l e. (all_match (workers * out_for_each) workers ready left acts b l).3 e
