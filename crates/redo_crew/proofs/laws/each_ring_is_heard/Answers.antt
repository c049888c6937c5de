use Rattle.std.specs.Prelude.{◌*◌}
use Rattle.redo_crew.specs.Word.{out_for_each}
use Rattle.redo_crew.proofs.BellLemmas.{finds_a_sleeper, has_place}
use Rattle.redo_crew.proofs.laws.each_ring_is_heard.Goals as goal

pub returns-clause-room : goal.returns-clause-room
returns-clause-room c = λ workers ready left acts b few l some. has_place (workers * out_for_each) workers ready left acts b few l some

pub returns-clause-sleeper : goal.returns-clause-sleeper
returns-clause-sleeper c = λ workers ready left acts b l some. finds_a_sleeper (workers * out_for_each) workers ready left acts b l some
