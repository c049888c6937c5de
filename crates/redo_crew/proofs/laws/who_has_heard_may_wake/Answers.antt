use Rattle.std.specs.Prelude.{◌*◌}
use Rattle.redo_crew.specs.Word.{out_for_each}
use Rattle.redo_crew.proofs.BellLemmas.{may_wake}
use Rattle.redo_crew.proofs.laws.who_has_heard_may_wake.Goals as goal

pub returns : goal.returns
returns c = λ workers ready left acts b l going some. may_wake (workers * out_for_each) workers ready left acts b l going some
