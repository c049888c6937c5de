use Rattle.std.specs.Prelude.{◌*◌}
use Rattle.redo_crew.specs.Word.{out_for_each}
use Rattle.redo_crew.proofs.StuckLemmas.{stuck}
use Rattle.redo_crew.proofs.laws.nobody_is_stuck.Goals as goal

pub returns : goal.returns
returns c = λ workers ready left moves s fit l n. stuck (workers * out_for_each) workers ready left moves s fit l n
