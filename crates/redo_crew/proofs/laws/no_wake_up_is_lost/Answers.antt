use Rattle.std.specs.Prelude.{◌*◌}
use Rattle.redo_crew.specs.Word.{out_for_each}
use Rattle.redo_crew.proofs.KeptLemmas.{word_keeps}
use Rattle.redo_crew.proofs.laws.no_wake_up_is_lost.Goals as goal

pub returns : goal.returns
returns c = λ workers ready left moves s few l. word_keeps (workers * out_for_each) workers ready left moves s few l
