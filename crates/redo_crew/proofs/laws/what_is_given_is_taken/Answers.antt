use Rattle.std.specs.Prelude.{◌*◌}
use Rattle.redo_crew.specs.Word.{out_for_each}
use Rattle.redo_crew.proofs.TakenLemmas.{nothing_left}
use Rattle.redo_crew.proofs.laws.what_is_given_is_taken.Goals as goal

pub returns : goal.returns
returns c = λ workers ready left moves s o l ended. nothing_left (workers * out_for_each) workers ready left moves s o l ended
