use Rattle.std.specs.Prelude.{◌*◌}
use Rattle.redo_crew.specs.Word.{out_for_each}
use Rattle.redo_crew.proofs.CountLemmas.{may_look}
use Rattle.redo_crew.proofs.laws.who_has_sent_may_look.Goals as goal

pub returns : goal.returns
returns c = λ workers ready left moves s l going some. may_look (workers * out_for_each) workers ready left moves s l going some
