use Rattle.std.specs.Prelude.{◌*◌}
use Rattle.redo_crew.specs.Word.{out_for_each}
use Rattle.redo_crew.proofs.StockLemmas.{owner_finds, worker_finds}
use Rattle.redo_crew.proofs.laws.what_is_claimed_is_there.Goals as goal

pub returns-clause-owner : goal.returns-clause-owner
returns-clause-owner c = λ workers ready left moves s l e. owner_finds (workers * out_for_each) workers ready left moves s l e

pub returns-clause-worker : goal.returns-clause-worker
returns-clause-worker c = λ workers ready left moves s l some. worker_finds (workers * out_for_each) workers ready left moves s l some
