use Rattle.redo_run.proofs.PoolLemmas.{all_back}
use Rattle.redo_run.proofs.workers.run_pool.Goals as goal

-- those of workers that were started and of those that weren't
pub returns-clause-back : goal.returns-clause-back
returns-clause-back g c = λ relay count manned.
    all_back relay count c.in_ok-takers.field-0.items c.own-ended.new.pool.idle.items _ c.in_ok-takers.ensures.all
    (c.in_ok-ended.ensures.manned relay count manned)
