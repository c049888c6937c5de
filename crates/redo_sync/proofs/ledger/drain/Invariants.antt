use Rattle.std.proofs.Common.{◌≡◌, map}
use Rattle.crossbeam_deque.specs.Handles.{worker_flavor, worker_view}
use Rattle.redo_sync.specs.inside.Rule.{hand, pending}
use Rattle.redo_sync.proofs.ledger.drain.Given as goal

abbrev pub invariant-jobs : goal.invariant-jobs
invariant-jobs g l =
    (worker_flavor l.deque ≡ 0) × (worker_view l.deque ≡ hand 66 (worker_view l.fn.deque).given (worker_view l.fn.deque).taken (map g.T.Numbered.number l.left.items))

abbrev pub decreases-jobs : goal.decreases-jobs
decreases-jobs g l = pending (worker_view l.deque)
