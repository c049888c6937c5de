use Rattle.std.proofs.Common.{◌≡◌, ◌+◌, ◌-◌, length, []}
use Rattle.crossbeam_deque.specs.Handles.{worker_deque, worker_flavor, worker_view}
use Rattle.redo_sync.specs.inside.Rule.{hand}
use Rattle.redo_sync.specs.Relay.{taken_by}
use Rattle.redo_sync.proofs.ledger.gather.Given as goal

abbrev pub invariant-takers : goal.invariant-takers
invariant-takers g l =
    (worker_flavor l.deque ≡ 0) × (worker_deque l.deque ≡ l.fn.source.relay)
    × (worker_view l.deque ≡ hand ((66 - l.fn.source.takers) + length l.yielded) l.fn.source.given (taken_by l.yielded) [])
