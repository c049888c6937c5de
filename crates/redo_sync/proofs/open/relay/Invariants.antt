use Rattle.std.proofs.Common.{◌≡◌, ◌-◌, ◌≤◌, [], length, All}
use Rattle.crossbeam_deque.specs.Handles.{worker_capacity, worker_deque, worker_flavor, worker_index, worker_view}
use Rattle.redo_sync.specs.inside.Rule.{hand}
use Rattle.redo_sync.proofs.open.relay.Given as goal

abbrev pub invariant-takers : goal.invariant-takers
invariant-takers g l =
    (worker_flavor l.deque ≡ 0) × (64 ≤ worker_capacity l.deque) × (worker_index l.deque ≡ 0) × (worker_view l.deque ≡ hand (66 - l.counter) [] [] [])
    × (length l.made.items ≡ l.counter) × All (λ t. (t.relay ≡ worker_deque l.deque) × (t.taken ≡ [])) l.made.items
