use Rattle.std.proofs.Common.{◌≡◌, ◌≤◌, map, length, vec_capacity}
use Rattle.redo_run.proofs.crew.join_all.Given as goal

-- each worker that was joined gave its taker back, and there is room for the others
abbrev pub invariant-handles : goal.invariant-handles
invariant-handles g l =
    (map (λ t. t.relay) l.takers.items ≡ map (λ h. h.promise.0.value.relay) l.yielded) × (length l.takers.items ≡ length l.yielded)
    × (length l.fn.handles.items ≤ vec_capacity l.takers)
