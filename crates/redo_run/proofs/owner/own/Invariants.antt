use Rattle.std.proofs.Common.{◌+◌, ◌≤◌, ℕ, length, map}
use Rattle.redo_sync.specs.Relay.{RelayId}
use Rattle.redo_run.specs.inside.Workers.{HasKeptUp, IsManned, IsSameOwner}
use Rattle.redo_run.proofs.owner.own.Given as goal

-- the board runs, what it has taken is what was given, and each worker has its taker
abbrev pub invariant-turns : goal.invariant-turns
invariant-turns g l =
    IsSameOwner l.fn.owner l.owner × HasKeptUp l.fn.owner l.owner
    × ((relay : RelayId) (count : ℕ) → IsManned relay count l.fn.pool.idle.items (map (λ h. h.promise.0.value.relay) l.fn.pool.handles.items)
    → IsManned relay count l.pool.idle.items (map (λ h. h.promise.0.value.relay) l.pool.handles.items))
    × (length l.pool.idle.items + length l.pool.handles.items ≤ length l.fn.pool.idle.items + length l.fn.pool.handles.items)
