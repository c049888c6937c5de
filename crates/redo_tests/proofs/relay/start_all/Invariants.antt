use Rattle.std.proofs.Common.{◌≡◌, All, length}
use Rattle.redo_tests.proofs.relay.start_all.Given as goal

abbrev pub invariant-takers : goal.invariant-takers
invariant-takers g l =
    (length l.handles.items ≡ length l.yielded) × All (λ h. h.promise.0.value.relay ≡ l.fn.source.relay) l.handles.items
