use Rattle.std.proofs.Common.{◌≡◌, All, length}
use Rattle.redo_tests.proofs.relay.join_all.Given as goal

abbrev pub invariant-handles : goal.invariant-handles
invariant-handles g l =
    (length l.takers.items ≡ length l.yielded) × All (λ t. t.relay ≡ l.fn.source.relay) l.takers.items
