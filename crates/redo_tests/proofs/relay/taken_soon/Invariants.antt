use Rattle.std.proofs.Common.{◌≡◌}
use Rattle.redo_tests.proofs.relay.taken_soon.Given as goal

abbrev pub invariant-loop : goal.invariant-loop
invariant-loop l =
    l.taker.relay ≡ l.fn.taker.relay
