use Rattle.std.proofs.Common.{◌≡◌}
use Rattle.redo_tests.proofs.relay.take_share.Given as goal

abbrev pub invariant-tries : goal.invariant-tries
invariant-tries g l =
    l.taker.relay ≡ l.fn.taker.relay
