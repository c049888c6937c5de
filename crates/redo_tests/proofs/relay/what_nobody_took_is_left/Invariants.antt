use Rattle.std.proofs.Common.{◌≡◌}
use Rattle.redo_tests.proofs.relay.what_nobody_took_is_left.Given as goal

abbrev pub invariant-given : goal.invariant-given
invariant-given g l =
    (l.source.relay ≡ l.initial.source.relay) × (l.source.takers ≡ l.initial.source.takers)
