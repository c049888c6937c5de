use Rattle.std.proofs.Common.{◌≡◌}
use Rattle.redo_tests.proofs.relay.give_all.Given as goal

abbrev pub invariant-jobs : goal.invariant-jobs
invariant-jobs l =
    (l.source.relay ≡ l.fn.source.relay) × (l.source.takers ≡ l.fn.source.takers)
