use Rattle.std.proofs.Common.{◌≡◌}
use Rattle.redo_run.proofs.crew.claimed.Given as goal

abbrev pub invariant-looks : goal.invariant-looks
invariant-looks g l = l.taker.relay ≡ l.fn.taker.relay
