use Rattle.std.proofs.Common.{◌≡◌}
use Rattle.redo_run.proofs.crew.work.Given as goal

abbrev pub invariant-jobs : goal.invariant-jobs
invariant-jobs g l = l.taker.relay ≡ l.fn.taker.relay
