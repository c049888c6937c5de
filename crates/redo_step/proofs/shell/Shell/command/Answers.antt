use Rattle.std.proofs.lemmas.Result.{err_from_is_err_and}
use Rattle.redo_step.specs.inside.Machine.{state_of}
use Rattle.redo_step.proofs.WriteLemmas.{stops_status, status_true, status_false}
use Rattle.redo_step.proofs.shell.Shell.command.Goals as goal

pub returns-in_err-tested-in-Test-clause-run : goal.returns-in_err-tested-in-Test-clause-run
returns-in_err-tested-in-Test-clause-run g c =
    let p = err_from_is_err_and c.from_residual.result c.from_residual.ensures.1 in
    rw (p.1, p.2, c.in-Test.is) (stops_status _ _ (state_of c.args.effects.now) c.in_err-tested-in-Test.ensures.holds)

pub returns-then-branch-clause-run : goal.returns-then-branch-clause-run
returns-then-branch-clause-run g c = rw c.in-Test.is (status_true _ _ (state_of c.args.effects.now) c.in_ok-tested-in-Test.ensures.holds c.if-branch.true)

pub returns-else-branch-clause-run : goal.returns-else-branch-clause-run
returns-else-branch-clause-run g c = rw (c.exit.ensures, c.in-Test.is) (status_false _ _ (state_of c.args.effects.now) c.in_ok-tested-in-Test.ensures.holds c.if-branch.false)
