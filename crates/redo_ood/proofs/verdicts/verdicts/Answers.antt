use Rattle.std.proofs.Common.{arith}
use Rattle.redo_ood.proofs.StepLemmas.{full-verdicts}
use Rattle.redo_ood.proofs.verdicts.verdicts.Goals as goal

pub returns : goal.returns
returns c =
    let few = c.loop-round.invariant.1 in
    full-verdicts c.args.book.now c.loop-round.table.items c.loop-round.invariant.0 (omega (arith, few, c.loop-round-test.false))
