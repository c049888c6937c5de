use Rattle.std.proofs.Common.{refl}
use Rattle.redo_table.proofs.WaitLemmas.{push-waiters}
use Rattle.redo_table.proofs.waits.Waiters.add.Goals as goal

pub invariant_of-self-2 : goal.invariant_of-self-2
invariant_of-self-2 c =
    let t = c.self.inside in
    rw c.in_ok-push.ensures.items (push-waiters t.targets.items t.pending.items _ c.self.invariant refl)
