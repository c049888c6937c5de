use Rattle.std.proofs.Common.{◌≡◌, length, subst, arith, true}
use Rattle.redo_table.specs.Schedule.{EachLacks}
use Rattle.redo_table.specs.inside.Targets.{WaitersView}
use Rattle.redo_table.proofs.WaitLemmas.{each-lacks, no-items, not-not}
use Rattle.redo_table.proofs.waits.Waiters.is_pending.Goals as goal

pub returns-clause-lacks : goal.returns-clause-lacks
returns-clause-lacks c = λ h.
    let t = c.self.inside in
    let empty : c.is_empty.result ≡ true = not-not c.is_empty.result h in
    let none : length t.pending.items ≡ 0 = grind arith in
    subst (λ (v : WaitersView). EachLacks v.stages) c.self.view_is (each-lacks t.targets.items t.pending.items c.self.invariant (no-items t.pending.items none))
