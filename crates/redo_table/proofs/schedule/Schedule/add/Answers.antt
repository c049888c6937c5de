use Rattle.std.proofs.Common.{◌+◌, ◌<◌, ◌^◌, length, sym, subst}
use Rattle.redo_table.specs.Schedule.{ScheduleView}
use Rattle.redo_table.proofs.ListedLemmas.{listed-push}
use Rattle.redo_table.proofs.schedule.Schedule.add.Goals as goal

pub invariant_of-self-2 : goal.invariant_of-self-2
invariant_of-self-2 c =
    let t = c.self.inside in
    rw c.in_ok-add.ensures.added (listed-push t.waits.stages t.ready.items t.newly_ready.items t.due.keys t.out c.self.invariant
    (subst (λ (v : ScheduleView). length v.stages + 1 < 2 ^ 32) (sym c.self.view_is) c.requires))
