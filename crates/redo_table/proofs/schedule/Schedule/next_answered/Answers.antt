use Rattle.redo_table.proofs.ListedLemmas.{answered-listed}
use Rattle.redo_table.proofs.schedule.Schedule.next_answered.Goals as goal

pub invariant_of-self-in-Some : goal.invariant_of-self-in-Some
invariant_of-self-in-Some c =
    let t = c.loop-self.self-inside in
    let told = rw c.in-Some.is at c.in_ok-answered.ensures.answered in
    rw told.1 (answered-listed t.waits.stages t.ready.items t.newly_ready.items t.due.keys t.out c.loop-self.invariant.1
    c.in-Some.answered.at c.in-Some.answered.on.items told.0.waited)
