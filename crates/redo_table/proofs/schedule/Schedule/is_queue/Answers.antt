use Rattle.std.proofs.Common.{subst}
use Rattle.redo_table.specs.Schedule.{IsQueue}
use Rattle.redo_table.proofs.ListedLemmas.{queued-there, queued-once}
use Rattle.redo_table.proofs.schedule.Schedule.is_queue.Goals as goal

pub returns : goal.returns
returns c =
    let t = c.self.inside in
    subst IsQueue c.self.view_is (record {
      are_ready = queued-there t.waits.stages t.ready.items t.newly_ready.items t.due.keys t.out c.self.invariant;
      once = queued-once t.waits.stages t.ready.items t.newly_ready.items t.due.keys t.out c.self.invariant;
    })
