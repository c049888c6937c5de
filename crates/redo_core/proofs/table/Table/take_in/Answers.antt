use Rattle.redo_core.specs.inside.Slots.{IsPutBackThere, state_after}
use Rattle.redo_build.specs.Schedule.Phase.{Script}
use Rattle.redo_core.proofs.EnqueueLemmas.{taken-in}
use Rattle.redo_core.proofs.TakeInLemmas.{after-entries, after-sound, after-state, concluded-put, may-conclude, moved}
use Rattle.redo_core.proofs.table.Table.take_in.Goals as goal
use Rattle.redo_core.proofs.table.Table.take_in.Goals.{in-Ended+in_ok-conclude-in-Ended+in-Few-1, in-Ended+in_ok-conclude-in-Ended+in-Many-1}
use Rattle.redo_core.proofs.table.Table.take_in.Goals.{in-Stopped+in_ok-suspend-in-Stopped}

pub conclude-requires : goal.conclude-requires
conclude-requires c =
    may-conclude c.args.build.now c.args.self.now c.args.at c.args.end c.requires c.in-Ended.fact c.in-Ended._asked c.in-Ended.is

pub returns-clause-ok : goal.returns-clause-ok
returns-clause-ok c =
    let given = c.args.build.now in
    let t = c.args.self.now in
    let at = c.args.at in
    let end = c.args.end in
    let may = c.requires in
    let put : IsPutBackThere given (state_after given Script t at) t c.match-end.self =
    elim c.match-end.branch [
      | in-Ended+in_ok-conclude-in-Ended+in-Few-1 w ↦ rw w.self-is
          (concluded-put given t at end may w.in-Ended.fact w.in-Ended._asked w.in-Ended.is _ w.in_ok-conclude-in-Ended.ensures)
      | in-Ended+in_ok-conclude-in-Ended+in-Many-1 w ↦ rw w.self-is
          (concluded-put given t at end may w.in-Ended.fact w.in-Ended._asked w.in-Ended.is _ w.in_ok-conclude-in-Ended.ensures)
      | in-Stopped+in_ok-suspend-in-Stopped w ↦ rw w.self-is w.in_ok-suspend-in-Stopped.ensures.ok
    ] in
    taken-in given given.request (state_after given Script t at) (moved given t at end may) t c.match-end.self c.enqueue.new.self
    may.at_rest.table may.at_rest.resting.queue (after-sound given t at end may).standing (after-state given t at end may) (after-entries given t at end may) put c.in_ok-enqueue.ensures
