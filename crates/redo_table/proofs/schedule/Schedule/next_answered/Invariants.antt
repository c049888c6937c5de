use Rattle.std.proofs.Common.{◌≡◌, length}
use Rattle.redo_table.specs.inside.Listed.{IsListed}
use Rattle.redo_table.proofs.schedule.Schedule.next_answered.Given as goal

abbrev pub invariant-loop-self : goal.invariant-loop-self
invariant-loop-self l =
    (record { stages = l.self-inside.waits.stages; ready = l.self-inside.ready.items } ≡ l.fn.self) ×
    IsListed l.self-inside.waits.stages l.self-inside.ready.items l.self-inside.newly_ready.items l.self-inside.due.keys l.self-inside.out

abbrev pub decreases-loop-self : goal.decreases-loop-self
decreases-loop-self l = length l.self-inside.waits.pending
