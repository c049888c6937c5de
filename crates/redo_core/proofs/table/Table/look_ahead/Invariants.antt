use Rattle.redo_build.specs.TakesLeft.{takes_left}
use Rattle.redo_core.specs.inside.Slots.{IsLookedOn, table_state}
use Rattle.redo_core.proofs.table.Table.look_ahead.Given as goal

abbrev pub invariant-loop-at : goal.invariant-loop-at
invariant-loop-at l = IsLookedOn l.build l.initial.self l.self

abbrev pub decreases-loop-at : goal.decreases-loop-at
decreases-loop-at l = takes_left l.build.limits.targets (table_state l.build l.self)
