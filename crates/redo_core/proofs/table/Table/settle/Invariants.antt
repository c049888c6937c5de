use Rattle.std.proofs.Common.{count_by}
use Rattle.redo_core.specs.inside.Slots.{IsSettling, is_waiting}
use Rattle.redo_core.proofs.table.Table.settle.Given as goal

abbrev pub invariant-loop-answered : goal.invariant-loop-answered
invariant-loop-answered l = IsSettling l.build l.initial.self l.self

abbrev pub decreases-loop-answered : goal.decreases-loop-answered
decreases-loop-answered l = count_by is_waiting l.self.schedule.stages
