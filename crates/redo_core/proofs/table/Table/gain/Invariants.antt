use Rattle.redo_core.specs.inside.Slots.{GainsBelow}
use Rattle.redo_core.proofs.table.Table.gain.Given as goal

abbrev pub invariant-loop-at : goal.invariant-loop-at
invariant-loop-at l = GainsBelow l.self l.operands l.initial.facts l.facts l.at-index
