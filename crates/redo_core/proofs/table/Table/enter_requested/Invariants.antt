use Rattle.std.proofs.Common.{take}
use Rattle.redo_core.specs.inside.Slots.{AreEnteredInto, targets_in, rules_for}
use Rattle.redo_core.proofs.table.Table.enter_requested.Given as goal

abbrev pub invariant-loop-path : goal.invariant-loop-path
invariant-loop-path l = AreEnteredInto l.build l.initial.self l.self (targets_in (rules_for l.build) (take l.path-index l.request))
