use Rattle.std.proofs.Common.{take}
use Rattle.redo_core.specs.inside.Slots.{AreEnteredInto, AreNumbers}
use Rattle.redo_core.proofs.table.Table.enter_all.Given as goal

abbrev pub invariant-loop-path : goal.invariant-loop-path
invariant-loop-path l = AreEnteredInto l.build l.initial.self l.self (take l.path-index l.paths) ×
    AreNumbers l.self.targets l.numbers.items (take l.path-index l.paths)
