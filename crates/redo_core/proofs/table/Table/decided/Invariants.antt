use Rattle.std.proofs.Common.{◌≡◌, ◌≤◌, length, take}
use Rattle.redo_core.specs.inside.Slots.{decided_slots}
use Rattle.redo_core.proofs.table.Table.decided.Given as goal

-- those among the first slots are counted
abbrev pub invariant-loop-at : goal.invariant-loop-at
invariant-loop-at l =
    (l.count ≡ decided_slots (take l.at l.fn.self.slots.items)) × (l.count ≤ l.at) × (l.at-end ≡ length l.fn.self.slots.items)
