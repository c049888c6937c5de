use Rattle.std.proofs.Common.{take}
use Rattle.redo_ood.specs.inside.Rows.{AreItems, InRun}
use Rattle.redo_ood.proofs.items.items_of.Given as goal

-- the items of the entries so far
abbrev pub invariant-loop-entry : goal.invariant-loop-entry
invariant-loop-entry l =
    InRun l.past l.requested (λ s k book. AreItems s k book (take l.entry-index l.entries) l.items.items)
