use Rattle.std.proofs.Common.{◌≡◌, drop}
use Rattle.redo_ood.specs.inside.Verdicts.{in_table, of_items as verdict_of_items}
use Rattle.redo_ood.proofs.verdicts.of_items.Given as goal

abbrev pub invariant-loop-item : goal.invariant-loop-item
invariant-loop-item l =
    verdict_of_items (in_table l.table) l.items ≡ verdict_of_items (in_table l.table) (drop l.item-index l.items)
