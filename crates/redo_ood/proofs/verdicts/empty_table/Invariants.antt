use Rattle.std.proofs.Common.{◌≡◌, ℕ, length, None}
use Rattle.redo_ood.specs.inside.Verdicts.{in_table}
use Rattle.redo_ood.proofs.verdicts.empty_table.Given as goal

abbrev pub invariant-loop-number : goal.invariant-loop-number
invariant-loop-number l =
    (length l.table.items ≡ l._number) × ((i : ℕ) → in_table l.table.items i ≡ None)
