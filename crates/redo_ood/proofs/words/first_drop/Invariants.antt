use Rattle.std.proofs.Common.{◌≡◌, drop}
use Rattle.redo_ood.specs.inside.Lines.{drop_in}
use Rattle.redo_ood.specs.inside.Verdicts.{in_table}
use Rattle.redo_ood.proofs.words.first_drop.Given as goal

-- none of the entries so far drops
abbrev pub invariant-loop-at : goal.invariant-loop-at
invariant-loop-at l =
    drop_in (in_table l.table) l.entries l.items ≡ drop_in (in_table l.table) (drop l.at l.entries) (drop l.at l.items)
