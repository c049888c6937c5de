use Rattle.std.proofs.Common.{◌≡◌, drop}
use Rattle.redo_ood.specs.inside.Lines.{open_in}
use Rattle.redo_ood.specs.inside.Verdicts.{in_table}
use Rattle.redo_ood.proofs.words.first_open.Given as goal

-- the entries so far hold
abbrev pub invariant-loop-at : goal.invariant-loop-at
invariant-loop-at l =
    open_in (in_table l.table) l.entries l.items ≡ open_in (in_table l.table) (drop l.at l.entries) (drop l.at l.items)
