use Rattle.std.proofs.Common.{◌≤◌}
use Rattle.redo_ood.specs.inside.Verdicts.{IsSound, known_count}
use Rattle.redo_ood.proofs.verdicts.verdicts.Given as goal

abbrev pub invariant-loop-round : goal.invariant-loop-round
invariant-loop-round l = IsSound l.book l.table.items × (l._round ≤ known_count l.table.items)
