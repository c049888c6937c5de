use Rattle.redo_ood.specs.inside.Verdicts.{IsSound}
use Rattle.redo_ood.proofs.verdicts.walk.Given as goal

abbrev pub invariant-loop-root : goal.invariant-loop-root
invariant-loop-root l = IsSound l.book l.table

abbrev pub invariant-loop-turn : goal.invariant-loop-turn
invariant-loop-turn l = IsSound l.book l.table
