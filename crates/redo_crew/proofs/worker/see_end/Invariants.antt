use Rattle.redo_crew.specs.Deeds.{HasOnlyLooked}
use Rattle.redo_crew.proofs.worker.see_end.Given as goal

-- it has only looked
abbrev pub invariant-looks : goal.invariant-looks
invariant-looks g l = HasOnlyLooked l.fn.member l.member
