use Rattle.redo_crew.specs.Deeds.{HasOnlyLooked}
use Rattle.redo_crew.proofs.lead.offered.Given as goal

-- it has only looked
abbrev pub invariant-tries : goal.invariant-tries
invariant-tries g l = HasOnlyLooked l.fn.member l.member
