use Rattle.redo_crew.specs.Deeds.{HasOnlyLooked}
use Rattle.redo_crew.proofs.member.Member.step.Given as goal

-- it has only looked
abbrev pub invariant-tries : goal.invariant-tries
invariant-tries g l = HasOnlyLooked l.fn.self l.self
