use Rattle.redo_crew.specs.Deeds.{HasFoundNone}
use Rattle.redo_crew.proofs.worker.Looking.find.Given as goal

-- it has taken no job
abbrev pub invariant-looks : goal.invariant-looks
invariant-looks g l = HasFoundNone l.fn.self l.looking
