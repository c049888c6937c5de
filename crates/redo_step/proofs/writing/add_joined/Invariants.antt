use Rattle.std.proofs.Common.{drop}
use Rattle.redo_step.proofs.RoundLemmas.{Spaced, spaced}
use Rattle.redo_step.proofs.writing.add_joined.Given as goal

abbrev pub invariant-loop-text : goal.invariant-loop-text
invariant-loop-text l = Spaced (drop l.text-index l.others) (spaced l.others) l.initial.sink l.sink
