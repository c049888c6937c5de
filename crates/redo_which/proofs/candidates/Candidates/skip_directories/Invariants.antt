use Rattle.std.proofs.Common.{length}
use Rattle.redo_which.specs.inside.Passed.{Passes, places_left}
use Rattle.redo_which.specs.inside.Slots.{IsNext, slots_left}
use Rattle.redo_which.proofs.candidates.Candidates.skip_directories.Given as goal

-- those so far were passed over
abbrev pub invariant-loop-self : goal.invariant-loop-self
invariant-loop-self l = record {
  passes : Passes l.tree l.count l.fn.self (places_left l.self-inside.name.now l.self-inside.next);
  next : IsNext l.self-inside.name.now l.self-inside.next;
}

abbrev pub decreases-loop-self : goal.decreases-loop-self
decreases-loop-self l = length (slots_left l.self-inside.name.now l.self-inside.next)
