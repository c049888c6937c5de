use Rattle.std.proofs.Common.{◌≡◌, length}
use Rattle.redo_which.specs.inside.Passed.{places_left}
use Rattle.redo_which.specs.inside.Slots.{IsNext, slots_left}
use Rattle.redo_which.proofs.candidates.CandidatesIterator.next.Given as goal

-- only places that are too long were passed over
abbrev pub invariant-loop-self : goal.invariant-loop-self
invariant-loop-self l = record {
  left : places_left l.self-inside.name.now l.self-inside.next ≡ l.fn.self;
  next : IsNext l.self-inside.name.now l.self-inside.next;
}

abbrev pub decreases-loop-self : goal.decreases-loop-self
decreases-loop-self l = length (slots_left l.self-inside.name.now l.self-inside.next)
