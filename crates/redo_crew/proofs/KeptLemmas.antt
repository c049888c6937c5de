-- What holds of the word at first is kept by each step, and so by each move.
use Rattle.std.proofs.Common.{ℕ, ◌≤◌, inl, inr, List, arith}
use Rattle.redo_crew.specs.declared.counts.Counts.{Counts}
use Rattle.redo_crew.specs.declared.counts.Step.{Step}
use Rattle.redo_crew.specs.declared.counts.Step.TheVariants as words
use Rattle.redo_crew.specs.Word.{IsKept, IsOpen, after, first, most_workers}
use Rattle.redo_crew.specs.Runs.{Stage, State, Move, IsAt, Leads, moved, opening}
use Rattle.redo_crew.specs.Runs.Stage.{Decides, Gave}
use Rattle.redo_crew.specs.Runs.Move.{Give, Spare, Call, Hire, Start, Keep, Claim, Pick_up, Hand_in, Receive, Stop, Break, Close, Take, Steal, Send, Return, Rest, Wake, Leave}
use Rattle.redo_crew.proofs.RunLemmas.{at, along}

spared : (c : Counts) → IsOpen words.Spare c → IsKept c → IsKept (after words.Spare c)
spared c o k = let free = o.1.0 in record {
  few = k.few;
  room = omega (arith, free);
  calls = k.calls;
  heard = elim (o.1.1) [ inl less ↦ inl (omega (arith, less)) | inr up ↦ inr up ];
}

called : (c : Counts) → IsOpen words.Call c → IsKept c → IsKept (after words.Call c)
called c o k = let free = o.1.0 in let sleeps = o.1.2 in record {
  few = k.few;
  room = omega (arith, free);
  calls = omega (arith, sleeps);
  heard = elim (k.heard) [
    | inl enough ↦ inl (omega (arith, enough))
    | inr up ↦ let all = up.0 in inl (omega (arith, sleeps, all))
  ];
}

hired : (c : Counts) → IsOpen words.Hire c → IsKept c → IsKept (after words.Hire c)
hired c o k = let free = o.1.0 in let some = o.1.3 in let few = k.few in record {
  few = omega (arith, some, few);
  room = omega (arith, free);
  calls = k.calls;
  heard = elim (k.heard) [
    | inl enough ↦ inl (omega (arith, enough))
    | inr up ↦ let none = up.1 in inl (omega (arith, some, none))
  ];
}

claimed : (c : Counts) → IsOpen words.Claim c → IsKept c → IsKept (after words.Claim c)
claimed c o k = let room = k.room in record {
  few = k.few;
  room = omega (arith, room);
  calls = k.calls;
  heard = elim (k.heard) [ inl enough ↦ inl (omega (arith, enough)) | inr up ↦ inr up ];
}

taken : (c : Counts) → IsOpen words.Take c → IsKept c → IsKept (after words.Take c)
taken c o k = let waits = o.1.0 in let looks = o.1.1 in let few = k.few in let room = k.room in record {
  few = omega (arith, looks, few);
  room = omega (arith, room);
  calls = k.calls;
  heard = elim (k.heard) [ inl enough ↦ inl (omega (arith, enough, waits, looks)) | inr up ↦ inr up ];
}

rested : (c : Counts) → IsOpen words.Rest c → IsKept c → IsKept (after words.Rest c)
rested c o k = let none = o.1.0 in let looks = o.1.1 in let few = k.few in let calls = k.calls in record {
  few = omega (arith, looks, few);
  room = k.room;
  calls = omega (arith, calls);
  heard = inl (omega (arith, none));
}

woken : (c : Counts) → IsOpen words.Wake c → IsKept c → IsKept (after words.Wake c)
woken c o k = let some = o.1 in let few = k.few in let calls = k.calls in record {
  few = omega (arith, some, calls, few);
  room = k.room;
  calls = omega (arith, some, calls);
  heard = elim (k.heard) [
    | inl enough ↦ inl (omega (arith, enough, some))
    | inr up ↦ let all = up.0 in inr (omega (arith, all), up.1)
  ];
}

returned : (c : Counts) → IsOpen words.Return c → IsKept c → IsKept (after words.Return c)
returned c o k = let some = o.1 in let few = k.few in record {
  few = omega (arith, some, few);
  room = k.room;
  calls = k.calls;
  heard = elim (k.heard) [ inl enough ↦ inl (omega (arith, enough)) | inr up ↦ inr up ];
}

ended : (c : Counts) → IsKept c → IsKept (after words.End c)
ended c k = record { few = k.few; room = k.room; calls = k.calls; heard = k.heard }

-- each step that may happen keeps what holds of the word
pub step_keeps : (step : Step) (c : Counts) → IsOpen step c → IsKept c → IsKept (after step c)
step_keeps words.Spare c o k = spared c o k
step_keeps words.Call c o k = called c o k
step_keeps words.Hire c o k = hired c o k
step_keeps words.Claim c o k = claimed c o k
step_keeps words.Take c o k = taken c o k
step_keeps words.Rest c o k = rested c o k
step_keeps words.Wake c o k = woken c o k
step_keeps words.Return c o k = returned c o k
step_keeps words.End c o k = ended c k

move_keeps : (most : ℕ) (move : Move) (stage : Stage) (s : State) → IsAt most move stage (at stage s) →
    IsKept s.word → IsKept (moved move (at stage s)).word
move_keeps most (Give left) stage s h k = k
move_keeps most Spare Gave s h k = spared s.word h.1 k
move_keeps most Call Gave s h k = called s.word h.1 k
move_keeps most Hire Gave s h k = hired s.word h.1 k
move_keeps most Start stage s h k = k
move_keeps most Keep stage s h k = k
move_keeps most Claim Decides s h k = claimed s.word h k
move_keeps most Pick_up stage s h k = k
move_keeps most (Hand_in ready left) stage s h k = k
move_keeps most (Receive ready left) stage s h k = k
move_keeps most Stop stage s h k = ended s.word k
move_keeps most Break stage s h k = ended s.word k
move_keeps most Close stage s h k = k
move_keeps most Take stage s h k = taken s.word h k
move_keeps most Steal stage s h k = k
move_keeps most Send stage s h k = k
move_keeps most Return stage s h k = returned s.word h.1 k
move_keeps most Rest stage s h k = rested s.word h k
move_keeps most Wake stage s h k = woken s.word h k
move_keeps most Leave stage s h k = k
move_keeps most _ _ s h k = absurd h

pub first_keeps : (workers : ℕ) → workers ≤ most_workers → IsKept (first workers)
first_keeps workers few = record { few = omega (arith, few); room = omega arith; calls = omega arith; heard = inl (omega arith) }

pub word_keeps : (most workers ready left : ℕ) (moves : List Move) (s : State) → workers ≤ most_workers →
    Leads most moves (opening workers ready left) s → IsKept s.word
word_keeps most workers ready left moves s few l =
    along most (λ s. IsKept s.word) (λ move s h k. move_keeps most move s.stage s h k) moves (opening workers ready left) s l
    (first_keeps workers few)
