-- The machine with its bell. A ring is owed by the owner, then lies in the channel, then is heard by a sleeper. By it the
-- sleeper wakes; once the run is over, it leaves by it.
use Rattle.std.specs.Prelude.{◌≡◌, ℕ, Bool, true, false, ◌+◌, ◌*◌, ◌-◌, ◌<◌, List, [], ◌∷◌}
use Rattle.redo_crew.specs.Runs.{Move, State, CanMove, IsOwn, cost, moved, opening}
use Rattle.redo_crew.specs.Runs.Move.{Call, Stop, Break, Take, Steal, Send, Return, Rest, Wake, Leave}

pub record Belled : Type 0 where
  pub state : State
  -- rings that the owner has to send, that lie in the channel, and by which nobody has woken or left
  pub owed : ℕ
  pub rings : ℕ
  pub heard : ℕ
  -- sleepers that have left
  pub gone : ℕ

pub data Act : Type 0 where
  -- a move of the machine; of those that leave, by one who doesn't sleep
  Own : Move → Act
  Ring : Act
  Hear : Act
  -- a sleeper leaves, once the run is over
  Part : Act

-- What the bell asks of a move. The owner rings before it moves on. A sleeper wakes by a ring that it has heard. Who
-- leaves without a ring doesn't sleep.
abbrev pub Asks : Move → Belled → Type 0
Asks Take b = Unit {0}
Asks Steal b = Unit {0}
Asks Send b = Unit {0}
Asks Return b = Unit {0}
Asks Rest b = Unit {0}
Asks Wake b = 0 < b.heard
Asks Leave b = b.state.claiming + b.state.busy + (b.state.word.asleep - b.gone) < b.state.present
Asks move b = b.owed ≡ 0

abbrev pub CanAct : ℕ → Act → Belled → Type 0
CanAct most (Own move) b = CanMove most move b.state × Asks move b
CanAct most Ring b = 0 < b.owed
CanAct most Hear b = 0 < b.rings
CanAct most Part b = CanMove most Leave b.state × (0 < b.heard)

-- A call owes a ring. The end owes one for each sleeper that isn't called.
abbrev pub owed_after : Move → State → ℕ → ℕ
owed_after Call s n = n + 1
owed_after Stop s n = n + (s.word.asleep - s.word.calls)
owed_after Break s n = n + (s.word.asleep - s.word.calls)
owed_after move s n = n

abbrev pub heard_after : Move → ℕ → ℕ
heard_after Wake n = n - 1
heard_after move n = n

abbrev pub acted : Act → Belled → Belled
acted (Own move) b =
    record b { state = moved move b.state; owed = owed_after move b.state b.owed; heard = heard_after move b.heard }
acted Ring b = record b { owed = b.owed - 1; rings = b.rings + 1 }
acted Hear b = record b { rings = b.rings - 1; heard = b.heard + 1 }
acted Part b = record b { state = moved Leave b.state; heard = b.heard - 1; gone = b.gone + 1 }

-- these acts lead from one state to the other, and each may happen when it does
abbrev pub Brings : ℕ → List Act → Belled → Belled → Type 0
Brings most [] b c = b ≡ c
Brings most (act ∷ acts) b c = CanAct most act b × Brings most acts (acted act b) c

-- the moves among the acts
abbrev pub moves_of : List Act → List Move
moves_of [] = []
moves_of (Own move ∷ acts) = move ∷ moves_of acts
moves_of (Ring ∷ acts) = moves_of acts
moves_of (Hear ∷ acts) = moves_of acts
moves_of (Part ∷ acts) = Leave ∷ moves_of acts

abbrev pub opened : ℕ → ℕ → ℕ → Belled
opened workers ready left = record { state = opening workers ready left; owed = 0; rings = 0; heard = 0; gone = 0 }

-- an act that isn't a refusal
abbrev pub IsOwnAct : Act → Type 0
IsOwnAct (Own move) = IsOwn move
IsOwnAct act = Unit {0}

-- how many sleepers have no ring yet: until the end those that aren't called
abbrev pub unrung : Bool → ℕ → ℕ → ℕ
unrung true asleep calls = 0
unrung false asleep calls = asleep - calls

-- each act lowers it
abbrev pub bell_cost : Belled → ℕ
bell_cost b =
    3 * cost b.state + 2 * b.owed + b.rings + 2 * unrung b.state.word.over b.state.word.asleep b.state.word.calls
