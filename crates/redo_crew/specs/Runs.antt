-- The owner of a board and its workers as a machine: how many are at what, and what may happen next. Each step is one
-- that no other thread divides. What leaves all as it is, as a look that finds nothing, is no step. The bell isn't
-- part of the machine: a sleeper that is called may wake.
use Rattle.std.specs.Prelude.{◌≡◌, ℕ, ◌+◌, ◌*◌, ◌-◌, ◌<◌, ◌≤◌, List, [], ◌∷◌}
use Rattle.redo_crew.specs.Word.{first, after, IsOpen}
use Rattle.redo_crew.specs.declared.counts.Counts.{Counts}
use Rattle.redo_crew.specs.declared.counts.Step.TheVariants as words

-- what the owner is at
pub data Stage : Type 0 where
  -- it is at the head of its loop
  Decides : Stage
  -- it has put a job into the relay, and hasn't offered it
  Gave : Stage
  -- it has counted a worker that it is about to start
  Hires : Stage
  -- it has a right to one of the jobs in the relay
  Claims : Stage
  -- it has a job
  Advances : Stage
  -- the run is over; workers still advance jobs to which they have a right, but nobody receives the pieces
  Stops : Stage
  Ended : Stage

pub record State : Type 0 where
  pub stage : Stage
  -- the shared word
  pub word : Counts
  -- workers: counted as started, and not gone; with a right to a job in the relay; with a job; with a piece sent, and
  -- not back yet
  pub present : ℕ
  pub claiming : ℕ
  pub busy : ℕ
  pub back : ℕ
  -- jobs in the relay, and pieces that weren't received
  pub queued : ℕ
  pub pieces : ℕ
  -- the board: jobs that are ready, and how many may still be given, those among them
  pub ready : ℕ
  pub left : ℕ

pub data Move : Type 0 where
  -- the owner's
  Give : (left : ℕ) → Move
  Spare : Move
  Call : Move
  Hire : Move
  Start : Move
  Keep : Move
  Claim : Move
  Pick_up : Move
  Hand_in : (ready left : ℕ) → Move
  Receive : (ready left : ℕ) → Move
  Stop : Move
  -- memory, a thread or the board itself is refused
  Break : Move
  Close : Move
  -- a worker's
  Take : Move
  Steal : Move
  Send : Move
  Return : Move
  Rest : Move
  Wake : Move
  Leave : Move

-- jobs that were offered, and whose pieces weren't received
abbrev pub out : State → ℕ
out s = s.word.waiting + s.claiming + s.busy + s.pieces

-- the move may happen at this stage of the owner's
abbrev pub IsAt : ℕ → Move → Stage → State → Type 0
IsAt most (Give left) Decides s = (0 < s.ready) × (left < s.left) × (s.ready ≤ left + 1)
IsAt most Spare Gave s = (out s < most) × IsOpen words.Spare s.word
IsAt most Call Gave s = (out s < most) × IsOpen words.Call s.word
IsAt most Hire Gave s = (out s < most) × IsOpen words.Hire s.word
IsAt most Start Hires s = Unit {0}
IsAt most Keep Gave s = Unit {0}
IsAt most Claim Decides s = IsOpen words.Claim s.word
IsAt most Pick_up Claims s = 0 < s.queued
IsAt most (Hand_in ready left) Advances s = (left ≤ s.left) × (ready ≤ left)
IsAt most (Receive ready left) Decides s = (0 < s.pieces) × (left ≤ s.left) × (ready ≤ left)
IsAt most Stop Decides s = (out s ≡ 0) × (s.ready ≡ 0)
IsAt most Break Stops s = ⊥
IsAt most Break Ended s = ⊥
IsAt most Break stage s = Unit {0}
IsAt most Close Stops s = s.present ≡ 0
IsAt most Take stage s = IsOpen words.Take s.word
IsAt most Steal stage s = (0 < s.claiming) × (0 < s.queued)
IsAt most Send Ended s = ⊥
IsAt most Send stage s = 0 < s.busy
IsAt most Return stage s = (0 < s.back) × IsOpen words.Return s.word
IsAt most Rest stage s = IsOpen words.Rest s.word
IsAt most Wake stage s = IsOpen words.Wake s.word
IsAt most Leave Stops s = s.claiming + s.busy < s.present
IsAt most move stage s = ⊥

-- the move may happen, where so many jobs may be out
abbrev pub CanMove : ℕ → Move → State → Type 0
CanMove most move s = IsAt most move s.stage s

-- the state after the move
abbrev pub moved : Move → State → State
moved (Give left) s = record s { stage = Gave; ready = s.ready - 1; left = left; queued = s.queued + 1 }
moved Spare s = record s { stage = Decides; word = after words.Spare s.word }
moved Call s = record s { stage = Decides; word = after words.Call s.word }
moved Hire s = record s { stage = Hires; word = after words.Hire s.word; present = s.present + 1 }
moved Start s = record s { stage = Decides }
moved Keep s = record s { stage = Claims }
moved Claim s = record s { stage = Claims; word = after words.Claim s.word }
moved Pick_up s = record s { stage = Advances; queued = s.queued - 1 }
moved (Hand_in ready left) s = record s { stage = Decides; ready = ready; left = left }
moved (Receive ready left) s = record s { pieces = s.pieces - 1; ready = ready; left = left }
moved Stop s = record s { stage = Stops; word = after words.End s.word }
moved Break s = record s { stage = Stops; word = after words.End s.word }
moved Close s = record s { stage = Ended }
moved Take s = record s { word = after words.Take s.word; claiming = s.claiming + 1 }
moved Steal s = record s { claiming = s.claiming - 1; queued = s.queued - 1; busy = s.busy + 1 }
moved Send s = record s { busy = s.busy - 1; pieces = s.pieces + 1; back = s.back + 1 }
moved Return s = record s { word = after words.Return s.word; back = s.back - 1 }
moved Rest s = record s { word = after words.Rest s.word }
moved Wake s = record s { word = after words.Wake s.word }
moved Leave s = record s { present = s.present - 1 }

-- these moves lead from one state to the other, and each may happen when it does
abbrev pub Leads : ℕ → List Move → State → State → Type 0
Leads most [] s t = s ≡ t
Leads most (move ∷ moves) s t = CanMove most move s × Leads most moves (moved move s) t

-- What a state may still cost. Each move lowers it, wherever a job and a worker are on their way.
abbrev pub weight : Stage → ℕ
weight Decides = 2
weight Gave = 10
weight Hires = 3
weight Claims = 4
weight Advances = 3
weight Stops = 1
weight Ended = 0

abbrev pub cost : State → ℕ
cost s =
    weight s.stage + 9 * s.left + 5 * s.word.waiting + 5 * s.claiming + 4 * s.busy + 2 * s.back + s.pieces
    + s.word.unborn + s.word.looking + 2 * s.word.calls + s.present

-- before the first move: so many workers, none of them started, and jobs that are ready
abbrev pub opening : ℕ → ℕ → ℕ → State
opening workers ready left = record {
  stage = Decides;
  word = first workers;
  present = 0;
  claiming = 0;
  busy = 0;
  back = 0;
  queued = 0;
  pieces = 0;
  ready = ready;
  left = left;
}

-- a move that isn't a refusal
abbrev pub IsOwn : Move → Type 0
IsOwn Break = ⊥
IsOwn move = Unit {0}

abbrev pub AreOwn : List Move → Type 0
AreOwn [] = Unit {0}
AreOwn (move ∷ moves) = IsOwn move × AreOwn moves
