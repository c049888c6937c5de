-- The word tells that the run is over as soon as the owner ends it.
use Rattle.std.proofs.Common.{◌≡◌, ℕ, Bool, true, false, List, refl}
use Rattle.redo_crew.specs.Runs.{Stage, State, Move, IsAt, Leads, moved, opening}
use Rattle.redo_crew.specs.Runs.Stage.{Decides, Gave, Hires, Claims, Advances, Stops, Ended}
use Rattle.redo_crew.specs.Runs.Move.{Give, Spare, Call, Hire, Start, Keep, Claim, Pick_up, Hand_in, Receive, Stop, Break, Close, Take, Steal, Send, Return, Rest, Wake, Leave}
use Rattle.redo_crew.proofs.RunLemmas.{at, along}

-- whether the owner has ended the run
abbrev pub is_over : Stage → Bool
is_over Stops = true
is_over Ended = true
is_over stage = false

pub told : (most : ℕ) (move : Move) (stage : Stage) (s : State) → IsAt most move stage (at stage s) →
    s.word.over ≡ is_over stage → (moved move (at stage s)).word.over ≡ is_over (moved move (at stage s)).stage
told most (Give left) Decides s h e = e
told most Spare Gave s h e = e
told most Call Gave s h e = e
told most Hire Gave s h e = e
told most Start Hires s h e = e
told most Keep Gave s h e = e
told most Claim Decides s h e = e
told most Pick_up Claims s h e = e
told most (Hand_in ready left) Advances s h e = e
told most (Receive ready left) Decides s h e = e
told most Stop stage s h e = refl
told most Break stage s h e = refl
told most Close Stops s h e = e
told most Take stage s h e = e
told most Steal stage s h e = e
told most Send stage s h e = e
told most Return stage s h e = e
told most Rest stage s h e = e
told most Wake stage s h e = e
told most Leave stage s h e = e
told most _ _ s h e = absurd h

pub all_are_told : (most workers ready left : ℕ) (moves : List Move) (s : State) →
    Leads most moves (opening workers ready left) s → s.word.over ≡ is_over s.stage
all_are_told most workers ready left moves s l =
    along most (λ s. s.word.over ≡ is_over s.stage) (λ move s h e. told most move s.stage s h e) moves
    (opening workers ready left) s l refl
