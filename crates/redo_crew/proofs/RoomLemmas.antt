-- No more jobs are out than may be, so the channel of the pieces is never full.
use Rattle.std.proofs.Common.{ℕ, ◌*◌, ◌<◌, ◌≤◌, List, arith}
use Rattle.redo_crew.specs.Word.{most_workers, out_for_each, places}
use Rattle.redo_crew.specs.Runs.{Stage, State, Move, IsAt, CanMove, Leads, moved, opening, out}
use Rattle.redo_crew.specs.Runs.Stage.{Gave}
use Rattle.redo_crew.specs.Runs.Move.{Give, Spare, Call, Hire, Start, Keep, Claim, Pick_up, Hand_in, Receive, Stop, Break, Close, Take, Steal, Send, Return, Rest, Wake, Leave}
use Rattle.redo_crew.proofs.RunLemmas.{at, along, is_at_job}

room : (most : ℕ) (move : Move) (stage : Stage) (s : State) → IsAt most move stage (at stage s) →
    out s ≤ most → out (moved move (at stage s)) ≤ most
room most (Give left) stage s h b = b
room most Spare Gave s h b = let less = h.0 in omega (arith, less)
room most Call Gave s h b = let less = h.0 in omega (arith, less)
room most Hire Gave s h b = let less = h.0 in omega (arith, less)
room most Start stage s h b = b
room most Keep stage s h b = b
room most Claim stage s h b = omega (arith, b)
room most Pick_up stage s h b = b
room most (Hand_in ready left) stage s h b = b
room most (Receive ready left) stage s h b = omega (arith, b)
room most Stop stage s h b = b
room most Break stage s h b = b
room most Close stage s h b = b
room most Take stage s h b = let waits = h.1.0 in omega (arith, waits, b)
room most Steal stage s h b = omega (arith, h.0, b)
room most Send stage s h b = let some = is_at_job most stage (at stage s) h in omega (arith, some, b)
room most Return stage s h b = b
room most Rest stage s h b = b
room most Wake stage s h b = b
room most Leave stage s h b = b
room most _ _ s h b = absurd h

pub few_are_out : (most workers ready left : ℕ) (moves : List Move) (s : State) →
    Leads most moves (opening workers ready left) s → out s ≤ most
few_are_out most workers ready left moves s l =
    along most (λ s. out s ≤ most) (λ move s h b. room most move s.stage s h b) moves (opening workers ready left) s l (omega arith)

sends : (most : ℕ) (stage : Stage) (s : State) → IsAt most Send stage s → out s ≤ most → s.pieces < most
sends most stage s h b = let some = is_at_job most stage s h in omega (arith, some, b)

pub has_room : (workers ready left : ℕ) (moves : List Move) (s : State) → workers ≤ most_workers →
    Leads (workers * out_for_each) moves (opening workers ready left) s → CanMove (workers * out_for_each) Send s → s.pieces < places
has_room workers ready left moves s few l h =
    let least = sends (workers * out_for_each) s.stage s h (few_are_out (workers * out_for_each) workers ready left moves s l) in
    omega (arith, few, least)
