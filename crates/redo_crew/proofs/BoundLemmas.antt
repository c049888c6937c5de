-- Each move lowers what a state may still cost, so a run is bounded.
use Rattle.std.proofs.Common.{◌≡◌, ℕ, ◌+◌, ◌*◌, ◌<◌, ◌≤◌, List, [], ◌∷◌, length, ap, arith}
use Rattle.redo_crew.specs.Runs.{Stage, State, Move, IsAt, Leads, moved, cost, opening}
use Rattle.redo_crew.specs.Runs.Stage.{Decides, Gave, Hires, Claims, Advances, Stops}
use Rattle.redo_crew.specs.Runs.Move.{Give, Spare, Call, Hire, Start, Keep, Claim, Pick_up, Hand_in, Receive, Stop, Break, Close, Take, Steal, Send, Return, Rest, Wake, Leave}
use Rattle.redo_crew.proofs.RunLemmas.{at, is_at_job}

pub less : (most : ℕ) (move : Move) (stage : Stage) (s : State) → IsAt most move stage (at stage s) →
    cost (moved move (at stage s)) < cost (at stage s)
less most (Give left) Decides s h = omega (arith, h.1)
less most Spare Gave s h = omega arith
less most Call Gave s h = omega arith
less most Hire Gave s h = let some = h.1.1.3 in omega (arith, some)
less most Start Hires s h = omega arith
less most Keep Gave s h = omega arith
less most Claim Decides s h = let some = h.1 in omega (arith, some)
less most Pick_up Claims s h = omega arith
less most (Hand_in ready left) Advances s h = omega (arith, h.0)
less most (Receive ready left) Decides s h = omega (arith, h.0, h.1)
less most Stop Decides s h = omega arith
less most Break Decides s h = omega arith
less most Break Gave s h = omega arith
less most Break Hires s h = omega arith
less most Break Claims s h = omega arith
less most Break Advances s h = omega arith
less most Close Stops s h = omega arith
less most Take stage s h = let waits = h.1.0 in let looks = h.1.1 in omega (arith, waits, looks)
less most Steal stage s h = omega (arith, h.0)
less most Send stage s h = let some = is_at_job most stage (at stage s) h in omega (arith, some)
less most Return stage s h = omega (arith, h.0)
less most Rest stage s h = let looks = h.1.1 in omega (arith, looks)
less most Wake stage s h = let called = h.1 in omega (arith, called)
less most Leave Stops s h = omega (arith, h)
less most _ _ s h = absurd h

pub bounded : (most : ℕ) (moves : List Move) (s t : State) → Leads most moves s t → length moves + cost t ≤ cost s
bounded most [] s t l = let e : cost s ≡ cost t = ap cost l in omega (arith, e)
bounded most (move ∷ moves) s t l =
    let rest = bounded most moves (moved move s) t l.1 in
    let one = less most move s.stage s l.0 in
    omega (arith, rest, one)

pub few : (most workers ready left : ℕ) (moves : List Move) (s : State) → Leads most moves (opening workers ready left) s →
    length moves ≤ 9 * left + workers + 2
few most workers ready left moves s l = let all = bounded most moves (opening workers ready left) s l in omega (arith, all)
