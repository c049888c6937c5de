-- The relay holds a job for everyone who has a right to one.
use Rattle.std.proofs.Common.{◌≡◌, ℕ, ◌+◌, ◌<◌, ◌≤◌, List, refl, sym, ap, subst, arith}
use Rattle.redo_crew.specs.Runs.{Stage, State, Move, IsAt, CanMove, Leads, IsOwn, moved, opening}
use Rattle.redo_crew.specs.Runs.Stage.{Decides, Gave, Hires, Claims, Advances, Stops}
use Rattle.redo_crew.specs.Runs.Move.{Give, Spare, Call, Hire, Start, Keep, Claim, Pick_up, Hand_in, Receive, Stop, Break, Close, Take, Steal, Send, Return, Rest, Wake, Leave}
use Rattle.redo_crew.proofs.RunLemmas.{at, along}

-- how many jobs in the relay the owner has given without an offer, or has a right to
abbrev pub own : Stage → ℕ
own Gave = 1
own Claims = 1
own stage = 0

-- how many jobs are to be in the relay: the owner's, those that wait, and those that a worker has a right to
abbrev pub due : State → ℕ
due s = own s.stage + s.word.waiting + s.claiming

-- a move that isn't a refusal changes what is in the relay as it changes what is to be there
pub balance : (most : ℕ) (move : Move) (stage : Stage) (s : State) → IsOwn move → IsAt most move stage (at stage s) →
    due (at stage s) ≤ s.queued →
    (moved move (at stage s)).queued + due (at stage s) ≡ s.queued + due (moved move (at stage s))
balance most (Give left) Decides s o h b = omega arith
balance most Spare Gave s o h b = omega arith
balance most Call Gave s o h b = omega arith
balance most Hire Gave s o h b = omega arith
balance most Start Hires s o h b = refl
balance most Keep Gave s o h b = refl
balance most Claim Decides s o h b = let some = h.1 in omega (arith, some)
balance most Pick_up Claims s o h b = omega (arith, h)
balance most (Hand_in ready left) Advances s o h b = refl
balance most (Receive ready left) Decides s o h b = refl
balance most Stop Decides s o h b = refl
balance most Break stage s o h b = absurd o
balance most Close Stops s o h b = refl
balance most Take stage s o h b = let waits = h.1.0 in omega (arith, waits)
balance most Steal stage s o h b = omega (arith, h.0, h.1)
balance most Send stage s o h b = refl
balance most Return stage s o h b = refl
balance most Rest stage s o h b = refl
balance most Wake stage s o h b = refl
balance most Leave Stops s o h b = refl
balance most _ _ s o h b = absurd h

stocked-by : (most : ℕ) (move : Move) (stage : Stage) (s : State) → IsOwn move → IsAt most move stage (at stage s) →
    due (at stage s) ≤ s.queued → due (moved move (at stage s)) ≤ (moved move (at stage s)).queued
stocked-by most move stage s o h b = let e = balance most move stage s o h b in omega (arith, e, b)

stocked : (most : ℕ) (move : Move) (stage : Stage) (s : State) → IsAt most move stage (at stage s) →
    due (at stage s) ≤ s.queued → due (moved move (at stage s)) ≤ (moved move (at stage s)).queued
stocked most Break stage s h b = omega (arith, b)
stocked most (Give left) stage s h b = stocked-by most (Give left) stage s tt h b
stocked most (Hand_in ready left) stage s h b = stocked-by most (Hand_in ready left) stage s tt h b
stocked most (Receive ready left) stage s h b = stocked-by most (Receive ready left) stage s tt h b
stocked most move stage s h b = stocked-by most move stage s tt h b

pub stock : (most workers ready left : ℕ) (moves : List Move) (s : State) →
    Leads most moves (opening workers ready left) s → due s ≤ s.queued
stock most workers ready left moves s l =
    along most (λ s. due s ≤ s.queued) (λ move s h b. stocked most move s.stage s h b) moves (opening workers ready left) s l
    (omega arith)

pub owner_finds : (most workers ready left : ℕ) (moves : List Move) (s : State) →
    Leads most moves (opening workers ready left) s → s.stage ≡ Claims → CanMove most Pick_up s
owner_finds most workers ready left moves s l e =
    let enough = stock most workers ready left moves s l in
    let one : own s.stage ≡ 1 = ap own e in
    let some : 0 < s.queued = omega (arith, enough, one) in
    subst (λ stage. IsAt most Pick_up stage s) (sym e) some

pub worker_finds : (most workers ready left : ℕ) (moves : List Move) (s : State) →
    Leads most moves (opening workers ready left) s → 0 < s.claiming → CanMove most Steal s
worker_finds most workers ready left moves s l some =
    let enough = stock most workers ready left moves s l in (some, omega (arith, enough, some))
