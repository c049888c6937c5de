-- A run that ends by itself has left nothing.
use Rattle.std.proofs.Common.{◌≡◌, ℕ, List, [], ◌∷◌, refl, ap, subst, arith}
use Rattle.redo_crew.specs.Runs.{Stage, State, Move, IsAt, Leads, IsOwn, AreOwn, moved, opening, out}
use Rattle.redo_crew.specs.Runs.Stage.{Decides, Gave, Hires, Claims, Advances, Stops, Ended}
use Rattle.redo_crew.specs.Runs.Move.{Give, Spare, Call, Hire, Start, Keep, Claim, Pick_up, Hand_in, Receive, Stop, Break, Close, Take, Steal, Send, Return, Rest, Wake, Leave}
use Rattle.redo_crew.proofs.RunLemmas.{at, is_at_job}
use Rattle.redo_crew.proofs.StockLemmas.{own, due, balance}

-- once the owner has ended the run, nothing is out and nothing is ready
abbrev Done : Stage → ℕ → ℕ → Type 0
Done Stops out ready = (out ≡ 0) × (ready ≡ 0)
Done Ended out ready = (out ≡ 0) × (ready ≡ 0)
Done stage out ready = Unit {0}

done-map : (stage : Stage) (m n r : ℕ) → m ≡ n → Done stage m r → Done stage n r
done-map stage m n r e d = subst (λ m. Done stage m r) e d

done : (most : ℕ) (move : Move) (stage : Stage) (s : State) → IsOwn move → IsAt most move stage (at stage s) →
    Done stage (out s) s.ready →
    Done (moved move (at stage s)).stage (out (moved move (at stage s))) (moved move (at stage s)).ready
done most (Give left) Decides s o h d = tt
done most Spare Gave s o h d = tt
done most Call Gave s o h d = tt
done most Hire Gave s o h d = tt
done most Start Hires s o h d = tt
done most Keep Gave s o h d = tt
done most Claim Decides s o h d = tt
done most Pick_up Claims s o h d = tt
done most (Hand_in ready left) Advances s o h d = tt
done most (Receive ready left) Decides s o h d = tt
done most Stop Decides s o h d = h
done most Break stage s o h d = absurd o
done most Close Stops s o h d = d
done most Take stage s o h d =
    let waits = h.1.0 in done-map stage (out s) (out (moved Take (at stage s))) s.ready (omega (arith, waits)) d
done most Steal stage s o h d =
    let some = h.0 in done-map stage (out s) (out (moved Steal (at stage s))) s.ready (omega (arith, some)) d
done most Send stage s o h d =
    let some = is_at_job most stage (at stage s) h in
    done-map stage (out s) (out (moved Send (at stage s))) s.ready (omega (arith, some)) d
done most Return stage s o h d = d
done most Rest stage s o h d = d
done most Wake stage s o h d = d
done most Leave stage s o h d = d
done most _ _ s o h d = absurd h

-- the relay holds what is to be there and no more
exact : (most : ℕ) (move : Move) (stage : Stage) (s : State) → IsOwn move → IsAt most move stage (at stage s) →
    due (at stage s) ≡ s.queued → due (moved move (at stage s)) ≡ (moved move (at stage s)).queued
exact most move stage s o h e =
    let b = balance most move stage s o h (omega (arith, e)) in omega (arith, e, b)

all_done : (most : ℕ) (moves : List Move) (s t : State) → AreOwn moves → Leads most moves s t →
    due s ≡ s.queued → Done s.stage (out s) s.ready → (due t ≡ t.queued) × Done t.stage (out t) t.ready
all_done most [] s t o l e d = subst (λ t. (due t ≡ t.queued) × Done t.stage (out t) t.ready) l (e, d)
all_done most (move ∷ moves) s t o l e d =
    all_done most moves (moved move s) t o.1 l.1 (exact most move s.stage s o.0 l.0 e) (done most move s.stage s o.0 l.0 d)

pub nothing_left : (most workers ready left : ℕ) (moves : List Move) (s : State) → AreOwn moves →
    Leads most moves (opening workers ready left) s → s.stage ≡ Ended → (out s ≡ 0) × (s.queued ≡ 0) × (s.ready ≡ 0)
nothing_left most workers ready left moves s o l ended =
    let all = all_done most moves (opening workers ready left) s o l refl tt in
    let exact = all.0 in
    let d : Done Ended (out s) s.ready = subst (λ stage. Done stage (out s) s.ready) ended all.1 in
    let none = d.0 in
    let owes : own s.stage ≡ 0 = ap own ended in
    (none, omega (arith, exact, none, owes), d.1)
