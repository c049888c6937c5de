-- Until the owner ends the run, the word counts each worker at what it is.
use Rattle.std.proofs.Common.{◌≡◌, ℕ, ◌+◌, ◌<◌, ◌≤◌, false, List, refl, sym, ◌∙◌, true≢false, arith}
use Rattle.redo_crew.specs.Runs.{Stage, State, Move, IsAt, CanMove, Leads, moved, opening}
use Rattle.redo_crew.specs.Runs.Stage.{Decides, Gave, Hires, Claims, Advances, Stops}
use Rattle.redo_crew.specs.Runs.Move.{Give, Spare, Call, Hire, Start, Keep, Claim, Pick_up, Hand_in, Receive, Stop, Break, Close, Take, Steal, Send, Return, Rest, Wake, Leave}
use Rattle.redo_crew.proofs.RunLemmas.{at, along, is_at_job}
use Rattle.redo_crew.proofs.OverLemmas.{is_over, told}

-- all workers are started or unborn; those that are started look, sleep, or have a right to a job; and so these
abbrev pub AreCounted : ℕ → State → Type 0
AreCounted workers s =
    (s.present + s.word.unborn ≡ workers)
    × (s.word.looking + s.word.asleep + s.word.holding ≡ s.present)
    × (s.word.holding ≡ s.claiming + s.busy + s.back)

hired : (workers most : ℕ) (s : State) → IsAt most Hire Gave (at Gave s) → AreCounted workers s → AreCounted workers (moved Hire (at Gave s))
hired workers most s h k =
    let some = h.1.1.3 in let all = k.0 in let here = k.1 in
    (omega (arith, some, all), omega (arith, here), k.2)

taken : (workers most : ℕ) (stage : Stage) (s : State) → IsAt most Take stage (at stage s) → AreCounted workers s →
    AreCounted workers (moved Take (at stage s))
taken workers most stage s h k =
    let some = h.1.1 in let here = k.1 in let held = k.2 in (k.0, omega (arith, some, here), omega (arith, held))

stolen : (workers most : ℕ) (stage : Stage) (s : State) → IsAt most Steal stage (at stage s) → AreCounted workers s →
    AreCounted workers (moved Steal (at stage s))
stolen workers most stage s h k = let some = h.0 in let held = k.2 in (k.0, k.1, omega (arith, some, held))

sent : (workers most : ℕ) (stage : Stage) (s : State) → IsAt most Send stage (at stage s) → AreCounted workers s →
    AreCounted workers (moved Send (at stage s))
sent workers most stage s h k =
    let some = is_at_job most stage (at stage s) h in let held = k.2 in (k.0, k.1, omega (arith, some, held))

returned : (workers most : ℕ) (stage : Stage) (s : State) → IsAt most Return stage (at stage s) → AreCounted workers s →
    AreCounted workers (moved Return (at stage s))
returned workers most stage s h k =
    let some = h.0 in let here = k.1 in let held = k.2 in
    (k.0, omega (arith, some, here, held), omega (arith, some, held))

rested : (workers most : ℕ) (stage : Stage) (s : State) → IsAt most Rest stage (at stage s) → AreCounted workers s →
    AreCounted workers (moved Rest (at stage s))
rested workers most stage s h k = let some = h.1.1 in let here = k.1 in (k.0, omega (arith, some, here), k.2)

-- a sleeper that is called is there: no more are called than sleep
woken : (workers most : ℕ) (stage : Stage) (s : State) → IsAt most Wake stage (at stage s) → s.word.calls ≤ s.word.asleep →
    AreCounted workers s → AreCounted workers (moved Wake (at stage s))
woken workers most stage s h few k = let some = h.1 in let here = k.1 in (k.0, omega (arith, some, few, here), k.2)

counted : (workers most : ℕ) (move : Move) (stage : Stage) (s : State) → IsAt most move stage (at stage s) →
    s.word.calls ≤ s.word.asleep → (is_over stage ≡ false → AreCounted workers s) →
    is_over (moved move (at stage s)).stage ≡ false → AreCounted workers (moved move (at stage s))
counted workers most (Give left) Decides s h few k e = k refl
counted workers most Spare Gave s h few k e = k refl
counted workers most Call Gave s h few k e = k refl
counted workers most Hire Gave s h few k e = hired workers most s h (k refl)
counted workers most Start Hires s h few k e = k refl
counted workers most Keep Gave s h few k e = k refl
counted workers most Claim Decides s h few k e = k refl
counted workers most Pick_up Claims s h few k e = k refl
counted workers most (Hand_in ready left) Advances s h few k e = k refl
counted workers most (Receive ready left) Decides s h few k e = k refl
counted workers most Stop stage s h few k e = absurd (true≢false e)
counted workers most Break stage s h few k e = absurd (true≢false e)
counted workers most Close stage s h few k e = absurd (true≢false e)
counted workers most Take stage s h few k e = taken workers most stage s h (k e)
counted workers most Steal stage s h few k e = stolen workers most stage s h (k e)
counted workers most Send stage s h few k e = sent workers most stage s h (k e)
counted workers most Return stage s h few k e = returned workers most stage s h (k e)
counted workers most Rest stage s h few k e = rested workers most stage s h (k e)
counted workers most Wake stage s h few k e = woken workers most stage s h few (k e)
counted workers most Leave Stops s h few k e = absurd (true≢false e)
counted workers most _ _ s h few k e = absurd h

-- no more sleepers are called than there are
pub few_called : (most : ℕ) (move : Move) (stage : Stage) (s : State) → IsAt most move stage (at stage s) →
    s.word.calls ≤ s.word.asleep → (moved move (at stage s)).word.calls ≤ (moved move (at stage s)).word.asleep
few_called most Call Gave s h few = let some = h.1.1.2 in omega (arith, some)
few_called most Rest stage s h few = omega (arith, few)
few_called most Wake stage s h few = let some = h.1 in omega (arith, some, few)
few_called most (Give left) stage s h few = few
few_called most Spare stage s h few = few
few_called most Hire stage s h few = few
few_called most Start stage s h few = few
few_called most Keep stage s h few = few
few_called most Claim stage s h few = few
few_called most Pick_up stage s h few = few
few_called most (Hand_in ready left) stage s h few = few
few_called most (Receive ready left) stage s h few = few
few_called most Stop stage s h few = few
few_called most Break stage s h few = few
few_called most Close stage s h few = few
few_called most Take stage s h few = few
few_called most Steal stage s h few = few
few_called most Send stage s h few = few
few_called most Return stage s h few = few
few_called most Leave stage s h few = few
few_called most _ _ s h few = absurd h

-- whoever has a right to a job, or is at one, is there
at_work : (workers most : ℕ) (move : Move) (stage : Stage) (s : State) → IsAt most move stage (at stage s) →
    s.word.over ≡ is_over stage → (is_over stage ≡ false → AreCounted workers s) → s.claiming + s.busy ≤ s.present →
    (moved move (at stage s)).claiming + (moved move (at stage s)).busy ≤ (moved move (at stage s)).present
at_work workers most Take stage s h told k b =
    let looks = h.1.1 in
    let all = k (sym told ∙ h.0) in
    let here = all.1 in
    let held = all.2 in
    omega (arith, looks, here, held)
at_work workers most Hire stage s h told k b = omega (arith, b)
at_work workers most Steal stage s h told k b = let some = h.0 in omega (arith, some, b)
at_work workers most Send stage s h told k b = omega (arith, b)
at_work workers most Leave Stops s h told k b = omega (arith, h)
at_work workers most (Give left) stage s h told k b = b
at_work workers most Spare stage s h told k b = b
at_work workers most Call stage s h told k b = b
at_work workers most Start stage s h told k b = b
at_work workers most Keep stage s h told k b = b
at_work workers most Claim stage s h told k b = b
at_work workers most Pick_up stage s h told k b = b
at_work workers most (Hand_in ready left) stage s h told k b = b
at_work workers most (Receive ready left) stage s h told k b = b
at_work workers most Stop stage s h told k b = b
at_work workers most Break stage s h told k b = b
at_work workers most Close stage s h told k b = b
at_work workers most Return stage s h told k b = b
at_work workers most Rest stage s h told k b = b
at_work workers most Wake stage s h told k b = b
at_work workers most _ _ s h told k b = absurd h

-- what is kept together
abbrev pub Keeps : ℕ → State → Type 0
Keeps workers s =
    (s.word.calls ≤ s.word.asleep)
    × (s.word.over ≡ is_over s.stage)
    × (is_over s.stage ≡ false → AreCounted workers s)
    × (s.claiming + s.busy ≤ s.present)

keeps : (workers most : ℕ) (move : Move) (s : State) → CanMove most move s → Keeps workers s → Keeps workers (moved move s)
keeps workers most move s h k = (
  few_called most move s.stage s h k.0,
  told most move s.stage s h k.1,
  counted workers most move s.stage s h k.0 k.2,
  at_work workers most move s.stage s h k.1 k.2 k.3,
)

pub all_kept : (most workers ready left : ℕ) (moves : List Move) (s : State) →
    Leads most moves (opening workers ready left) s → Keeps workers s
all_kept most workers ready left moves s l =
    let at_first : Keeps workers (opening workers ready left) = (omega arith, refl, (λ e. (omega arith, refl, refl)), omega arith) in
    along most (Keeps workers) (keeps workers most) moves (opening workers ready left) s l at_first

pub all_counted : (most workers ready left : ℕ) (moves : List Move) (s : State) →
    Leads most moves (opening workers ready left) s → s.word.over ≡ false → AreCounted workers s
all_counted most workers ready left moves s l going =
    let k = all_kept most workers ready left moves s l in k.2 (sym k.1 ∙ going)

pub may_look : (most workers ready left : ℕ) (moves : List Move) (s : State) →
    Leads most moves (opening workers ready left) s → s.word.over ≡ false → 0 < s.back → CanMove most Return s
may_look most workers ready left moves s l going some =
    let held = (all_counted most workers ready left moves s l going).2 in
    (some, (going, omega (arith, some, held)))
