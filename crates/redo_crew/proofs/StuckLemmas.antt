-- From each state that a run leads to, but the last, some move leads on.
use Rattle.std.proofs.Common.{◌≡◌, ℕ, ◌-◌, ◌≤◌, inl, inr, false, List, refl, arith}
use Rattle.redo_crew.specs.Runs.{Stage, State, Move, IsAt, CanMove, Leads, IsOwn, moved, opening}
use Rattle.redo_crew.specs.Runs.Stage.{Decides, Gave, Hires, Claims, Advances, Stops, Ended}
use Rattle.redo_crew.specs.Runs.Move.{Give, Spare, Call, Hire, Start, Keep, Claim, Pick_up, Hand_in, Receive, Stop, Break, Close, Take, Steal, Send, Return, Rest, Wake, Leave}
use Rattle.redo_crew.proofs.RunLemmas.{at, along, zero_or}
use Rattle.redo_crew.proofs.OverLemmas.{is_over, all_are_told}
use Rattle.redo_crew.proofs.StockLemmas.{due, stock}

fits : (most : ℕ) (move : Move) (stage : Stage) (s : State) → IsAt most move stage (at stage s) → s.ready ≤ s.left →
    (moved move (at stage s)).ready ≤ (moved move (at stage s)).left
fits most (Give left) Decides s h b = let some = h.0 in let fit = h.2 in omega (arith, some, fit)
fits most Spare stage s h b = b
fits most Call stage s h b = b
fits most Hire stage s h b = b
fits most Start stage s h b = b
fits most Keep stage s h b = b
fits most Claim stage s h b = b
fits most Pick_up stage s h b = b
fits most (Hand_in ready left) Advances s h b = h.1
fits most (Receive ready left) Decides s h b = h.2
fits most Stop stage s h b = b
fits most Break stage s h b = b
fits most Close stage s h b = b
fits most Take stage s h b = b
fits most Steal stage s h b = b
fits most Send stage s h b = b
fits most Return stage s h b = b
fits most Rest stage s h b = b
fits most Wake stage s h b = b
fits most Leave stage s h b = b
fits most _ _ s h b = absurd h

-- no more jobs are ready than may still be given
pub all_fit : (most workers ready left : ℕ) (moves : List Move) (s : State) → ready ≤ left →
    Leads most moves (opening workers ready left) s → s.ready ≤ s.left
all_fit most workers ready left moves s fit l =
    along most (λ s. s.ready ≤ s.left) (λ move s h b. fits most move s.stage s h b) moves (opening workers ready left) s l fit

-- where the owner decides, a piece is on its way, or a job waits, or one is ready, or all is done
decides : (most : ℕ) (s : State) → s.word.over ≡ false → due (at Decides s) ≤ s.queued → s.ready ≤ s.left →
    (move : Move) × IsOwn move × IsAt most move Decides (at Decides s)
decides most s e b fit = elim (zero_or s.pieces) [
  | inr p ↦ (Receive s.ready s.left, tt, (p, omega arith, fit))
  | inl p ↦ elim (zero_or s.busy) [
    | inr w ↦ (Send, tt, w)
    | inl w ↦ elim (zero_or s.claiming) [
      | inr c ↦ (Steal, tt, (c, omega (arith, c, b)))
      | inl c ↦ elim (zero_or s.word.waiting) [
        | inr n ↦ (Claim, tt, (e, n))
        | inl n ↦ elim (zero_or s.ready) [
          | inr r ↦ (Give (s.left - 1), tt, (r, omega (arith, r, fit), omega (arith, r, fit)))
          | inl r ↦ (Stop, tt, (omega (arith, p, w, c, n), r))
        ]
      ]
    ]
  ]
]

-- where the run is over, a worker still takes a job or sends its piece, or it ends, or nobody is left
stops : (most : ℕ) (s : State) → due (at Stops s) ≤ s.queued → (move : Move) × IsOwn move × IsAt most move Stops (at Stops s)
stops most s b = elim (zero_or s.present) [
  | inl z ↦ (Close, tt, z)
  | inr p ↦ elim (zero_or s.busy) [
    | inr w ↦ (Send, tt, w)
    | inl w ↦ elim (zero_or s.claiming) [
      | inr c ↦ (Steal, tt, (c, omega (arith, c, b)))
      | inl c ↦ (Leave, tt, omega (arith, p, w, c))
    ]
  ]
]

goes_on : (most : ℕ) (stage : Stage) (s : State) → s.word.over ≡ is_over stage → due (at stage s) ≤ s.queued →
    s.ready ≤ s.left → (stage ≡ Ended → ⊥) → (move : Move) × IsOwn move × IsAt most move stage (at stage s)
goes_on most Decides s e b fit n = decides most s e b fit
goes_on most Gave s e b fit n = (Keep, tt, tt)
goes_on most Hires s e b fit n = (Start, tt, tt)
goes_on most Claims s e b fit n = (Pick_up, tt, omega (arith, b))
goes_on most Advances s e b fit n = (Hand_in s.ready s.left, tt, (omega arith, fit))
goes_on most Stops s e b fit n = stops most s b
goes_on most Ended s e b fit n = absurd (n refl)

pub stuck : (most workers ready left : ℕ) (moves : List Move) (s : State) → ready ≤ left →
    Leads most moves (opening workers ready left) s → (s.stage ≡ Ended → ⊥) →
    (move : Move) × IsOwn move × CanMove most move s
stuck most workers ready left moves s fit l n =
    goes_on most s.stage s (all_are_told most workers ready left moves s l) (stock most workers ready left moves s l)
    (all_fit most workers ready left moves s fit l) n
