-- What holds at first and is kept by each move holds after each run.
use Rattle.std.proofs.Common.{◌≡◌, ℕ, zero, suc, ◌<◌, ◌⊎◌, inl, inr, List, [], ◌∷◌, refl, subst, arith}
use Rattle.redo_crew.specs.Runs.{Stage, State, Move, IsAt, CanMove, Leads, moved}
use Rattle.redo_crew.specs.Runs.Stage.{Decides, Gave, Hires, Claims, Advances, Stops, Ended}
use Rattle.redo_crew.specs.Runs.Move.{Send}

-- the state with this stage in place of its own; at its own stage it is the state itself
abbrev pub at : Stage → State → State
at stage s = record s { stage = stage }

pub along : (most : ℕ) (P : State → Type 0) → ((move : Move) (s : State) → CanMove most move s → P s → P (moved move s)) →
    (moves : List Move) (s t : State) → Leads most moves s t → P s → P t
along most P step [] s t l p = subst P l p
along most P step (move ∷ moves) s t l p = along most P step moves (moved move s) t l.1 (step move s l.0 p)

-- whoever sends a piece is at a job
pub is_at_job : (most : ℕ) (stage : Stage) (s : State) → IsAt most Send stage s → 0 < s.busy
is_at_job most Decides s h = h
is_at_job most Gave s h = h
is_at_job most Hires s h = h
is_at_job most Claims s h = h
is_at_job most Advances s h = h
is_at_job most Stops s h = h
is_at_job most Ended s h = absurd h

pub zero_or : (n : ℕ) → (n ≡ 0) ⊎ (0 < n)
zero_or zero = inl refl
zero_or (suc n) = inr (omega arith)
