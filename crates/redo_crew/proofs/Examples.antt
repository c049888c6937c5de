-- Worked runs of the machine.
use Rattle.std.proofs.Common.{◌≡◌, ℕ, ◌<◌, true, [], ◌∷◌, refl, arith}
use Rattle.redo_crew.specs.Runs.{State, CanMove, Leads, cost, opening}
use Rattle.redo_crew.specs.Runs.Stage.{Ended}
use Rattle.redo_crew.specs.Runs.Move.{Give, Call, Hire, Start, Claim, Pick_up, Hand_in, Receive, Stop, Break, Close, Take, Steal, Send, Return, Rest, Wake, Leave}

-- nobody is left; so many workers looked for a job and were at one when the run was over, and so many pieces are left
abbrev at_end : ℕ → ℕ → ℕ → State
at_end looking holding pieces = record {
  stage = Ended;
  word = record { waiting = 0; looking = looking; asleep = 0; calls = 0; holding = holding; unborn = 0; over = true };
  present = 0;
  claiming = 0;
  busy = 0;
  back = holding;
  queued = 0;
  pieces = pieces;
  ready = 0;
  left = 0;
}

abbrev one : 0 < 1
one = omega arith

-- One worker and two jobs. The worker advances the first and goes to sleep. It is called for the second, but the owner
-- is faster.
two_jobs : Leads 2
    (Give 1 ∷ Hire ∷ Start ∷ Take ∷ Steal ∷ Send ∷ Return ∷ Rest ∷ Receive 1 1 ∷ Give 0 ∷ Call ∷ Wake ∷ Claim ∷ Pick_up
    ∷ Hand_in 0 0 ∷ Stop ∷ Leave ∷ Close ∷ [])
    (opening 1 1 2) (at_end 1 0 0)
two_jobs = (
  (one, omega arith, omega arith),
  (
    (omega arith, (refl, (omega arith, omega arith, refl, one))),
    (
      tt,
      (
        (refl, (one, one)),
        (
          (one, one),
          (
            one,
            (
              (one, (refl, one)),
              (
                (refl, (refl, one)),
                (
                  (one, omega arith, omega arith),
                  (
                    (one, one, omega arith),
                    (
                      (omega arith, (refl, (omega arith, omega arith, one))),
                      (
                        (refl, one),
                        (
                          (refl, one),
                          (
                            one,
                            ((omega arith, omega arith), ((refl, refl), (one, (refl, refl)))),
                          ),
                        ),
                      ),
                    ),
                  ),
                ),
              ),
            ),
          ),
        ),
      ),
    ),
  ),
)

-- that run has 18 moves; none of its opening has more than 21
what_two_jobs_cost : cost (opening 1 1 2) ≡ 21
what_two_jobs_cost = refl

-- The board breaks while a worker has the right to a job: it takes the job, sends a piece that nobody receives, and ends.
broken_off : Leads 2 (Give 0 ∷ Hire ∷ Start ∷ Take ∷ Break ∷ Steal ∷ Send ∷ Leave ∷ Close ∷ []) (opening 1 1 1)
    (at_end 0 1 1)
broken_off = (
  (one, one, omega arith),
  (
    (omega arith, (refl, (omega arith, omega arith, refl, one))),
    (
      tt,
      (
        (refl, (one, one)),
        (
          tt,
          ((one, one), (one, (one, (refl, refl)))),
        ),
      ),
    ),
  ),
)

-- nobody goes to sleep beside a job that waits
no_rest_beside_a_job : (most : ℕ) (s : State) → 0 < s.word.waiting → CanMove most Rest s → ⊥
no_rest_beside_a_job most s waits h = let none = h.1.0 in absurd (omega (arith, waits, none))
