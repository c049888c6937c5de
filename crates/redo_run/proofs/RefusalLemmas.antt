-- Why a board that ran refuses a piece.
use Rattle.std.proofs.Common.{◌≡◌, ℕ, Option, Some, None, refl, subst}
use Rattle.std.specs.Prelude.{IsNone, MatchOption}
use Rattle.redo_core.specs.Faults.{Refused, RefusedRunning, fault_of}
use Rattle.redo_build.specs.Outcomes.{IsTooMany}
use Rattle.redo_build.specs.Schedule.{IsOutAt}
use Rattle.redo_build.specs.Schedule.Event.{Take}
use Rattle.redo_core.specs.Views.{BoardView, PieceView, after, rules_on}
use Rattle.redo_core.specs.declared.board.HandFault.{HandFault}
use Rattle.redo_core.specs.declared.board.HandFault.TheVariants.{Stranger, TooMany}
use Rattle.redo_core.specs.declared.board.Stop.{Stop}

pub running : (o : Option Stop) → IsNone o → o ≡ None
running None h = refl
running (Some stop) h = cc

-- after a take, too many targets are needed where the board says so
pub too_many_after_take : (b old new : BoardView) (which : ℕ) (piece : PieceView) (fault : HandFault) → old ≡ after b (Take which) → IsNone b.stopped →
    Refused old new piece fault → fault ≡ TooMany → IsTooMany (rules_on b) b.given.request b.given.limits.targets
too_many_after_take b old new which piece fault next on refused is =
    let P : BoardView → Type 0 = λ v. Refused v new piece fault in
    let Q : HandFault → Type 0 = λ f. Refused (after b (Take which)) new piece f in
    let R : Option Stop → Type 0 = λ o. MatchOption o (RefusedRunning (after b (Take which)) new piece TooMany) (λ stop. (TooMany ≡ fault_of stop) × (new ≡ after b (Take which))) in
    (subst R (running b.stopped on) (subst Q is (subst P next refused))).2

module _ (b new : BoardView) (piece : PieceView) (on : IsNone b.stopped) where
  refused-running : (fault is : HandFault) → Refused b new piece fault → fault ≡ is → RefusedRunning b new piece is
  refused-running fault is refused same =
      let Q : HandFault → Type 0 = λ f. Refused b new piece f in
      let R : Option Stop → Type 0 = λ o. MatchOption o (RefusedRunning b new piece is) (λ stop. (is ≡ fault_of stop) × (new ≡ b)) in
      subst R (running b.stopped on) (subst Q same refused)

  -- a board that runs says so only where too many targets are needed
  pub too_many_running : (fault : HandFault) → Refused b new piece fault → fault ≡ TooMany → IsTooMany (rules_on b) b.given.request b.given.limits.targets
  too_many_running fault refused same = (refused-running fault TooMany refused same).2

  -- a piece whose target is out at its turn is no stranger
  pub no_stranger : (fault : HandFault) (back : PieceView) → Refused b new piece fault → fault ≡ Stranger back → IsOutAt b.state piece.target piece.turn → ⊥
  no_stranger fault back refused same out = (refused-running fault (Stranger back) refused same).2 out
