-- What a board's events do to the number of jobs that are out, and to that of those that may still be taken.
use Rattle.std.proofs.Common.{◌≡◌, ℕ, ◌+◌, ◌<◌, ◌≤◌, ◌∙◌, false, List, length, is_some, sym, ap, arith, subst}
use Rattle.redo_names.proofs.PathLemmas.{place-among}
use Rattle.redo_build.specs.Schedule.{State, happens, IsOutAt}
use Rattle.redo_build.specs.Schedule.Event.{Take, Hand_in}
use Rattle.redo_rules.proofs.Public.{lawful_for}
use Rattle.redo_core.specs.inside.Slots.{rules_inside, state_of, IsKept}
use Rattle.redo_build.specs.TakesLeft.{takes_left}
use Rattle.redo_core.specs.Views.{after, jobs_out, BoardView, WorkView, IsWorkTaken}
use Rattle.redo_core.specs.declared.board.Board.TheInside.{Inside}
use Rattle.redo_build.proofs.CountLemmas.{take-out, take-at, take-left, hand_in-out, hand_in-left}
use Rattle.redo_build.specs.Looking.{looked}
use Rattle.redo_build.proofs.SoundLemmas.{IsSound, happens-sound}
use Rattle.redo_build.proofs.StillLemmas.{looked-count}
use Rattle.redo_build.proofs.LookedLemmas.{looked-left, looked-longer}
use Rattle.redo_core.proofs.TakeLemmas.{sound-inside, length-entries, view_of}

module _ (b : Inside) (kept : IsKept b) (on : is_some b.stopped ≡ false) where
  module _ (which : ℕ) (below : which < length (state_of b).ready) (view : BoardView) (is : view_of b ≡ view) where
    pub one_more : jobs_out (after view (Take which)) ≡ jobs_out view + 1
    one_more =
        let P : BoardView → Type 0 = λ v. jobs_out (after v (Take which)) ≡ jobs_out v + 1 in
        subst P is (rw on (take-out (rules_inside b) (lawful_for b.build) b.build.request (state_of b) (sound-inside b kept) which below))

    pub left_less : takes_left view.given.limits.targets (after view (Take which)).state < takes_left view.given.limits.targets view.state
    left_less =
        let P : BoardView → Type 0 = λ v. takes_left v.given.limits.targets (after v (Take which)).state < takes_left v.given.limits.targets v.state in
        subst P is (take-left (rules_inside b) (lawful_for b.build) b.build.request (state_of b) (sound-inside b kept) which b.build.limits.targets below (length-entries b kept))

    pub work_out : (w : WorkView) → IsWorkTaken view which w → IsOutAt (after view (Take which)).state w.target w.turn
    work_out w taken =
        let P : BoardView → Type 0 = λ v. IsWorkTaken v which w → IsOutAt (after v (Take which)).state w.target w.turn in
        (subst P is here) taken
      where
        here : IsWorkTaken (view_of b) which w → IsOutAt (happens (rules_inside b) (state_of b) (Take which)) w.target w.turn
        here is_taken =
            let sound = sound-inside b kept in
            let fed = sound.queued.ready_fed w.target (place-among (state_of b).ready which w.target is_taken.target) in
            let out = take-at (rules_inside b) (lawful_for b.build) b.build.request (state_of b) sound which w.target fed.0 below is_taken.target fed.1 in
            let Q : ℕ → Type 0 = λ n. IsOutAt (happens (rules_inside b) (state_of b) (Take which)) w.target n in
            subst Q (sym (is_taken.turn fed.0 fed.1).0) out

  -- a piece that is handed in, and so many looks behind it
  module _ (target : List ℕ) (turn : ℕ) (out : IsOutAt (state_of b) target turn) (view : BoardView) (is : view_of b ≡ view)
      (looks : ℕ) (new : State)
      (next : new ≡ looked (rules_inside b) looks (happens (rules_inside b) (state_of b) (Hand_in target turn))) where
    abbrev handed : State
    handed = happens (rules_inside b) (state_of b) (Hand_in target turn)

    handed-sound : IsSound (rules_inside b) b.build.request handed
    handed-sound = happens-sound (rules_inside b) (lawful_for b.build) b.build.request (state_of b) (Hand_in target turn) (sound-inside b kept) out

    pub one_fewer : jobs_out (record (view_of b) { state = new }) + 1 ≡ jobs_out view
    one_fewer =
        let P : BoardView → Type 0 = λ v. jobs_out (record (view_of b) { state = new }) + 1 ≡ jobs_out v in
        let same = looked-count (rules_inside b) (lawful_for b.build) b.build.request looks handed handed-sound in
        subst P is (rw (on, next) (ap (λ n. n + 1) same
        ∙ hand_in-out (rules_inside b) (lawful_for b.build) b.build.request (state_of b) (sound-inside b kept) target turn out))

    pub left_no_more : length new.entries ≤ b.build.limits.targets → takes_left b.build.limits.targets new ≤ takes_left view.given.limits.targets view.state
    left_no_more few =
        let limit : ℕ = b.build.limits.targets in
        let r = rules_inside b in
        let P : BoardView → Type 0 = λ v. takes_left limit new ≤ takes_left v.given.limits.targets v.state in
        let Q : State → Type 0 = λ s. length s.entries ≤ limit → takes_left limit s ≤ takes_left limit (state_of b) in
        let whole : Q (looked r looks handed) = λ within.
        let behind = looked-left r (lawful_for b.build) b.build.request limit looks handed handed-sound within in
        let longer = looked-longer r looks handed in
        let before = hand_in-left r (lawful_for b.build) b.build.request (state_of b) (sound-inside b kept) target turn limit out
        (omega (arith, within, longer)) in
        omega (arith, behind, before) in
        subst P is ((subst Q (sym next) whole) few)
