-- States that open events reach from the opening.
use Rattle.std.proofs.Common.{◌≡◌, ℕ, List, [], ◌∷◌, ◌++◌, refl, sym, ap, subst, ◌∙◌, append_assoc}
use Rattle.std.proofs.Common.{slice_get, option_and_then}
use Rattle.redo_build.specs.Rules.{Rules, AreLawful}
use Rattle.redo_build.specs.Schedule.{State, Event, IsOpen, IsReached, entry_of, happens, opening, run}
use Rattle.redo_build.specs.Schedule.Event.{Take, Hand_in, Look}
use Rattle.redo_build.specs.Takes.{place_of, takes}
use Rattle.redo_build.proofs.SoundLemmas.{IsSound, opening-sound, run-sound}
use Rattle.redo_build.proofs.StillLemmas.{AllOpen-behind, run-behind}

-- one more open event leads to a state that is reached
abbrev pub reached-more : (r : Rules) (request : List (List ℕ)) (s : State) (event : Event) → IsReached r request s → IsOpen r s event →
    IsReached r request (happens r s event)
reached-more r request s event reached open' = record {
  events = reached.events ++ event ∷ [];
  all_open = AllOpen-behind r reached.events (event ∷ []) (opening r request) reached.all_open
      (let P : State → Type 0 = λ x. IsOpen r x event in (subst P reached.ends open', tt));
  ends = ap (λ x. happens r x event) reached.ends ∙ sym (run-behind r reached.events (event ∷ []) (opening r request));
}

pub reached-sound : (r : Rules) (lawful : AreLawful r) (request : List (List ℕ)) (s : State) → IsReached r request s → IsSound r request s
reached-sound r lawful request s reached =
    let P : State → Type 0 = IsSound r request in
    subst P (sym reached.ends) (run-sound r lawful request (opening r request) reached.events (opening-sound r lawful request) reached.all_open)

-- the takes of one event more
pub takes-append : (r : Rules) (events : List Event) (event : Event) (s : State) →
    takes r (events ++ event ∷ []) s ≡ takes r events s ++ takes r (event ∷ []) (run r events s)
takes-append r [] event s = refl
takes-append r (Take which ∷ events) event s =
    let here = place_of (option_and_then (entry_of s.entries) (slice_get s.ready which)) in
    let next = happens r s (Take which) in
    ap (λ xs. here ++ xs) (takes-append r events event next) ∙ sym (append_assoc here (takes r events next) (takes r (event ∷ []) (run r events next)))
takes-append r (Hand_in target turn ∷ events) event s = takes-append r events event (happens r s (Hand_in target turn))
takes-append r (Look target ∷ events) event s = takes-append r events event (happens r s (Look target))
