-- What a board has taken, one event further, and in the end.
use Rattle.std.proofs.Common.{◌≡◌, ℕ, ◌<◌, cond, is_some, length, List, [], ◌∷◌, ◌++◌, Option, Some, None}
use Rattle.std.proofs.Common.{true, option_and_then, append-nil, refl, sym, ap, subst, ◌∙◌}
use Rattle.std.specs.Prelude.{IsNone}
use Rattle.redo_names.proofs.PathLemmas.{place-among}
use Rattle.redo_record.specs.Paths.{IsAmong}
use Rattle.redo_build.specs.Schedule.{Entry, State, Event, IsOpen, IsQuiet, entry_of, opening, out_count, paths_of}
use Rattle.redo_build.specs.Schedule.{AllOpen, outcomes_of, run}
use Rattle.redo_build.specs.Schedule.Event.{Take, Hand_in}
use Rattle.redo_build.specs.Takes.{takes, place_of, AreBegun, AreCountedOnce, AreOnce, IsTaken}
use Rattle.redo_build.specs.Theorems.{ShowsBuild}
use Rattle.redo_report.specs.Reports.{IsReport}
use Rattle.redo_report.specs.declared.report.Report.{Report}
use Rattle.redo_rules.specs.Build.{GivenView}
use Rattle.redo_rules.proofs.Public.{lawful_for}
use Rattle.redo_core.specs.Taken.{HasTaken}
use Rattle.redo_core.specs.Views.{BoardView, WorkView, IsFirstBoard, IsHandedIn, IsLookedAhead, IsQuietBoard, IsWorkTaken}
use Rattle.redo_core.specs.Views.{after, opened, ready_count, rules_on}
use Rattle.redo_build.specs.Looking.{NoneDue}
use Rattle.redo_build.proofs.SeenLemmas.{entry_of-path}
use Rattle.redo_build.proofs.BegunLemmas.{begun-seen}
use Rattle.redo_build.proofs.CountedLemmas.{once-counted}
use Rattle.redo_build.proofs.LookingLemmas.{looks-lead}
use Rattle.redo_build.proofs.OnceLemmas.{takes-once}
use Rattle.redo_build.proofs.SoundLemmas.{IsSound, opening-sound}
use Rattle.redo_build.proofs.StillLemmas.{AllOpen-behind, run-behind, takes-looks}
use Rattle.redo_build.proofs.LookedLemmas.{shown-none_due}
use Rattle.redo_build.proofs.ReachedLemmas.{reached-more, reached-sound, takes-append}
use Rattle.redo_core.proofs.TakeLemmas.{no_paths, below-length}

-- one more open event adds what it takes
pub taken-more : (b : BoardView) (taken more : List ((List ℕ) × ℕ)) (event : Event) → HasTaken b taken → IsOpen (rules_on b) b.state event →
    takes (rules_on b) (event ∷ []) b.state ≡ more → HasTaken (after b event) (taken ++ more)
taken-more b taken more event had open' one =
    let r = rules_on b in
    let first = opening r b.given.request in
    let events = had.reached.events in
    let there : takes r (event ∷ []) (run r events first) ≡ more = ap (takes r (event ∷ [])) (sym had.reached.ends) ∙ one in
    record {
      reached = reached-more r b.given.request b.state event had.reached open';
      is = ap (λ xs. xs ++ more) had.is ∙ ap (λ xs. takes r events first ++ xs) (sym there) ∙ sym (takes-append r events event first);
    }

pub sound-taken : (b : BoardView) (taken : List ((List ℕ) × ℕ)) → HasTaken b taken → IsSound (rules_on b) b.given.request b.state
sound-taken b taken had = reached-sound (rules_on b) (lawful_for b.given) b.given.request b.state had.reached

-- a take adds its work's target and turn
pub taken-take : (b : BoardView) (taken : List ((List ℕ) × ℕ)) (which : ℕ) (w : WorkView) → HasTaken b taken → which < ready_count b →
    IsWorkTaken b which w → HasTaken (after b (Take which)) (taken ++ (w.target, w.turn) ∷ [])
taken-take b taken which w had below work =
    let r = rules_on b in
    let fed = (sound-taken b taken had).queued.ready_fed w.target (place-among b.state.ready which w.target work.target) in
    let P : Option (List ℕ) → Type 0 = λ p. place_of (option_and_then (entry_of b.state.entries) p) ++ [] ≡ (w.target, w.turn) ∷ [] in
    let Q : Option Entry → Type 0 = λ e. place_of e ++ [] ≡ (w.target, w.turn) ∷ [] in
    let path : fed.0.path ≡ w.target = entry_of-path b.state.entries w.target fed.0 fed.1 in
    let turn : fed.0.turn ≡ w.turn = sym (work.turn fed.0 fed.1).0 in
    let here : place_of (Some fed.0) ++ [] ≡ (w.target, w.turn) ∷ [] = λ i. (path i, turn i) ∷ [] in
    taken-more b taken ((w.target, w.turn) ∷ []) (Take which) had (below-length b.stopped (length b.state.ready) which below)
    (subst P (sym work.target) (subst Q (sym fed.1) here))

-- looking ahead adds nothing
taken-looked : (first next : BoardView) (taken : List ((List ℕ) × ℕ)) → HasTaken first taken → IsLookedAhead first next → HasTaken next taken
taken-looked first next taken had ahead =
    let r = rules_on first in
    let start : State = opening r first.given.request in
    let events = had.reached.events in
    let led = looks-lead r (lawful_for first.given) first.given.request ahead.looked.looks first.state (sound-taken first taken had) in
    let A : State → Type 0 = λ s. AllOpen r s led.looks in
    let G : GivenView → Type 0 = λ g. HasTaken (record { given = g; state = next.state; stopped = next.stopped }) taken in
    let here : G first.given = record {
      reached = record {
        events = events ++ led.looks;
        all_open = AllOpen-behind r events led.looks start had.reached.all_open (subst A had.reached.ends led.all_open);
        ends = ahead.looked.is ∙ led.is ∙ ap (run r led.looks) had.reached.ends ∙ sym (run-behind r events led.looks start);
      };
      is = had.is ∙ sym (takes-looks r events led.looks start led.are_looks);
    } in
    subst G (sym ahead.given) here

-- at the opening nothing was taken
pub taken-opened : (given : GivenView) (b : BoardView) → IsFirstBoard given b → HasTaken b []
taken-opened given b first =
    taken-looked (opened given) b [] (record { reached = record { events = []; all_open = tt; ends = refl }; is = refl }) first

-- what is handed in adds nothing
pub taken-hand_in : (b next : BoardView) (taken : List ((List ℕ) × ℕ)) (target : List ℕ) (turn : ℕ) → HasTaken b taken →
    IsOpen (rules_on b) b.state (Hand_in target turn) → IsHandedIn b target turn next → HasTaken next taken
taken-hand_in b next taken target turn had open' handed =
    let P : List ((List ℕ) × ℕ) → Type 0 = HasTaken (after b (Hand_in target turn)) in
    taken-looked (after b (Hand_in target turn)) next taken
    (subst P (append-nil taken) (taken-more b taken [] (Hand_in target turn) had open' refl)) handed

pub taken-once : (b : BoardView) (taken : List ((List ℕ) × ℕ)) → HasTaken b taken → AreOnce taken
taken-once b taken had =
    let r = rules_on b in
    let lawful = lawful_for b.given in
    let P : List ((List ℕ) × ℕ) → Type 0 = AreOnce in
    subst P (sym had.is) (takes-once r lawful b.given.request had.reached.events (opening r b.given.request) (opening-sound r lawful b.given.request) had.reached.all_open)

pub taken-counted : (b : BoardView) (taken : List ((List ℕ) × ℕ)) → HasTaken b taken → AreCountedOnce taken
taken-counted b taken had = once-counted taken (taken-once b taken had)

on-board : {A : Type 0} (stopped : Option A) (n : ℕ) → IsNone stopped → cond (is_some stopped) 0 n ≡ 0 → n ≡ 0
on-board None n on h = h
on-board (Some stop) n on h = cc

-- once a board is quiet, what was taken at turn 0 is what its report says was begun
pub taken-begun : (b : BoardView) (taken : List ((List ℕ) × ℕ)) (report : Report) → HasTaken b taken → IsQuietBoard b →
    ShowsBuild (rules_on b) b.given.request b.given.limits.targets b.state →
    IsReport (rules_on b) b.given.request b.given.limits.targets report → AreBegun taken report.begun.items
taken-begun b taken report had quiet shown told p =
    let r = rules_on b in
    let first = opening r b.given.request in
    let events = had.reached.events in
    let Q : State → Type 0 = IsQuiet in
    let still : IsQuiet b.state = (
      no_paths b.state.ready (on-board b.stopped (length b.state.ready) quiet.0 quiet.1),
      on-board b.stopped (out_count b.state) quiet.0 quiet.2,
    ) in
    let D : State → Type 0 = NoneDue r in
    let none = shown-none_due r (lawful_for b.given) b.given.request b.given.limits.targets b.state (sound-taken b taken had) shown in
    let seen = begun-seen r (lawful_for b.given) b.given.request events had.reached.all_open (subst Q had.reached.ends still)
    (subst D had.reached.ends none) p in
    let M : List ((List ℕ) × ℕ) → Type 0 = λ xs. IsTaken xs p 0 in
    let S : State → Type 0 = λ s. IsAmong (paths_of s.entries) p in
    let B : State → Type 0 = λ s. r.begins p (outcomes_of s.entries) ≡ true in (
      λ m.
          let both = seen.0 (subst M had.is m) in
          let member = subst S (sym had.reached.ends) both.0 in
          (told.begun p).1 ((shown.members p).0 member, both.1, sym (shown.begun p member) ∙ subst B (sym had.reached.ends) both.2),
      λ listed.
          let both = (told.begun p).0 listed in
          let member = (shown.members p).1 both.0 in
          subst M (sym had.is)
          (seen.1 (subst S had.reached.ends member, both.1, subst B had.reached.ends (shown.begun p member ∙ both.2))),
    )
