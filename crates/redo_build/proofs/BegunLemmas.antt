-- The targets that are taken at turn 0 are those that have a rule and are begun.
use Rattle.std.proofs.Common.{◌≡◌, ℕ, ◌<◌, ◌≤◌, ◌↔◌, true, false, ◌⊎◌, inl, inr, List, [], ◌∷◌, length, Some}
use Rattle.std.proofs.Common.{None, sym, ap, subst, ◌∙◌, arith, zero, suc}
use Rattle.std.proofs.lemmas.Bool.{cases_lt, both_ways}
use Rattle.redo_record.specs.Paths.{IsAmong}
use Rattle.redo_record.specs.declared.deps.Dep.{Dep}
use Rattle.redo_record.specs.declared.outcome.Outcome.{Outcome}
use Rattle.redo_build.specs.Rules.{Rules, AreLawful, operands}
use Rattle.redo_build.specs.Outcomes.{needed_at, requested_targets, outcome_at}
use Rattle.redo_build.specs.Schedule.{Entry, State, Event, paths_of, entry_of, outcomes_of, happens, AllOpen, IsQuiet}
use Rattle.redo_build.specs.Schedule.{opening, run, only}
use Rattle.redo_build.specs.Looking.{NoneDue}
use Rattle.redo_build.specs.Takes.{takes, IsTaken}
use Rattle.redo_build.specs.Theorems.{ShowsBuild}
use Rattle.redo_build.specs.inside.Turns.{deps_at_turn, begins_at}
use Rattle.redo_build.specs.inside.Standing.{AreStanding, decided_count, rounds}
use Rattle.redo_build.proofs.DepthLemmas.{cases_Option}
use Rattle.redo_build.proofs.SeenLemmas.{entry_of-path, entry_of-among, among-entry_of, entry_of-entered_cases}
use Rattle.redo_build.proofs.SeenLemmas.{decided_count-length, length-paths, nowhere}
use Rattle.redo_build.proofs.TurnLemmas.{only-Extends}
use Rattle.redo_build.proofs.SoundLemmas.{IsSound, opening-sound, run-sound, happens-sound, nothing-standing}
use Rattle.redo_build.proofs.QuietLemmas.{none-out, shows, never-due}
use Rattle.redo_build.proofs.StartedLemmas.{IsStarted, IsStartedAt, AreRuled, decided-begins, new-started, new-ruled}
use Rattle.redo_build.proofs.StartedLemmas.{event-on, event-from, event-ruled, taken-ruled}
use Rattle.redo_build.proofs.OnceLemmas.{taken-cases, cases-taken}

module _ (r : Rules) (lawful : AreLawful r) where
  module _ (request : List (List ℕ)) where
    -- what is begun in the end was begun before or is taken at turn 0 on the way, and the other way round
    pub started-from : (events : List Event) (s : State) → IsSound r request s → AllOpen r s events → (p : List ℕ) →
        r.has_rule p ≡ true →
        IsStartedAt r (run r events s).entries p → IsStartedAt r s.entries p ⊎ IsTaken (takes r events s) p 0
    started-from [] s sound open' p ruled h = inl h
    started-from (event ∷ events) s sound open' p ruled h =
        let next = happens-sound r lawful request s event sound open'.0 in
        elim (started-from events (happens r s event) next open'.1 p ruled h) [
          | inl here ↦ elim (event-from r lawful request s sound event open'.0 p ruled here) [
            | inl before ↦ inl before
            | inr now ↦ inr (cases-taken r event events s p 0 (inl now))
          ]
          | inr later ↦ inr (cases-taken r event events s p 0 (inr later))
        ]

    pub started-to : (events : List Event) (s : State) → IsSound r request s → AllOpen r s events → (p : List ℕ) →
        IsStartedAt r s.entries p ⊎ IsTaken (takes r events s) p 0 → IsStartedAt r (run r events s).entries p
    started-to [] s sound open' p h = elim h [ inl here ↦ here | inr none ↦ absurd none ]
    started-to (event ∷ events) s sound open' p h =
        let next = happens-sound r lawful request s event sound open'.0 in
        let on = event-on r lawful request s sound event open'.0 p in
        started-to events (happens r s event) next open'.1 p (elim h [
          | inl before ↦ inl (on (inl before))
          | inr m ↦ elim (taken-cases r event events s p 0 m) [ inl now ↦ inl (on (inr now)) | inr later ↦ inr later ]
        ])

    -- what is taken has a rule
    takes-ruled : (events : List Event) (s : State) → IsSound r request s → AllOpen r s events → AreRuled r s.entries →
        (p : List ℕ) (turn : ℕ) → IsTaken (takes r events s) p turn → r.has_rule p ≡ true
    takes-ruled [] s sound open' ruled p turn m = absurd m
    takes-ruled (event ∷ events) s sound open' ruled p turn m = elim (taken-cases r event events s p turn m) [
      | inl now ↦ taken-ruled r lawful request s sound event open'.0 ruled p turn now
      | inr later ↦ takes-ruled events (happens r s event) (happens-sound r lawful request s event sound open'.0) open'.1
          (event-ruled r lawful request s sound event open'.0 ruled) p turn later
    ]

    -- at the opening nothing with a rule was begun
    opening-started : (p : List ℕ) → r.has_rule p ≡ true → IsStartedAt r (opening r request).entries p → ⊥
    opening-started p ruled h = elim (entry_of-entered_cases r [] (requested_targets r request) p h.0 h.1) [
      | inl old ↦ absurd (nowhere h.0 old)
      | inr new ↦
          let R : Entry → Type 0 = λ x. IsStarted r (opening r request).entries x in
          new-started r lawful request [] empty-standing (opening r request).entries p ruled (subst R new.1 h.2)
    ]
      where
        empty-standing : AreStanding r request []
        empty-standing = nothing-standing r lawful request

    opening-ruled : AreRuled r (opening r request).entries
    opening-ruled p e at none = elim (entry_of-entered_cases r [] (requested_targets r request) p e at) [
      | inl old ↦ absurd (nowhere e old)
      | inr new ↦ new-ruled r lawful p (ap (λ (y : Entry). y.outcome) (sym new.1) ∙ none)
    ]

    module _ (events : List Event) (all_open : AllOpen r (opening r request) events)
        (quiet : IsQuiet (run r events (opening r request))) (looked : NoneDue r (run r events (opening r request)))
        (limit : ℕ) (few : length (run r events (opening r request)).entries ≤ limit) where
      abbrev end : State
      end = run r events (opening r request)

      sound-end : IsSound r request end
      sound-end = run-sound r lawful request (opening r request) events (opening-sound r lawful request) all_open

      shown : ShowsBuild r request limit end
      shown = shows r lawful request end sound-end limit quiet looked few

      small : decided_count end.entries ≤ limit
      small = omega (arith, few, decided_count-length end.entries, length-paths end.entries)

      -- what was begun, is begun in the end
      started-begins : (p : List ℕ) → IsStartedAt r end.entries p → r.begins p (outcome_at r limit) ≡ true
      started-begins p h =
          let path = entry_of-path end.entries p h.0 h.1 in
          let among = entry_of-among end.entries p h.0 h.1 in
          let At : List ℕ → Type 0 = λ x. r.begins x (outcome_at r limit) ≡ true in
          elim h.2 [
            | inl out ↦ absurd (both_ways _ (none-out end.entries p h.0 h.1 quiet.1) out)
            | inr rest ↦ elim rest [
              | inl later ↦
                  let way = sound-end.standing.under_way p h.0 h.1 later.1 in
                  let here : r.begins h.0.path (outcomes_of end.entries) ≡ true =
                  lawful.begins_stays h.0.path _ (outcomes_of end.entries)
                  (only-Extends r (operands r (deps_at_turn r h.0.path (outcomes_of end.entries) h.0.looks)) _ _
                  (λ x o t k. k)) (way.begun later.0) in
                  let P : List ℕ → Type 0 = λ x. r.begins x (outcomes_of end.entries) ≡ true in
                  sym (shown.begun p among) ∙ subst P path here
              | inr done ↦
                  subst At path
                  (sym (decided-begins r lawful request end.entries sound-end.standing p h.0 h.1 done.0 limit small)
                  ∙ done.1)
            ]
          ]

      -- what waits in its check isn't begun in the end
      in_check-begins : (p : List ℕ) (e : Entry) → entry_of end.entries p ≡ Some e → e.outcome ≡ None → e.turn ≡ 0 →
          r.begins e.path (outcomes_of end.entries) ≡ false
      in_check-begins p e at open' turn =
          let inside = none-out end.entries p e at quiet.1 in
          let Gone : List (List ℕ) → Type 0 = λ xs. IsAmong xs p → ⊥ in
          let way = sound-end.standing.under_way p e at open' in
          let lacks : (q : List ℕ) × IsAmong (operands r e.deps) q × (outcomes_of end.entries q ≡ None) =
          elim (sound-end.others_wait p e at open' (subst Gone (sym quiet.0) (λ m. m)) inside) [
            | inl lack ↦ lack
            | inr due ↦
                absurd (never-due r lawful request end sound-end limit quiet looked p e at open' inside due.0 due.1)
          ] in
          waits-in_check end.entries e e.looks (omega (arith, turn)) way.is way.in_check lacks.0 lacks.1 lacks.2
        where
          waits-in_check : (es : List Entry) (e : Entry) (looks : ℕ) → rounds e ≡ looks → e.deps ≡ deps_at_turn r e.path
              (outcomes_of es) (rounds e) →
              ((k : ℕ) → k < looks → begins_at r e.path (outcomes_of es) k ≡ false) → (q : List ℕ) →
              IsAmong (operands r e.deps) q → outcomes_of es q ≡ None →
              r.begins e.path (outcomes_of es) ≡ false
          waits-in_check es e zero same is in_check q m none = absurd (
              let P : ℕ → Type 0 = λ k. IsAmong (operands r (deps_at_turn r e.path (outcomes_of es) k)) q in
              let Q : List Dep → Type 0 = λ ds. IsAmong (operands r ds) q in
              subst P same (subst Q is m))
          waits-in_check es e (suc k) same is in_check q m none =
              let P : ℕ → Type 0 = λ n. IsAmong (operands r (deps_at_turn r e.path (outcomes_of es) n)) q in
              let Q : List Dep → Type 0 = λ ds. IsAmong (operands r ds) q in
              lawful.begins_waits e.path q (only (operands r (deps_at_turn r e.path (outcomes_of es) k))
              (outcomes_of es)) (outcomes_of es)
              (only-Extends r (operands r (deps_at_turn r e.path (outcomes_of es) k)) (outcomes_of es) (outcomes_of es)
              (λ x o t h. h))
              (subst P same (subst Q is m)) none ∙ in_check k (omega arith)

      begun-exactly : (p : List ℕ) → r.has_rule p ≡ true →
          IsTaken (takes r events (opening r request)) p 0 ↔ (IsAmong (needed_at r request limit) p ×
          (r.begins p (outcome_at r limit) ≡ true))
      begun-exactly p ruled = (
        λ m.
            let h = started-to events (opening r request) (opening-sound r lawful request) all_open p (inr m) in
            ((shown.members p).0 (entry_of-among end.entries p h.0 h.1), started-begins p h),
        λ both.
            let at = among-entry_of end.entries p ((shown.members p).1 both.0) in
            let path = entry_of-path end.entries p at.0 at.1 in
            let started : IsStarted r end.entries at.0 = elim (cases_Option at.0.outcome) [
              | inl open' ↦ elim (cases_lt 0 at.0.turn) [
                | inl later ↦ inr (inl (later, open'))
                | inr none ↦ absurd (
                    let P : List ℕ → Type 0 = λ x. r.begins x (outcomes_of end.entries) ≡ false in
                    both_ways _ (sym (shown.begun p ((shown.members p).1 both.0))
                    ∙ subst P path (in_check-begins p at.0 at.1 open' (omega arith))) both.1)
              ]
              | inr some ↦
                  let done : at.0.outcome ≡ None → ⊥ = λ none. no_none some.0 (sym some.1 ∙ none) in
                  let P : List ℕ → Type 0 = λ x. r.begins x (outcome_at r limit) ≡ true in
                  let stays = decided-begins r lawful request end.entries sound-end.standing p at.0 at.1 done limit small in
                  inr (inr (done, stays ∙ subst P (sym path) both.1))
            ] in
            elim (started-from events (opening r request) (opening-sound r lawful request) all_open p ruled
            (at.0, at.1, started)) [
              | inl before ↦ absurd (opening-started p ruled before)
              | inr m ↦ m
            ],
      )
        where
          no_none : (v : Outcome) → Some v ≡ None → ⊥
          no_none v h = cc

      pub begun-needed : (p : List ℕ) → IsTaken (takes r events (opening r request)) p 0 ↔
          (IsAmong (needed_at r request limit) p × (r.has_rule p ≡ true) × (r.begins p (outcome_at r limit) ≡ true))
      begun-needed p = (
        λ m.
            let ruled = takes-ruled events (opening r request) (opening-sound r lawful request) all_open
            opening-ruled p 0 m in
            let both = (begun-exactly p ruled).0 m in
            (both.0, ruled, both.1),
        λ all. (begun-exactly p all.1).1 (all.0, all.2),
      )

    module _ (events : List Event) (all_open : AllOpen r (opening r request) events)
        (quiet : IsQuiet (run r events (opening r request)))
        (looked : NoneDue r (run r events (opening r request))) where
      -- the same of the targets that were seen
      pub begun-seen : (p : List ℕ) → IsTaken (takes r events (opening r request)) p 0 ↔
          (IsAmong (paths_of (run r events (opening r request)).entries) p × (r.has_rule p ≡ true) ×
          (r.begins p (outcomes_of (run r events (opening r request)).entries) ≡ true))
      begun-seen p =
          let size = length (run r events (opening r request)).entries in
          let shown' = shown events all_open quiet looked size (omega arith) in
          let needed = begun-needed events all_open quiet looked size (omega arith) p in (
            λ m.
                let all = needed.0 m in
                let seen = (shown'.members p).1 all.0 in
                (seen, all.1, shown'.begun p seen ∙ all.2),
            λ all. needed.1 ((shown'.members p).0 all.0, all.1, sym (shown'.begun p all.0) ∙ all.2),
          )
