-- Which scripts were begun, and that an event begins none but what it takes at turn 0.
use Rattle.std.proofs.Common.{◌≡◌, ℕ, ◌<◌, ◌≤◌, true, false, ◌⊎◌, inl, inr, List, [], Some, None}
use Rattle.std.proofs.Common.{refl, sym, ap, subst, ◌∙◌, arith}
use Rattle.std.proofs.lemmas.Bool.{cases_Bool, cases_lt, both_ways}
use Rattle.redo_record.specs.Progress.{Progress}
use Rattle.redo_record.specs.declared.deps.Dep.{Dep}
use Rattle.redo_record.specs.declared.outcome.Outcome.{Outcome}
use Rattle.redo_build.specs.Rules.{Rules, AreLawful, operands, Ask, Extends}
use Rattle.redo_build.specs.Outcomes.{outcome_at}
use Rattle.redo_build.specs.Schedule.{Entry, State, Event, Phase, entry_of, outcomes_of, new_entry, entered, put, sent_out}
use Rattle.redo_build.specs.Schedule.{advanced, moved_on, happens, IsOpen, only, known_to, nothing_known}
use Rattle.redo_build.specs.Schedule.Event.{Take, Hand_in, Look}
use Rattle.redo_build.specs.Schedule.Phase.{Check, Script}
use Rattle.redo_build.specs.Takes.{IsTaken}
use Rattle.redo_build.specs.inside.Standing.{AreStanding, decided_count, rounds}
use Rattle.redo_build.proofs.DepthLemmas.{cases_Option, operand-target, deeper}
use Rattle.redo_build.proofs.SeenLemmas.{entry_of-entered_old, decided_count-put, decided_count-entered, put-new}
use Rattle.redo_build.proofs.SeenLemmas.{replaced-from, replaced-cases}
use Rattle.redo_build.proofs.TurnLemmas.{only-Extends, begun-later}
use Rattle.redo_build.proofs.StandingLemmas.{outcomes_of-deep}
use Rattle.redo_build.proofs.SoundLemmas.{IsSound, IsTakeOf, GoesOn, take-of, hand-of, look-of, taken_by}

-- the script of an entry was begun: its job is out, or it stopped before, or the target was decided by it
abbrev pub IsStarted : Rules → List Entry → Entry → Type 0
IsStarted r es e =
    (e.is_out ≡ true) ⊎ (((0 < e.turn) × (e.outcome ≡ None)) ⊎
    ((e.outcome ≡ None → ⊥) × (r.begins e.path (outcome_at r (decided_count es)) ≡ true)))

abbrev pub IsStartedAt : Rules → List Entry → List ℕ → Type 0
IsStartedAt r es p = (e : Entry) × (entry_of es p ≡ Some e) × IsStarted r es e

-- what isn't decided has a rule
abbrev pub AreRuled : Rules → List Entry → Type 0
AreRuled r es = (p : List ℕ) (e : Entry) → entry_of es p ≡ Some e → e.outcome ≡ None → r.has_rule p ≡ true

module _ (r : Rules) (lawful : AreLawful r) where
  -- what ended is begun or not whatever more is known
  begins-ended : (p : List ℕ) (a b : Ask) (o : Outcome) → Extends r a b → (r.progress p a).outcome ≡ Some o →
      r.begins p a ≡ r.begins p b
  begins-ended p a b o more ended = lawful.begins_local p a b (λ q m. elim (cases_Option (a q)) [
    | inl none ↦ absurd ((lawful.each p).answered q a o ended m none)
    | inr some ↦ some.1 ∙ sym (more q some.0 (operand-target r lawful (r.progress p a).deps q m) some.1)
  ])

  pub new-ruled : (p : List ℕ) → (new_entry r p).outcome ≡ None → r.has_rule p ≡ true
  new-ruled p none = elim (cases_Bool (r.has_rule p)) [
    | inl t ↦ t
    | inr f ↦ absurd ((lawful.unruled p nothing_known f).1 (rw f at none))
  ]

  module _ (request : List (List ℕ)) (es : List Entry) (standing : AreStanding r request es) where
    -- of a decided entry it is known for good whether it was begun
    pub decided-begins : (p : List ℕ) (x : Entry) → entry_of es p ≡ Some x → (x.outcome ≡ None → ⊥) → (m : ℕ) →
        decided_count es ≤ m →
        r.begins x.path (outcome_at r (decided_count es)) ≡ r.begins x.path (outcome_at r m)
    decided-begins p x at done m more = elim (cases_Option x.outcome) [
      | inl none ↦ absurd (done none)
      | inr some ↦
          let how = standing.decided p x some.0 at some.1 in
          let ended : (r.progress x.path (outcome_at r how.0)).outcome ≡ Some some.0 =
          ap (λ (y : Progress). y.outcome) how.2 in
          sym (begins-ended x.path (outcome_at r how.0) (outcome_at r (decided_count es)) some.0
          (deeper r lawful how.0 (decided_count es) (omega (arith, how.1))) ended)
          ∙ begins-ended x.path (outcome_at r how.0) (outcome_at r m) some.0
          (deeper r lawful how.0 m (omega (arith, how.1, more))) ended
    ]

    -- an entry that stays as it is stays begun or not
    same-started : (fs : List Entry) → decided_count es ≤ decided_count fs → (p : List ℕ) (x : Entry) →
        entry_of es p ≡ Some x →
        (IsStarted r es x → IsStarted r fs x) × (IsStarted r fs x → IsStarted r es x)
    same-started fs more p x at = (
      λ h. elim h [
        | inl out ↦ inl out
        | inr rest ↦ elim rest [
          | inl later ↦ inr (inl later)
          | inr done ↦ inr (inr (done.0, sym (decided-begins p x at done.0 (decided_count fs) more) ∙ done.1))
        ]
      ],
      λ h. elim h [
        | inl out ↦ inl out
        | inr rest ↦ elim rest [
          | inl later ↦ inr (inl later)
          | inr done ↦ inr (inr (done.0, decided-begins p x at done.0 (decided_count fs) more ∙ done.1))
        ]
      ],
    )

    -- an entry that is new and has a rule wasn't begun
    pub new-started : (fs : List Entry) (p : List ℕ) → r.has_rule p ≡ true → IsStarted r fs (new_entry r p) → ⊥
    new-started fs p ruled h =
        let out : (new_entry r p).is_out ≡ false = rw ruled refl in
        let turn : (new_entry r p).turn ≡ 0 = rw ruled refl in
        let none : (new_entry r p).outcome ≡ None = rw ruled refl in
        elim h [
          | inl is_out ↦ both_ways _ out is_out
          | inr rest ↦ elim rest [
            | inl later ↦ absurd (let above = later.0 in omega (arith, turn, above))
            | inr done ↦ done.0 none
          ]
        ]

    -- one entry is replaced, and others are entered
    module _ (more : List (List ℕ)) (new old : Entry) (at : entry_of es new.path ≡ Some old)
        (open' : old.outcome ≡ None) where
      abbrev replaced : List Entry
      replaced = put (entered r es more) new

      count : decided_count es ≤ decided_count replaced
      count =
          let wide = decided_count-entered r es more in
          let there = entry_of-entered_old r es more new.path old at in
          let moved = decided_count-put (entered r es more) new old there open' in
          omega (arith, wide, moved)

      goes_on : (IsStarted r es old → IsStarted r replaced new) → (p : List ℕ) → IsStartedAt r es p →
          IsStartedAt r replaced p
      goes_on how p h = elim (replaced-from r es more new old at p h.0 h.1) [
        | inl here ↦ let R : Entry → Type 0 = λ x. IsStarted r es x in (new, here.2, how (subst R here.0 h.2))
        | inr other ↦ (h.0, other.1, (same-started replaced count p h.0 h.1).0 h.2)
      ]

      comes_from : (X : Type 0) → (IsStarted r replaced new → IsStarted r es old ⊎ X) → (p : List ℕ) →
          r.has_rule p ≡ true →
          IsStartedAt r replaced p → IsStartedAt r es p ⊎ ((new.path ≡ p) × X)
      comes_from X how p ruled h =
          let R : Entry → Type 0 = λ x. IsStarted r replaced x in
          elim (replaced-cases r es more new old at p h.0 h.1) [
            | inl here ↦
                let Q : List ℕ → Type 0 = λ x. entry_of es x ≡ Some old in
                elim (how (subst R here.1 h.2)) [
                  | inl before ↦ inl (old, subst Q here.0 at, before)
                  | inr x ↦ inr (here.0, x)
                ]
            | inr other ↦ elim other.1 [
              | inl before ↦ inl (h.0, before, (same-started replaced count p h.0 before).1 h.2)
              | inr fresh ↦ absurd (new-started replaced p ruled (subst R fresh h.2))
            ]
          ]

      keeps-ruled : AreRuled r es → AreRuled r replaced
      keeps-ruled ruled p x h none = elim (replaced-cases r es more new old at p x h) [
        | inl here ↦ let P : List ℕ → Type 0 = λ y. r.has_rule y ≡ true in subst P here.0 (ruled new.path old at open')
        | inr other ↦ elim other.1 [
          | inl before ↦ ruled p x before none
          | inr fresh ↦ new-ruled p (ap (λ (y : Entry). y.outcome) (sym fresh) ∙ none)
        ]
      ]

  module _ (request : List (List ℕ)) (s : State) (sound : IsSound r request s) where
    -- what an entry asks for once it was advanced, the entry then, and all of them
    abbrev asks : Entry → List (List ℕ)
    asks e = operands r (advanced r s.entries e).deps

    abbrev moved : Phase → Entry → Entry
    moved phase e = moved_on phase e (advanced r s.entries e)

    abbrev after : Phase → Entry → List Entry
    after phase e = put (entered r s.entries (asks e)) (moved phase e)

    -- the answers that an entry may know are those of the build
    known-deep : (e : Entry) (m : ℕ) → decided_count s.entries ≤ m → Extends r (known_to r s.entries e) (outcome_at r m)
    known-deep e m h = λ q o t k. deeper r lawful (decided_count s.entries) m h q o t
        (only-Extends r (operands r e.deps) (outcomes_of s.entries) (outcome_at r (decided_count s.entries))
        (outcomes_of-deep r lawful request s.entries sound.standing) q o t k)

    -- a take begins what is taken at turn 0
    module _ (which : ℕ) (of : IsTakeOf r lawful request s which) (p : List ℕ) where
      take-on : IsStartedAt r s.entries p ⊎ IsTaken (taken_by s (Take which)) p 0 →
          IsStartedAt r (happens r s (Take which)).entries p
      take-on h =
          let S : State → Type 0 = λ t. IsStartedAt r t.entries p in
          let M : List ((List ℕ) × ℕ) → Type 0 = λ xs. IsTaken xs p 0 in
          let P : List ℕ → Type 0 = λ x. entry_of (put s.entries (sent_out of.entry)) x ≡ Some (sent_out of.entry) in
          subst S (sym of.is) (elim h [
            | inl before ↦ goes_on request s.entries sound.standing [] (sent_out of.entry) of.entry of.at of.open_yet
                (λ _. inl refl) p before
            | inr now ↦ elim (subst M of.place now) [
              | inl here ↦ (sent_out of.entry, subst P here.0 (put-new s.entries (sent_out of.entry) of.entry of.at), inl refl)
              | inr none ↦ absurd none
            ]
          ])

      take-from : r.has_rule p ≡ true → IsStartedAt r (happens r s (Take which)).entries p →
          IsStartedAt r s.entries p ⊎ IsTaken (taken_by s (Take which)) p 0
      take-from ruled h =
          let X : Type 0 = of.entry.turn ≡ 0 in
          let S : State → Type 0 = λ t. IsStartedAt r t.entries p in
          let M : List ((List ℕ) × ℕ) → Type 0 = λ xs. IsTaken xs p 0 in
          elim (comes_from request s.entries sound.standing [] (sent_out of.entry) of.entry of.at of.open_yet X
          (λ _. elim (cases_lt 0 of.entry.turn) [
            | inl later ↦ inl (inr (inl (later, of.open_yet)))
            | inr now ↦ inr (omega arith)
          ]) p ruled (subst S of.is h)) [
            | inl before ↦ inl before
            | inr now ↦ inr (subst M (sym of.place) (inl now))
          ]

    going-count : (event : Event) (phase : Phase) (of : GoesOn r lawful request s event phase) →
        decided_count s.entries ≤ decided_count (after phase of.entry)
    going-count event phase of =
        count request s.entries sound.standing (asks of.entry) (moved phase of.entry) of.entry of.at of.parts.0

    -- a script that goes on was begun, and a check begins none
    going-same : (event : Event) (phase : Phase) (of : GoesOn r lawful request s event phase) →
        (IsStarted r s.entries of.entry → IsStarted r (after phase of.entry) (moved phase of.entry)) ×
        (IsStarted r (after phase of.entry) (moved phase of.entry) → IsStarted r s.entries of.entry)
    going-same event Script of = (λ _. started, λ _. inl of.out)
      where
        no_none : (v : Outcome) → Some v ≡ None → ⊥
        no_none v h = cc

        started : IsStarted r (after Script of.entry) (moved Script of.entry)
        started = elim (cases_Option (advanced r s.entries of.entry).outcome) [
          | inl none ↦ inr (inl (rw none (omega arith), none))
          | inr some ↦ inr (inr (
            (λ bad. no_none some.0 (sym some.1 ∙ bad)),
            lawful.begins_stays of.entry.path (known_to r s.entries of.entry) _
                (known-deep of.entry _ (going-count event Script of)) of.begins,
          ))
        ]
    going-same event Check of = (λ h. absurd (not-before h), λ h. absurd (not-after h))
      where
        in-check : 0 < of.entry.turn → ⊥
        in-check later =
            let way = sound.standing.under_way of.entry.path of.entry of.at of.parts.0 in
            let begun = begun-later r lawful of.entry.path (outcomes_of s.entries) of.entry.looks
            (rounds of.entry) (omega arith) way.came (way.begun later) in
            let P : List Dep → Type 0 = λ ds. r.begins of.entry.path (only (operands r ds) (outcomes_of s.entries)) ≡ true in
            both_ways _ of.begins (subst P (sym way.is) begun)

        not-before : IsStarted r s.entries of.entry → ⊥
        not-before h = elim h [
          | inl out ↦ both_ways _ of.out out
          | inr rest ↦ elim rest [ inl later ↦ in-check later.0 | inr done ↦ done.0 of.parts.0 ]
        ]

        not-after : IsStarted r (after Check of.entry) (moved Check of.entry) → ⊥
        not-after h = elim h [
          | inl out ↦ absurd cc
          | inr rest ↦ elim rest [
            | inl later ↦ in-check later.0
            | inr done ↦ elim (cases_Option (advanced r s.entries of.entry).outcome) [
              | inl none ↦ done.0 none
              | inr some ↦
                  let same = begins-ended of.entry.path (known_to r s.entries of.entry) _ some.0
                  (known-deep of.entry _ (going-count event Check of)) some.1 in
                  both_ways _ (sym same ∙ of.begins) done.1
            ]
          ]
        ]

    module _ (event : Event) (phase : Phase) (of : GoesOn r lawful request s event phase) where
      going-on : (p : List ℕ) → IsStartedAt r s.entries p → IsStartedAt r (happens r s event).entries p
      going-on p h =
          let S : State → Type 0 = λ t. IsStartedAt r t.entries p in
          subst S (sym of.is) (goes_on request s.entries sound.standing (asks of.entry) (moved phase of.entry) of.entry of.at
          of.parts.0 (going-same event phase of).0 p h)

      going-from : (p : List ℕ) → r.has_rule p ≡ true → IsStartedAt r (happens r s event).entries p → IsStartedAt r s.entries p
      going-from p ruled h =
          let S : State → Type 0 = λ t. IsStartedAt r t.entries p in
          elim (comes_from request s.entries sound.standing (asks of.entry) (moved phase of.entry) of.entry of.at
          of.parts.0 ⊥ (λ started. inl ((going-same event phase of).1 started)) p ruled (subst S of.is h)) [
            | inl before ↦ before
            | inr bad ↦ absurd bad.1
          ]

      going-ruled : AreRuled r s.entries → AreRuled r (happens r s event).entries
      going-ruled ruled =
          let P : State → Type 0 = λ t. AreRuled r t.entries in
          subst P (sym of.is) (keeps-ruled request s.entries sound.standing (asks of.entry) (moved phase of.entry) of.entry of.at
          of.parts.0 ruled)

    -- behind an event are begun what was begun before and what it takes at turn 0
    pub event-on : (event : Event) → IsOpen r s event → (p : List ℕ) →
        IsStartedAt r s.entries p ⊎ IsTaken (taken_by s event) p 0 → IsStartedAt r (happens r s event).entries p
    event-on (Take which) open' p h = take-on which (take-of r lawful request s sound which open') p h
    event-on (Hand_in target turn) open' p h = elim h [
      | inl before ↦ going-on (Hand_in target turn) Script (hand-of r lawful request s sound target turn open') p before
      | inr none ↦ absurd none
    ]
    event-on (Look target) open' p h = elim h [
      | inl before ↦ going-on (Look target) Check (look-of r lawful request s target open') p before
      | inr none ↦ absurd none
    ]

    pub event-from : (event : Event) → IsOpen r s event → (p : List ℕ) → r.has_rule p ≡ true →
        IsStartedAt r (happens r s event).entries p → IsStartedAt r s.entries p ⊎ IsTaken (taken_by s event) p 0
    event-from (Take which) open' p ruled h = take-from which (take-of r lawful request s sound which open') p ruled h
    event-from (Hand_in target turn) open' p ruled h =
        inl (going-from (Hand_in target turn) Script (hand-of r lawful request s sound target turn open') p ruled h)
    event-from (Look target) open' p ruled h =
        inl (going-from (Look target) Check (look-of r lawful request s target open') p ruled h)

    -- and what isn't decided still has a rule, as has what is taken
    pub event-ruled : (event : Event) → IsOpen r s event → AreRuled r s.entries → AreRuled r (happens r s event).entries
    event-ruled (Take which) open' ruled =
        let of = take-of r lawful request s sound which open' in
        let P : State → Type 0 = λ t. AreRuled r t.entries in
        subst P (sym of.is) (keeps-ruled request s.entries sound.standing [] (sent_out of.entry) of.entry of.at of.open_yet ruled)
    event-ruled (Hand_in target turn) open' ruled =
        going-ruled (Hand_in target turn) Script (hand-of r lawful request s sound target turn open') ruled
    event-ruled (Look target) open' ruled =
        going-ruled (Look target) Check (look-of r lawful request s target open') ruled

    pub taken-ruled : (event : Event) → IsOpen r s event → AreRuled r s.entries → (p : List ℕ) (turn : ℕ) →
        IsTaken (taken_by s event) p turn → r.has_rule p ≡ true
    taken-ruled (Take which) open' ruled p turn m =
        let of = take-of r lawful request s sound which open' in
        let M : List ((List ℕ) × ℕ) → Type 0 = λ xs. IsTaken xs p turn in
        let P : List ℕ → Type 0 = λ x. r.has_rule x ≡ true in
        elim (subst M of.place m) [
          | inl now ↦ subst P now.0 (ruled of.entry.path of.entry of.at of.open_yet)
          | inr none ↦ absurd none
        ]
    taken-ruled _ open' ruled p turn m = absurd m
