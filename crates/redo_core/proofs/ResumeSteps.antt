-- A check that waits gets its answer: it can go on, or the script of its target is begun.
use Rattle.std.proofs.Common.{◌≡◌, ℕ, ◌<◌, Bool, true, false, inl, inr, List, length}
use Rattle.std.proofs.Common.{slice_get, slice_set, Some, None, refl, sym, ap, subst, ◌∙◌, bytes_eq}
use Rattle.std.proofs.lemmas.Bool.{cases_Bool, both_ways}
use Rattle.std.proofs.lemmas.Slice.Eq.{bytes_eq-Decides}
use Rattle.redo_record.specs.declared.deps.Dep.{Dep}
use Rattle.redo_record.specs.Paths.{IsAmong}
use Rattle.redo_sync.specs.Shown.{Shown}
use Rattle.redo_which.specs.Rule.{found_of}
use Rattle.redo_build.specs.Rules.{Ask, Rules, Extends, operands}
use Rattle.redo_build.specs.Outcomes.{outcome_at}
use Rattle.redo_build.specs.Schedule.{Entry, known_to, only, outcomes_of, entry_of}
use Rattle.redo_build.specs.inside.Turns.{IsWork}
use Rattle.redo_build.proofs.DepthLemmas.{cases_Option}
use Rattle.redo_build.proofs.HandoverLemmas.{taken-deep}
use Rattle.redo_build.proofs.TurnLemmas.{only-among}
use Rattle.redo_rules.proofs.Public.{lawful_for}
use Rattle.redo_core.specs.Views.{FactView, WorkView}
use Rattle.redo_core.specs.inside.Checking.{IsBegunBehind, IsDueCheck, IsWaitingCheck}
use Rattle.redo_record.specs.declared.outcome.Outcome.{Outcome}
use Rattle.std.specs.Prelude.{IfOk, Result, Ok, Err}
use Rattle.redo_core.specs.inside.Works.{AddsFact, found_as, told_in}
use Rattle.redo_core.specs.inside.Slots.{outcomes_at_limit, AllAnswered, Fits, IsAnsweredCheck, IsAnsweredAs}
use Rattle.redo_core.specs.inside.Slots.{IsCheckingWith, GainsOne, GoesOnWith, IsDecidedNumber, IsDueWith, IsFactAt}
use Rattle.redo_core.specs.inside.Slots.{IsFallen, IsParked, path_at, rounds_of, is_stage_decided, slot_entry}
use Rattle.redo_core.specs.inside.Slots.{stage_deps, stage_outcome, table_entries, GivenView, rules_for, Awaiting}
use Rattle.redo_core.specs.inside.Slots.{InCheck, Slot, Stage, Checking, Out, Table}
use Rattle.redo_core.specs.declared.check.Check.{Check}
use Rattle.redo_core.specs.declared.facts.Facts.{Facts}
use Rattle.redo_core.proofs.CheckingLemmas.{behind-moves, number-within, waiting-asked}
use Rattle.redo_core.proofs.SlotLemmas.{entry_of-slots}
use Rattle.redo_core.proofs.TableLemmas.{answered-alike}
use Rattle.redo_build.proofs.SoundLemmas.{only-same}
use Rattle.redo_core.proofs.MakeReadySteps.{fact-kept, number-kept}
use Rattle.redo_core.proofs.NumberLemmas.{same-some}

module _ (given : GivenView) (t : Table) (at place : ℕ) (slot : Slot) (awaiting : Awaiting) where
  -- what is answered is this check
  pub answered-here : IsAnsweredCheck given t at place → slice_get t.slots.items at ≡ Some slot → slot.stage ≡ Checking awaiting → IsAnsweredAs given t at place slot awaiting
  answered-here answered there is =
      let same : answered.0 ≡ slot = same-some _ _ _ answered.2.there there in
      let stages : Checking answered.1 ≡ Checking awaiting = sym answered.2.was ∙ ap (λ (y : Slot). y.stage) same ∙ is in
      let check : answered.1 ≡ awaiting = cc in
      let P : Slot → Type 0 = λ y. IsAnsweredAs given t at place y answered.1 in
      let Q : Awaiting → Type 0 = λ y. IsAnsweredAs given t at place slot y in
      subst Q check (subst P same answered.2)

  module _ (answer : IsAnsweredAs given t at place slot awaiting) where
    abbrev r : Rules
    r = rules_for given

    abbrev es : List Entry
    es = table_entries given t

    abbrev a : Ask
    a = outcomes_of (table_entries given t)

    abbrev p : List ℕ
    p = path_at t.targets at

    pub checking : IsCheckingWith (rules_for given) (outcomes_of (table_entries given t)) given (path_at t.targets at) slot.turn awaiting
    checking = let P : Stage → Type 0 = Fits r a given p slot.turn in subst P answer.was (answer.fits at slot answer.there)

    pub check-within : awaiting.held.value.check.number < length given.past.book
    check-within = number-within given p awaiting.held.value.check.number checking.waits.in_check

    pub check-asked : IsAmong (operands (rules_for given) awaiting.held.value.check.asked) awaiting.path
    check-asked = waiting-asked given p awaiting.held.value.check a awaiting.path checking.waits

    module _ (u : Table) (gone : Slot) (out : gone.stage ≡ Out) (slots : u.slots.items ≡ slice_set t.slots.items at gone) where
      pub answer-there : IsDecidedNumber u place
      answer-there = number-kept t u at slot gone answer.there (ap is_stage_decided answer.was) slots place answer.decided

      module _ (fact : Shown FactView) (there : IsFactAt u place fact) where
        here : (fact.value.target ≡ awaiting.path) × (outcomes_of (table_entries given t) awaiting.path ≡ Some fact.value.outcome)
        here = fact-kept given t u at slot gone answer.there out slots answer.distinct answer.fits place awaiting.path fact answer.number there

        pub answer-known : outcomes_of (table_entries given t) awaiting.path ≡ Some fact.value.outcome
        answer-known = here.1

        pub all-answered : AllAnswered (rules_for given) (outcomes_of (table_entries given t)) awaiting.held.value.check.asked
        all-answered q m none = elim (cases_Bool (bytes_eq awaiting.path q)) [
          | inl same ↦
              let known = ap a (sym ((bytes_eq-Decides awaiting.path q).0 same)) ∙ here.1 in
              let bad = sym known ∙ none in
              cc
          | inr f ↦ checking.answered q m (λ e. both_ways _ f ((bytes_eq-Decides awaiting.path q).1 e)) none
        ]

        module _ (facts : Facts) (adds : AddsFact fact.value awaiting.held.value.facts facts) where
          exact-here : told_in facts awaiting.path ≡
              only (operands (rules_for given) awaiting.held.value.check.asked) (outcomes_of (table_entries given t)) awaiting.path
          exact-here = elim (cases_Option (told_in facts awaiting.path)) [
            | inl none ↦ absurd (adds.known (ap (told_in facts) here.0 ∙ none))
            | inr some ↦ elim (adds.origin awaiting.path some.0 some.1) [
              | inl old ↦ absurd (let bad = sym checking.lacks ∙ old in cc)
              | inr d ↦ some.1 ∙ ap Some (sym d.1) ∙ sym here.1 ∙ sym (only-among (operands r awaiting.held.value.check.asked) a awaiting.path check-asked)
            ]
          ]

          -- it holds all answers now
          exact : (q : List ℕ) → told_in facts q ≡
              only (operands (rules_for given) awaiting.held.value.check.asked) (outcomes_of (table_entries given t)) q
          exact q = elim (cases_Bool (bytes_eq awaiting.path q)) [
            | inl same ↦
                let P : List ℕ → Type 0 = λ x. told_in facts x ≡ only (operands r awaiting.held.value.check.asked) a x in
                subst P ((bytes_eq-Decides awaiting.path q).0 same) exact-here
            | inr f ↦
                let other : awaiting.path ≡ q → ⊥ = λ e. both_ways _ f ((bytes_eq-Decides awaiting.path q).1 e) in
                elim (cases_Option (told_in facts q)) [
                  | inl none ↦ none ∙ sym (adds.kept q none) ∙ checking.exact q other
                  | inr some ↦ elim (adds.origin q some.0 some.1) [
                    | inl old ↦ some.1 ∙ sym old ∙ checking.exact q other
                    | inr d ↦ absurd (other (sym here.0 ∙ d.0))
                  ]
                ]
          ]

          module _ (held : InCheck) (rule : held.rule ≡ awaiting.held.value.rule) (own : held.facts ≡ facts) (asked : held.check.asked ≡ awaiting.held.value.check.asked) where
            found : found_of given.past.sources (path_at t.targets at) ≡ found_as held.rule
            found = checking.is_held.found ∙ ap found_as (sym rule)

            exact-held : (q : List ℕ) → told_in held.facts q ≡
                only (operands (rules_for given) held.check.asked) (outcomes_of (table_entries given t)) q
            exact-held q =
                ap (λ (f : Facts). told_in f q) own ∙ exact q ∙ ap (λ ds. only (operands r ds) a q) (sym asked)

            answered-held : AllAnswered (rules_for given) (outcomes_of (table_entries given t)) held.check.asked
            answered-held = let P : List Dep → Type 0 = AllAnswered r a in subst P (sym asked) all-answered

            -- where its entry stands it is due
            pub resumed-due : IsDueCheck given (path_at t.targets at) (outcomes_of (table_entries given t)) held.check →
                IsDueWith (rules_for given) (outcomes_of (table_entries given t)) given (path_at t.targets at) slot.turn held
            resumed-due due = record {
              is_held = record {
                found = found;
                at_first = checking.is_held.at_first;
                none_behind = ap (λ (f : Facts). f.asked) own ∙ adds.asked ∙ checking.is_held.none_behind;
              };
              is_due = due;
              answered = answered-held;
              exact = exact-held;
            }

            -- where it falls the script has what a work needs
            module _ (behind : IsBegunBehind given (path_at t.targets at) awaiting.held.value.check.asked (outcomes_of (table_entries given t))) where
              abbrev e : Entry
              e = slot_entry (rules_for given) (outcomes_at_limit given) (path_at t.targets at) slot

              e-there : entry_of (table_entries given t) (path_at t.targets at) ≡ Some e
              e-there = entry_of-slots r (outcomes_at_limit given) t.targets t.slots.items at p slot answer.distinct answer.path answer.there

              e-open : stage_outcome slot.stage ≡ None
              e-open = rw answer.was refl

              e-deps : stage_deps (rules_for given) (outcomes_at_limit given) (path_at t.targets at) (rounds_of slot) slot.stage ≡ held.check.asked
              e-deps = let one : stage_deps r (outcomes_at_limit given) p (rounds_of slot) slot.stage ≡ awaiting.held.value.check.asked = rw answer.was refl in
                  one ∙ sym asked

              e-fed : (q : List ℕ) → IsAmong (operands (rules_for given) e.deps) q → outcomes_of (table_entries given t) q ≡ None → ⊥
              e-fed = let P : List Dep → Type 0 = AllAnswered r a in subst P (sym e-deps) answered-held

              behind-held : IsBegunBehind given (path_at t.targets at) held.check.asked (outcomes_of (table_entries given t))
              behind-held = let P : List Dep → Type 0 = λ ds. IsBegunBehind given p ds a in subst P (sym asked) behind

              begins-held : (rules_for given).begins (path_at t.targets at)
                  (only (operands (rules_for given) held.check.asked) (outcomes_of (table_entries given t))) ≡ true
              begins-held = behind-held.begins (only (operands r held.check.asked) a) (λ q m. sym (only-among (operands r held.check.asked) a q m))

              e-starts : (rules_for given).begins e.path (known_to (rules_for given) es e) ≡ true
              e-starts = let P : List Dep → Type 0 = λ ds. r.begins p (only (operands r ds) a) ≡ true in subst P (sym e-deps) begins-held

              deep : (work : IsWork (rules_for given) (path_at t.targets at) 0 held.check.asked) ×
                  Extends (rules_for given) (outcomes_of (table_entries given t)) (outcome_at (rules_for given) work.depth)
              deep =
                  let A : List Dep → Type 0 = λ ds. (work : IsWork r p slot.turn ds) × Extends r a (outcome_at r work.depth) in
                  let B : ℕ → Type 0 = λ n. (work : IsWork r p n held.check.asked) × Extends r a (outcome_at r work.depth) in
                  subst B checking.is_held.at_first (subst A e-deps
                  (taken-deep r (lawful_for given) answer.standing.0 es answer.standing.1 p e e-there e-open e-fed e-starts))

              pub resumed-fallen : IsFallen given (path_at t.targets at) held
              resumed-fallen = record {
                is_found = found;
                is_work = deep.0;
                exact = λ q. exact-held q ∙ only-same (operands r held.check.asked) a (outcome_at r deep.0.depth)
                    (answered-alike r (lawful_for given) a (outcome_at r deep.0.depth) held.check.asked deep.1 answered-held) q;
                behind = behind-moves given p held.check.asked a (told_in held.facts) behind-held
                    (λ q m. sym (exact-held q ∙ only-among (operands r held.check.asked) a q m));
              }

              pub resumed-ready : (work : WorkView) → work.given ≡ given → work.target ≡ path_at t.targets at → work.turn ≡ 0 → work.deps ≡ held.check.asked →
                  IsParked given (path_at t.targets at) slot.turn work ×
                  AllAnswered (rules_for given) (outcomes_of (table_entries given t)) work.deps ×
                  ((rules_for given).begins (path_at t.targets at) (only (operands (rules_for given) work.deps) (outcomes_of (table_entries given t))) ≡ true)
              resumed-ready work is target turn deps =
                  let A : List Dep → Type 0 = λ ds. AllAnswered r a ds in
                  let B : List Dep → Type 0 = λ ds. r.begins p (only (operands r ds) a) ≡ true in
                  ((is, target, turn ∙ sym checking.is_held.at_first), subst A (sym deps) answered-held, subst B (sym deps) begins-held)

-- a check that takes its answer from a fact stands or falls by it
pub goes-on : {E : Type 0} (given : GivenView) (t : Table) (place : ℕ) (old new : Check) (fact : Shown FactView) (own : GivenView) (o : Outcome) → IsFactAt t place fact →
    own ≡ given → o ≡ fact.value.outcome → new.asked ≡ old.asked → (result : Result Bool E) →
    IfOk result (λ stands. stands ≡ true → (p : List ℕ) (a : Ask) (q : List ℕ) → IsWaitingCheck own p a q old → a q ≡ Some o → IsDueCheck own p a new) →
    IfOk result (λ stands. stands ≡ false → (p : List ℕ) (a : Ask) (q : List ℕ) → IsWaitingCheck own p a q old → a q ≡ Some o → IsBegunBehind own p old.asked a) →
    IfOk result (GoesOnWith given t place old new)
goes-on given t place old new fact own o there same outcome asked (Ok stands) goes falls =
    let G : GivenView → Type 0 = λ g. stands ≡ true → (p : List ℕ) (a : Ask) (q : List ℕ) → IsWaitingCheck g p a q old → a q ≡ Some o → IsDueCheck g p a new in
    let F : GivenView → Type 0 = λ g. stands ≡ false → (p : List ℕ) (a : Ask) (q : List ℕ) → IsWaitingCheck g p a q old → a q ≡ Some o → IsBegunBehind g p old.asked a in
    let goes' = subst G same goes in
    let falls' = subst F same falls in
    record {
      fact = fact;
      there = there;
      asked = asked;
      goes = λ is p a q waits known. goes' is p a q waits (known ∙ ap Some (sym outcome));
      falls = λ is p a q waits known. falls' is p a q waits (known ∙ ap Some (sym outcome));
    }
goes-on given t place old new fact own o there same outcome asked (Err e) goes falls = tt

-- a check that got its answer
module _ (given : GivenView) (t : Table) (at place : ℕ) (slot : Slot) (awaiting : Awaiting) (answer : IsAnsweredAs given t at place slot awaiting)
    (u : Table) (gone : Slot) (out : gone.stage ≡ Out) (slots : u.slots.items ≡ slice_set t.slots.items at gone)
    (facts : Facts) (gains : GainsOne u place awaiting.held.value.facts facts)
    (check : Check) (stands : Bool) (goes : GoesOnWith given u place awaiting.held.value.check check stands)
    (held : InCheck) (rule : held.rule ≡ awaiting.held.value.rule) (own : held.facts ≡ facts) (same : held.check ≡ check) where
  asked : held.check.asked ≡ awaiting.held.value.check.asked
  asked = ap (λ (c : Check). c.asked) same ∙ goes.asked

  known : outcomes_of (table_entries given t) awaiting.path ≡ Some goes.fact.value.outcome
  known = answer-known given t at place slot awaiting answer u gone out slots goes.fact goes.there

  pub held-due : stands ≡ true → IsDueWith (rules_for given) (outcomes_of (table_entries given t)) given (path_at t.targets at) slot.turn held
  held-due yes' =
      let a = outcomes_of (table_entries given t) in
      let due = goes.goes yes' (path_at t.targets at) a awaiting.path (checking given t at place slot awaiting answer).waits known in
      let P : Check → Type 0 = IsDueCheck given (path_at t.targets at) a in
      resumed-due given t at place slot awaiting answer u gone out slots gains.0 gains.1 facts gains.2 held rule own asked (subst P (sym same) due)

  behind : stands ≡ false → IsBegunBehind given (path_at t.targets at) awaiting.held.value.check.asked (outcomes_of (table_entries given t))
  behind no' =
      goes.falls no' (path_at t.targets at) (outcomes_of (table_entries given t)) awaiting.path (checking given t at place slot awaiting answer).waits known

  pub held-fallen : stands ≡ false → IsFallen given (path_at t.targets at) held
  held-fallen no' = resumed-fallen given t at place slot awaiting answer u gone out slots gains.0 gains.1 facts gains.2 held rule own asked (behind no')

  pub held-ready : stands ≡ false → (work : WorkView) → work.given ≡ given → work.target ≡ path_at t.targets at → work.turn ≡ 0 → work.deps ≡ held.check.asked →
      IsParked given (path_at t.targets at) slot.turn work ×
      AllAnswered (rules_for given) (outcomes_of (table_entries given t)) work.deps ×
      ((rules_for given).begins (path_at t.targets at) (only (operands (rules_for given) work.deps) (outcomes_of (table_entries given t))) ≡ true)
  held-ready no' = resumed-ready given t at place slot awaiting answer u gone out slots gains.0 gains.1 facts gains.2 held rule own asked (behind no')
