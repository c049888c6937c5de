-- Which checks can go on: those whose targets are due, the first by first sight first.
use Rattle.std.proofs.Common.{slice_get, ◌≡◌, ℕ, zero, suc, ◌<◌, Bool, true, false, inl, inr, List, ◌∷◌}
use Rattle.std.proofs.Common.{find, length, Option, Some, None, is_none, Global, Vec, refl, sym, ap, subst, ◌∙◌, arith, ◌≤◌}
use Rattle.std.specs.Prelude.{Box}
use Rattle.std.proofs.lemmas.Bool.{cases_Bool, both_ways, and_from, and_parts, not-true, not_from_false, false_from_ne_true}
use Rattle.redo_names.proofs.PathLemmas.{among-told}
use Rattle.redo_record.specs.Paths.{IsAmong, AreDistinct, is_among}
use Rattle.redo_build.specs.Rules.{Ask, Rules, operands}
use Rattle.redo_build.specs.Outcomes.{outcome_at}
use Rattle.redo_build.specs.Looking.{NoneDue, first_due, looked, looked_once}
use Rattle.redo_build.specs.Schedule.{happens}
use Rattle.redo_build.specs.Schedule.Event.{Look}
use Rattle.redo_build.specs.TakesLeft.{takes_left}
use Rattle.redo_build.proofs.CountLemmas.{look-left}
use Rattle.redo_build.proofs.LookingLemmas.{first-look, first-open}
use Rattle.redo_build.specs.Schedule.{Entry, State, is_able_to_go_on, is_due, known_to, lacks_none, only}
use Rattle.redo_build.specs.Schedule.{outcomes_of}
use Rattle.redo_record.specs.declared.deps.Dep.{Dep}
use Rattle.redo_record.specs.declared.outcome.Outcome.{Outcome}
use Rattle.redo_build.proofs.SoundLemmas.{is_able_to_go_on-parts, lacks_none-from, lacks_none-true}
use Rattle.redo_rules.proofs.Public.{lawful_for}
use Rattle.redo_table.specs.Schedule.{ScheduleView, NoneDue as NoneIsDue, stage_at}
use Rattle.redo_table.specs.Schedule.StageView.{Due as AtDue, Ready as AtReady}
use Rattle.redo_core.specs.inside.Slots.{outcomes_at_limit, Fits, IsAtRest, IsDrawnFrom, IsDueThere, is_stage_due}
use Rattle.redo_core.specs.inside.Slots.{is_stage_out, is_stage_waiting, path_at, rounds_of, slot_entries, slot_entry}
use Rattle.redo_core.specs.inside.Slots.{stage_deps, IsLookedOn, IsLookedOnce, stage_outcome, table_state, GivenView}
use Rattle.redo_core.specs.inside.Slots.{rules_for, InCheck, Slot, Stage, Due, Ready, Out, Decided, Table}
use Rattle.redo_core.proofs.AgreeLemmas.{agreed-slot, agreed-stage, agrees-due, due-agrees}
use Rattle.redo_core.proofs.EntryLemmas.{path-there, rest-distinct, rest-sound}
use Rattle.redo_core.proofs.RowLemmas.{among-key}
use Rattle.redo_core.proofs.NewlyReadyLemmas.{distinct-place, due-begins}
use Rattle.redo_core.proofs.PlaceLemmas.{place-times}
use Rattle.redo_core.proofs.SlotLemmas.{length-slots}
use Rattle.redo_core.proofs.WaitedLemmas.{waited-lacks}

-- The first entry that passes a test, by the slots

module _ (r : Rules) (a : Ask) (test : Entry → Bool) where
  abbrev passes : List ℕ → Slot → Bool
  passes p slot = test (slot_entry r a p slot)

  find-none : (ps : List (List ℕ)) (slots : List Slot) →
      ((k : ℕ) (p : List ℕ) (slot : Slot) → slice_get ps k ≡ Some p → slice_get slots k ≡ Some slot →
      passes p slot ≡ false) → find test (slot_entries r a ps slots) ≡ None
  find-none (p ∷ ps) (slot ∷ slots) none =
      rw (none 0 p slot refl refl) (find-none ps slots (λ k q x h g. none (suc k) q x h g))
  find-none _ _ none = refl

  find-first : (ps : List (List ℕ)) (slots : List Slot) (at : ℕ) (p : List ℕ) (slot : Slot) → slice_get ps at ≡ Some p →
      slice_get slots at ≡ Some slot → passes p slot ≡ true →
      ((k : ℕ) (q : List ℕ) (x : Slot) → k < at → slice_get ps k ≡ Some q → slice_get slots k ≡ Some x →
      passes q x ≡ false) → find test (slot_entries r a ps slots) ≡ Some (slot_entry r a p slot)
  find-first (q ∷ ps) (x ∷ slots) zero p slot h g here before =
      let path : q ≡ p = cc in
      let same : x ≡ slot = cc in
      let A : List ℕ → Type 0 = λ y. passes y x ≡ true in
      let B : Slot → Type 0 = λ z. passes p z ≡ true in
      rw (subst A (sym path) (subst B (sym same) here))
      (ap (λ y. Some (slot_entry r a y x)) path ∙ ap (λ z. Some (slot_entry r a p z)) same)
  find-first (q ∷ ps) (x ∷ slots) (suc at) p slot h g here before =
      rw (before 0 q x (omega arith) refl refl)
      (find-first ps slots at p slot h g here (λ k y z less u v. before (suc k) y z (omega (arith, less)) u v))
  find-first _ _ at p slot h g here before = cc

module _ (given : GivenView) (t : Table) (rest : IsAtRest given t) where
  abbrev r : Rules
  r = rules_for given

  abbrev a : Ask
  a = outcomes_at_limit given

  abbrev s : State
  s = table_state given t

  distinct : AreDistinct t.targets
  distinct = rest-distinct given t rest

  key-at : (k : ℕ) (slot : Slot) → slice_get t.slots.items k ≡ Some slot →
      slice_get t.targets k ≡ Some (path_at t.targets k)
  key-at = path-there given t t.schedule.stages rest.table

  -- what lacks an answer isn't due
  not-fed : (p : List ℕ) (slot : Slot) → ((q : List ℕ) × IsAmong (operands r (slot_entry r a p slot).deps) q ×
      (outcomes_of s.entries q ≡ None)) → is_due r s (slot_entry r a p slot) ≡ false
  not-fed p slot lack = false_from_ne_true _ (λ due.
      let e : Entry = slot_entry r a p slot in
      let parts = is_able_to_go_on-parts r s e (and_parts (is_able_to_go_on r s e) _ due).0 in
      lacks_none-true r s.entries e parts.1 lack.0 lack.1 lack.2)

  -- of the other stages the entry is due where the stage is
  by-stage : (p : List ℕ) (slot : Slot) (stage : Stage) → slot.stage ≡ stage → Fits r (outcomes_of s.entries) given p slot.turn stage →
      (is_stage_waiting stage ≡ true → (q : List ℕ) ×
      IsAmong (operands r (slot_entry r a p slot).deps) q × (outcomes_of s.entries q ≡ None)) →
      (is_stage_due stage ≡ true → is_among s.ready p ≡ false) →
      is_due r s (slot_entry r a p slot) ≡ is_stage_due stage
  by-stage p slot (Due held) is fits waits apart =
      let e : Entry = slot_entry r a p slot in
      let D : Stage → Type 0 = λ st. stage_deps r a p (rounds_of slot) st ≡ held.value.check.asked in
      let deps : e.deps ≡ held.value.check.asked = subst D (sym is) refl in
      let O : Stage → Type 0 = λ st. is_none (stage_outcome st) ≡ true in
      let I : Stage → Type 0 = λ st. is_stage_out st ≡ false in
      let A : List Dep → Type 0 = λ ds. (q : List ℕ) → IsAmong (operands r ds) q →
      outcomes_of s.entries q ≡ None → ⊥ in
      let fed : lacks_none r s.entries e ≡ true = lacks_none-from r s.entries e (subst A (sym deps) fits.answered) in
      let B : List Dep → Type 0 = λ ds.
      r.begins p (only (operands r ds) (outcomes_of s.entries)) ≡ false in
      let quiet : r.begins e.path (known_to r s.entries e) ≡ false =
      subst B (sym deps) (due-begins given p (outcomes_of s.entries) held.value.check fits.is_due) in
      and_from _ _ (and_from _ _ (and_from _ _ (and_from _ _ (subst O (sym is) refl) fed)
      (not_from_false _ (subst I (sym is) refl))) (not_from_false _ (apart refl))) (not_from_false _ quiet)
  by-stage p slot (Ready work) is fits waits apart = false_from_ne_true _ (λ due.
      let e : Entry = slot_entry r a p slot in
      let D : Stage → Type 0 = λ st. stage_deps r a p (rounds_of slot) st ≡ work.deps in
      let deps : e.deps ≡ work.deps = subst D (sym is) refl in
      let B : List Dep → Type 0 = λ ds. r.begins p (only (operands r ds) (outcomes_of s.entries)) ≡ true in
      let begun : r.begins e.path (known_to r s.entries e) ≡ true = subst B (sym deps) fits.2 in
      both_ways _ (not-true _ (and_parts (is_able_to_go_on r s e) _ due).1) begun)
  by-stage p slot Out is fits waits apart = false_from_ne_true _ (λ due.
      let e : Entry = slot_entry r a p slot in
      let parts = is_able_to_go_on-parts r s e (and_parts (is_able_to_go_on r s e) _ due).0 in
      both_ways _ parts.2 (ap is_stage_out is))
  by-stage p slot (Decided fact) is fits waits apart = false_from_ne_true _ (λ due.
      let e : Entry = slot_entry r a p slot in
      let parts = is_able_to_go_on-parts r s e (and_parts (is_able_to_go_on r s e) _ due).0 in
      let bad : ◌≡◌ {A = Option Outcome} (Some fact.value.outcome) None = sym (ap stage_outcome is) ∙ parts.0 in
      cc)
  by-stage p slot _ is fits waits apart = not-fed p slot (waits refl)

  due-stage : (k : ℕ) (p : List ℕ) (slot : Slot) → slice_get t.targets k ≡ Some p → slice_get t.slots.items k ≡ Some slot →
      is_due r s (slot_entry r a p slot) ≡ is_stage_due slot.stage
  due-stage k p slot path there =
      let here : path_at t.targets k ≡ p = rw path refl in
      let F : List ℕ → Type 0 = λ q. Fits r (outcomes_of s.entries) given q slot.turn slot.stage in
      by-stage p slot slot.stage refl (subst F here (rest.table.fits k slot there))
      (λ waits.
      let lack = waited-lacks given t t.schedule.stages rest.table distinct rest.resting.lacks k slot there waits in
      let D : List ℕ → Type 0 = λ x. IsAmong (operands r (stage_deps r a x (rounds_of slot) slot.stage)) lack.0 in
      (lack.0, subst D here lack.1, lack.2))
      (λ due. false_from_ne_true _ (λ yes'.
      let found = among-key (path_at t.targets) t.schedule.ready p (among-told s.ready p yes') in
      let staged = rest.resting.queue.are_ready found.0 (place-times t.schedule.ready found.0 found.1) in
      let other = agreed-slot r t.targets t.slots.items t.schedule.stages rest.table.agreed found.0 AtReady staged in
      let same : found.0 ≡ k = distinct-place t.targets found.0 k p distinct
      (key-at found.0 other.0 other.1 ∙ ap Some found.2) path in
      let P : ℕ → Type 0 = λ j. stage_at t.schedule j ≡ Some AtReady in
      let bad : AtReady ≡ AtDue = due-agrees r t.targets slot.stage AtReady (rest.table.agreed.each k slot AtReady there (subst P same staged)) due in
      cc))

  -- a slot that is due is so in the schedule
  slot-due : (k : ℕ) (slot : Slot) → slice_get t.slots.items k ≡ Some slot → is_stage_due slot.stage ≡ true → stage_at t.schedule k ≡ Some AtDue
  slot-due k slot there due =
      let stage = agreed-stage r t.targets t.slots.items t.schedule.stages rest.table.agreed k slot there in
      stage.1 ∙ ap Some (due-agrees r t.targets slot.stage stage.0 stage.2 due)

  -- where no number is due, no check can go on
  none_due' : NoneIsDue t.schedule → NoneDue r s
  none_due' none = find-none r a (is_due r s) t.targets t.slots.items (λ k p slot path there. elim (cases_Bool (is_stage_due slot.stage)) [
    | inl due ↦ absurd (none k (slot-due k slot there due))
    | inr f ↦ due-stage k p slot path there ∙ f
  ])

pub none_due : (given : GivenView) (t : Table) → IsAtRest given t → NoneIsDue t.schedule →
    NoneDue (rules_for given) (table_state given t)
none_due given t rest none = none_due' given t rest none

-- the slot of the first number that is due, which stands for the first entry whose check can go on
pub record IsFirstToLook (given : GivenView) (whole : Table) (at : ℕ) : Type 0 where
  pub slot : Slot
  pub there : slice_get whole.slots.items at ≡ Some slot
  pub path : slice_get whole.targets at ≡ Some (path_at whole.targets at)
  pub due : is_stage_due slot.stage ≡ true
  pub first : first_due (rules_for given) (table_state given whole) ≡
      Some (slot_entry (rules_for given) (outcomes_at_limit given) (path_at whole.targets at) slot)

pub drawn-first : (given : GivenView) (whole t : Table) (at : ℕ) → IsDrawnFrom given whole t at → IsFirstToLook given whole at
drawn-first given whole t at drawn =
    let r = rules_for given in
    let rest = drawn.at_rest in
    let found = agreed-slot r whole.targets whole.slots.items whole.schedule.stages rest.table.agreed at AtDue drawn.first.due in
    let path = key-at given whole rest at found.0 found.1 in
    let due = agrees-due r whole.targets found.0.stage AtDue found.2 refl in
    let test = is_due r (table_state given whole) in
    record {
      slot = found.0;
      there = found.1;
      path = path;
      due = due;
      first = find-first r (outcomes_at_limit given) test whole.targets whole.slots.items at
          (path_at whole.targets at) found.0 path found.1
          (due-stage given whole rest at (path_at whole.targets at) found.0 path found.1 ∙ due)
          (λ k q x less h g. elim (cases_Bool (is_stage_due x.stage)) [
            | inl earlier ↦ absurd (drawn.first.first k less (slot-due given whole rest k x g earlier))
            | inr f ↦ due-stage given whole rest k q x h g ∙ f
          ]);
    }

due-held : (stage : Stage) → is_stage_due stage ≡ true → (held : Box InCheck Global) × (stage ≡ Due held)
due-held (Due held) h = (held, refl)
due-held _ h = cc

-- its check is there to be taken out
pub drawn-there : (given : GivenView) (whole t : Table) (at : ℕ) → IsDrawnFrom given whole t at → IsDueThere t at
drawn-there given whole t at drawn =
    let first = drawn-first given whole t at drawn in
    let held = due-held first.slot.stage first.due in
    (first.slot, held.0, ap (λ (v : Vec Slot Global). slice_get v.items at) drawn.slots ∙ first.there, held.1)

-- One look after another

-- a look behind others is one more
looked-last : (q : Rules) (n : ℕ) (x : State) → looked_once q (looked q n x) ≡ looked q (suc n) x
looked-last q zero x = refl
looked-last q (suc n) x = looked-last q n (looked_once q x)

-- a table at rest has no more entries than the limit allows
rest-few : (given : GivenView) (t : Table) → IsAtRest given t →
    length (table_state given t).entries ≤ given.limits.targets
rest-few given t rest = omega (
  arith,
  rest.table.within_limit,
  length-slots (rules_for given) (outcomes_at_limit given) t.targets t.slots.items
      rest.table.one_each,
)

-- drawing a number changes nothing of the state
pub drawn-state : (given : GivenView) (whole drawn : Table) (at : ℕ) → IsDrawnFrom given whole drawn at →
    table_state given drawn ≡ table_state given whole
drawn-state given whole drawn at is_drawn =
    let items : drawn.slots.items ≡ whole.slots.items = ap (λ (v : Vec Slot Global). v.items) is_drawn.slots in
    let queue : drawn.schedule.ready ≡ whole.schedule.ready = ap (λ (x : ScheduleView). x.ready) is_drawn.schedule in
    rw (is_drawn.targets, items, queue) refl

-- looks that led on, and one more
pub looked-more : (given : GivenView) (t whole drawn u : Table) (at : ℕ) → IsLookedOn given t whole →
    IsDrawnFrom given whole drawn at → IsLookedOnce given drawn u → IsLookedOn given t u
looked-more given t whole drawn u at ahead is_drawn once =
    let q = rules_for given in
    let S : Table → State = table_state given in
    let same : S drawn ≡ S whole = drawn-state given whole drawn at is_drawn in
    record {
      at_rest = once.at_rest;
      looks = suc ahead.looks;
      state = once.state ∙ ap (looked_once q) same ∙ ap (looked_once q) ahead.state ∙ looked-last q ahead.looks (S t);
    }

-- and less that may be taken or looked at
pub looked-less : (given : GivenView) (whole drawn u : Table) (at : ℕ) → IsDrawnFrom given whole drawn at →
    IsLookedOnce given drawn u →
    takes_left given.limits.targets (table_state given u) <
    takes_left given.limits.targets (table_state given whole)
looked-less given whole drawn u at is_drawn once =
    let q = rules_for given in
    let limit : ℕ = given.limits.targets in
    let S : Table → State = table_state given in
    let lawful = lawful_for given in
    let sound = rest-sound given whole is_drawn.at_rest in
    let found = drawn-first given whole drawn at is_drawn in
    let e : Entry = slot_entry q (outcome_at q limit) (path_at whole.targets at) found.slot in
    let open' = first-open q lawful given.request (S whole) sound e found.first in
    let state : S u ≡ happens q (S whole) (Look e.path) =
    once.state ∙ ap (looked_once q) (drawn-state given whole drawn at is_drawn)
    ∙ first-look q lawful given.request (S whole) sound e found.first in
    let P : State → Type 0 = λ x. takes_left limit x < takes_left limit (S whole) in
    let few : length (happens q (S whole) (Look e.path)).entries ≤ limit =
    (let L : State → Type 0 = λ x. length x.entries ≤ limit in subst L state (rest-few given u once.at_rest)) in
    subst P (sym state) (look-left q lawful given.request (S whole) sound e.path limit open' few)
