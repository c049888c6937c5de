-- The stage of a slot, and the one that the schedule has of it.
use Rattle.std.proofs.Common.{slice_get, slice_set, ◌≡◌, ℕ, zero, suc, true, cond, inl, inr, List, []}
use Rattle.std.proofs.Common.{◌∷◌, length, length-set, filter, Some, refl, sym, ap, subst, ◌∙◌, arith, count_by}
use Rattle.std.proofs.lemmas.Bool.{cases_Bool}
use Rattle.std.proofs.lemmas.List.Sums.{sum_by-cons}
use Rattle.redo_build.specs.Rules.{Rules}
use Rattle.redo_table.specs.Schedule.{StageView, is_decided, is_due, is_out, is_ready}
use Rattle.redo_table.specs.Schedule.StageView.{Due as AtDue, Ready as AtReady, InHand as AtHand}
use Rattle.redo_table.specs.Schedule.StageView.{Decided as AtDecided}
use Rattle.redo_table.proofs.ListedLemmas.{due-is, ready-is}
use Rattle.redo_table.proofs.TargetLemmas.{decided-is, get-other, set-cases, there-below}
use Rattle.redo_core.specs.inside.Slots.{Agrees, AreAgreed, is_stage_decided, is_stage_due, is_stage_out}
use Rattle.redo_core.specs.inside.Slots.{is_stage_ready, is_waiting, is_stage_waiting, Slot, Stage, Checking}
use Rattle.redo_core.specs.inside.Slots.{Waiting, Out}
use Rattle.std.proofs.lemmas.Option.{slice_get_within}

module _ (r : Rules) (ps : List (List ℕ)) where
  -- where they agree they pass the same tests
  pub agrees-tests : (stage : Stage) (s : StageView) → Agrees r ps stage s →
      (is_decided s ≡ is_stage_decided stage) × (is_ready s ≡ is_stage_ready stage) × (is_due s ≡ is_stage_due stage) ×
      (is_waiting s ≡ is_stage_waiting stage)
  agrees-tests (Checking awaiting) s h = (ap is_decided h.1, ap is_ready h.1, ap is_due h.1, ap is_waiting h.1)
  agrees-tests (Waiting begun) s h = (ap is_decided h.1, ap is_ready h.1, ap is_due h.1, ap is_waiting h.1)
  agrees-tests Out s h = elim h [
    | inl out ↦ (ap is_decided out, ap is_ready out, ap is_due out, ap is_waiting out)
    | inr hand ↦ (ap is_decided hand, ap is_ready hand, ap is_due hand, ap is_waiting hand)
  ]
  agrees-tests _ s h = (ap is_decided h, ap is_ready h, ap is_due h, ap is_waiting h)

  pub agrees-decided : (stage : Stage) (s : StageView) → Agrees r ps stage s → s ≡ AtDecided → is_stage_decided stage ≡ true
  agrees-decided stage s h is = sym (agrees-tests stage s h).0 ∙ ap is_decided is

  pub decided-agrees : (stage : Stage) (s : StageView) → Agrees r ps stage s → is_stage_decided stage ≡ true → s ≡ AtDecided
  decided-agrees stage s h is = decided-is s ((agrees-tests stage s h).0 ∙ is)

  pub agrees-ready : (stage : Stage) (s : StageView) → Agrees r ps stage s → s ≡ AtReady → is_stage_ready stage ≡ true
  agrees-ready stage s h is = sym (agrees-tests stage s h).1 ∙ ap is_ready is

  pub ready-agrees : (stage : Stage) (s : StageView) → Agrees r ps stage s → is_stage_ready stage ≡ true → s ≡ AtReady
  ready-agrees stage s h is = ready-is s ((agrees-tests stage s h).1 ∙ is)

  pub agrees-due : (stage : Stage) (s : StageView) → Agrees r ps stage s → s ≡ AtDue → is_stage_due stage ≡ true
  agrees-due stage s h is = sym (agrees-tests stage s h).2 ∙ ap is_due is

  pub due-agrees : (stage : Stage) (s : StageView) → Agrees r ps stage s → is_stage_due stage ≡ true → s ≡ AtDue
  due-agrees stage s h is = due-is s ((agrees-tests stage s h).2 ∙ is)

  -- what isn't in hand is out where its slot is
  out-agrees : (stage : Stage) (s : StageView) → Agrees r ps stage s → (s ≡ AtHand → ⊥) → is_out s ≡ is_stage_out stage
  out-agrees (Checking awaiting) s h apart = ap is_out h.1
  out-agrees (Waiting begun) s h apart = ap is_out h.1
  out-agrees Out s h apart = elim h [ inl out ↦ ap is_out out | inr hand ↦ absurd (apart hand) ]
  out-agrees _ s h apart = ap is_out h

  -- as many stages are out as slots, where none is in hand
  pub out-same : (slots : List Slot) (stages : List StageView) → AreAgreed r ps slots stages →
      ((k : ℕ) → slice_get stages k ≡ Some AtHand → ⊥) → count_by is_out stages ≡ length (filter (λ slot. is_stage_out slot.stage) slots)
  out-same [] [] agreed none = refl
  out-same (x ∷ xs) (s ∷ ss) agreed none =
      let rest = out-same xs ss (record {
        one_each = omega (arith, agreed.one_each);
        each = λ k slot y g e. agreed.each (suc k) slot y g e;
      }) (λ k e. none (suc k) e) in
      let same : is_out s ≡ is_stage_out x.stage = out-agrees x.stage s (agreed.each zero x s refl refl) (λ is. none zero (ap Some is)) in
      let one = sum_by-cons (λ y. cond (is_out y) 1 0) s ss in
      elim (cases_Bool (is_stage_out x.stage)) [
        | inl t ↦ rw t (omega (arith, rest, one, ap {B = ℕ} (λ b. cond b 1 0) (same ∙ t)))
        | inr f ↦ rw f (omega (arith, rest, one, ap {B = ℕ} (λ b. cond b 1 0) (same ∙ f)))
      ]
  out-same _ _ agreed none = absurd (omega (arith, agreed.one_each))

  module _ (slots : List Slot) (stages : List StageView) (agreed : AreAgreed r ps slots stages) where
    pub agreed-slot : (k : ℕ) (s : StageView) → slice_get stages k ≡ Some s →
        (slot : Slot) × (slice_get slots k ≡ Some slot) × Agrees r ps slot.stage s
    agreed-slot k s h =
        let found = there-below slots k (omega (arith, agreed.one_each, slice_get_within stages k s h)) in
        (found.0, found.1, agreed.each k found.0 s found.1 h)

    pub agreed-stage : (k : ℕ) (slot : Slot) → slice_get slots k ≡ Some slot →
        (s : StageView) × (slice_get stages k ≡ Some s) × Agrees r ps slot.stage s
    agreed-stage k slot h =
        let found = there-below stages k (omega (arith, agreed.one_each, slice_get_within slots k slot h)) in
        (found.0, found.1, agreed.each k slot found.0 h found.1)

    -- one slot changes, and its stage with it
    pub agreed-set : (at : ℕ) (old new : Slot) (s : StageView) → slice_get slots at ≡ Some old → Agrees r ps new.stage s →
        AreAgreed r ps (slice_set slots at new) (slice_set stages at s)
    agreed-set at old new s there agrees =
        let was = agreed-stage at old there in
        record {
          one_each = omega (arith, agreed.one_each, length-set slots at new, length-set stages at s);
          each = λ k x y g h. elim (set-cases slots at k old new x there g) [
            | inl here ↦ elim (set-cases stages at k was.0 s y was.1 h) [
              | inl now ↦
                  let P : Stage → Type 0 = λ stage. Agrees r ps stage y in
                  let Q : StageView → Type 0 = Agrees r ps new.stage in
                  subst P (ap (λ (z : Slot). z.stage) here.1) (subst Q now.1 agrees)
              | inr apart ↦ absurd (apart.0 here.0)
            ]
            | inr other ↦ agreed.each k x y other.1 (sym (get-other stages at k s other.0) ∙ h)
          ];
        }
