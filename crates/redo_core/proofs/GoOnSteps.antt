-- A target that waited for what is decided goes on, one after the other.
use Rattle.std.proofs.Common.{slice_get, slice_set, ◌≡◌, ◌⊎◌, ℕ, ◌<◌, Bool, true, false, cond, inl, inr, List, []}
use Rattle.std.proofs.Common.{◌∷◌, length, Option, Some, None, refl, sym, ap, subst, ◌∙◌, arith, count_by, Global}
use Rattle.std.specs.Prelude.{Box}
use Rattle.redo_record.specs.declared.deps.Dep.{Dep}
use Rattle.redo_record.specs.declared.outcome.Outcome.{Outcome}
use Rattle.redo_build.specs.Rules.{Rules, operands}
use Rattle.redo_build.specs.Schedule.{Entry, only, outcomes_of}
use Rattle.redo_build.specs.inside.Standing.{AreStanding}
use Rattle.redo_table.specs.Schedule.{StageView, ScheduleView, IsAnswered, stage_at, with_stage}
use Rattle.redo_table.specs.Schedule.StageView.{Ready as AtReady, InHand as AtHand}
use Rattle.redo_table.specs.Schedule.StageView.{Waiting as AtWaiting, Decided as AtDecided}
use Rattle.redo_table.proofs.TargetLemmas.{count-set, get-same, set-cases}
use Rattle.redo_core.specs.inside.Slots.{outcomes_at_limit, Agrees, AllAnswered, AreNumbers, Fits, IsAnsweredAt}
use Rattle.redo_core.specs.inside.Slots.{IsAnsweredCheck, IsDecidedNumber, is_stage_waiting, IsFed, IsGoneOnAt}
use Rattle.redo_core.specs.inside.Slots.{IsMadeReadyAt, IsParked, IsResumedAt, IsSettling, IsStandingTable}
use Rattle.redo_core.specs.inside.Slots.{IsWaitingWith, is_stage_due, is_stage_out, is_stage_ready, is_waiting}
use Rattle.redo_core.specs.inside.Slots.{in_schedule, is_going, path_at, slot_entry, stage_outcome, table_entries}
use Rattle.redo_core.specs.inside.Slots.{GivenView, rules_for, Awaiting, Slot, Stage, Due, Checking, Waiting, Ready}
use Rattle.redo_core.specs.inside.Slots.{Table}
use Rattle.redo_core.specs.inside.Works.{all_asked, waited_by}
use Rattle.redo_core.specs.declared.work.Begun.{Begun}
use Rattle.redo_core.proofs.AgreeLemmas.{agreed-slot, agrees-decided, agrees-tests}
use Rattle.redo_core.proofs.EntryLemmas.{keys-distinct, path-there}
use Rattle.std.proofs.lemmas.Option.{slice_get_within}
use Rattle.redo_core.proofs.TableLemmas.{set-twice}
use Rattle.redo_core.proofs.TableSteps.{entries-same, parked_fed, parked_ready, table-same}
use Rattle.redo_core.proofs.NumberLemmas.{same-some}

-- what waits in the schedule waits in its slot
waits-so : (r : Rules) (ps : List (List ℕ)) (stage : Stage) (on : List ℕ) → Agrees r ps stage (AtWaiting on) →
    ((begun : Box Begun Global) → stage ≡ Waiting begun → ⊥) → ((awaiting : Awaiting) → stage ≡ Checking awaiting → ⊥) → ⊥
waits-so r ps stage on h w c = by stage (agrees-tests r ps stage (AtWaiting on) h).3 w c
  where
    by : (x : Stage) → true ≡ is_stage_waiting x → ((begun : Box Begun Global) → x ≡ Waiting begun → ⊥) →
        ((awaiting : Awaiting) → x ≡ Checking awaiting → ⊥) → ⊥
    by (Checking awaiting) t w' c' = c' awaiting refl
    by (Waiting begun) t w' c' = w' begun refl
    by _ t w' c' = absurd cc

-- where a stage can go on the schedule agrees
next-agrees : (r : Rules) (ps : List (List ℕ)) (stage : Stage) → (is_stage_due stage ≡ true) ⊎ (is_stage_ready stage ≡ true) →
    Agrees r ps stage (in_schedule stage) × (stage_outcome stage ≡ None) × (is_stage_out stage ≡ false) ×
    (is_going (in_schedule stage) ≡ true)
next-agrees r ps (Due held) h = (refl, refl, refl, refl)
next-agrees r ps (Ready work) h = (refl, refl, refl, refl)
next-agrees r ps _ h = elim h [ inl t ↦ cc | inr t ↦ cc ]

going-waits : (s : StageView) → is_going s ≡ true → is_waiting s ≡ false
going-waits (AtWaiting on) h = cc
going-waits _ h = refl

module _ (given : GivenView) (t : Table) (at : ℕ) (on : List ℕ) (answered : IsAnsweredAt given t at on) where
  abbrev r : Rules
  r = rules_for given

  abbrev stages : List StageView
  stages = answered.before.stages

  answered-slot : (slot : Slot) × (slice_get t.slots.items at ≡ Some slot) × Agrees r t.targets slot.stage (AtWaiting on)
  answered-slot = agreed-slot r t.targets t.slots.items stages answered.table.agreed at (AtWaiting on) answered.answered.waited

  pub answered-below : at < length t.slots.items
  answered-below = slice_get_within t.slots.items at answered-slot.0 answered-slot.1

  pub answered-in_hand : stage_at t.schedule at ≡ Some AtHand
  answered-in_hand = ap (λ (s : ScheduleView). stage_at s at) answered.now ∙ get-same stages at (AtWaiting on) AtHand answered.answered.waited

  decided : (i n : ℕ) → slice_get on i ≡ Some n → IsDecidedNumber t n
  decided i n h =
      let found = agreed-slot r t.targets t.slots.items stages answered.table.agreed n AtDecided (answered.answered.decided i n h) in
      (found.0, found.1, agrees-decided r t.targets found.0.stage AtDecided found.2 refl)

  -- the slot that the code found
  module _ (slot : Slot) (there : slice_get t.slots.items at ≡ Some slot) where
    agrees : Agrees r t.targets slot.stage (AtWaiting on)
    agrees =
        let same : answered-slot.0 ≡ slot = same-some _ _ _ answered-slot.1 there in
        let P : Slot → Type 0 = λ x. Agrees r t.targets x.stage (AtWaiting on) in
        subst P same answered-slot.2

    pub answered-else : ((begun : Box Begun Global) → slot.stage ≡ Waiting begun → ⊥) → ((awaiting : Awaiting) → slot.stage ≡ Checking awaiting → ⊥) → ⊥
    answered-else = waits-so r t.targets slot.stage on agrees

    module _ (begun : Box Begun Global) (is : slot.stage ≡ Waiting begun) where
      numbered : AreNumbers t.targets on (waited_by r begun.value)
      numbered =
          let P : Stage → Type 0 = λ st. Agrees r t.targets st (AtWaiting on) in
          let a : (ns : List ℕ) × (AtWaiting on ≡ AtWaiting ns) × AreNumbers t.targets ns (waited_by r begun.value) = subst P is agrees in
          let eq : AtWaiting on ≡ AtWaiting a.0 = a.1 in
          let same : a.0 ≡ on = cc in
          let N : List ℕ → Type 0 = λ ns. AreNumbers t.targets ns (waited_by r begun.value) in
          subst N same a.2

      pub answered-fed : IsFed given t at on
      answered-fed = parked_fed given t stages answered.table answered.standing at slot begun there is on numbered decided

      pub answered-ready : AllAnswered (rules_for given) (outcomes_of (table_entries given t)) (all_asked begun.value.job begun.value.facts) ×
          ((rules_for given).begins (path_at t.targets at) (only (operands (rules_for given) (all_asked begun.value.job begun.value.facts)) (outcomes_of (table_entries given t))) ≡ true)
      answered-ready = parked_ready given t stages answered.table answered.standing at slot begun there is on numbered decided

    module _ (awaiting : Awaiting) (is : slot.stage ≡ Checking awaiting) where
      alone : (n : ℕ) × (on ≡ n ∷ []) × (slice_get t.targets n ≡ Some awaiting.path)
      alone =
          let P : Stage → Type 0 = λ st. Agrees r t.targets st (AtWaiting on) in
          let a : (n : ℕ) × (AtWaiting on ≡ AtWaiting (n ∷ [])) × (slice_get t.targets n ≡ Some awaiting.path) = subst P is agrees in
          let eq : AtWaiting on ≡ AtWaiting (a.0 ∷ []) = a.1 in
          (a.0, cc, a.2)

      pub answered-long : 0 < length on
      answered-long = omega (arith, ap length alone.1)

      pub answered-check : (place : ℕ) → slice_get on 0 ≡ Some place → IsAnsweredCheck given t at place
      answered-check place first =
          let same : alone.0 ≡ place = same-some _ _ _ (ap (λ ns. slice_get ns 0) alone.1) first in
          let P : ℕ → Type 0 = λ n. slice_get t.targets n ≡ Some awaiting.path in (
            slot,
            awaiting,
            record {
              there = there;
              was = is;
              distinct = keys-distinct given t stages answered.table answered.standing.0 answered.standing.1;
              path = path-there given t stages answered.table at slot there;
              number = subst P same alone.2;
              decided = decided 0 place first;
              fits = answered.table.fits;
              standing = answered.standing;
            },
          )

  -- the target is due or ready, and stands for the same entry
  gone-on : (u : Table) (old new : Slot) (s : StageView) → slice_get t.slots.items at ≡ Some old →
      slot_entry (rules_for given) (outcomes_at_limit given) (path_at t.targets at) new ≡
      slot_entry (rules_for given) (outcomes_at_limit given) (path_at t.targets at) old →
      Agrees r t.targets new.stage s →
      Fits r (outcomes_of (table_entries given t)) given (path_at t.targets at) new.turn new.stage →
      u.targets ≡ t.targets → u.slots.items ≡ slice_set t.slots.items at new → u.schedule ≡ with_stage t.schedule at s →
      is_going s ≡ true → IsGoneOnAt given t u at
  gone-on u old new s there same agrees' fit targets slots schedule is =
      let next = table-same given t stages answered.table answered.standing at old new there same s agrees' fit in
      let here : u.schedule.stages ≡ slice_set stages at s =
      ap (λ (x : ScheduleView). x.stages) schedule ∙ ap (λ (x : ScheduleView). slice_set x.stages at s) answered.now ∙ set-twice stages at AtHand s in
      record {
        table = rw (targets, slots, here) next;
        entries = rw (targets, slots) (entries-same given t stages answered.table answered.standing at old new there same);
        targets = targets;
        stage = s;
        going = is;
        schedule = schedule;
      }

  pub made_ready-gone_on : (u : Table) → IsMadeReadyAt given t u at → IsGoneOnAt given t u at
  made_ready-gone_on u f =
      let a = outcomes_of (table_entries given t) in
      let b = outcomes_at_limit given in
      let p = path_at t.targets at in
      let asked = all_asked f.begun.value.job f.begun.value.facts in
      let E : List Dep → Entry = λ ds. record { path = p; looks = f.old.looks; turn = f.old.turn; deps = ds; outcome = None; is_out = false } in
      let was : slot_entry r b p f.old ≡ E asked = rw f.was refl in
      let F : Stage → Type 0 = Fits r a given p f.old.turn in
      let waits : IsWaitingWith r a given p f.old.turn f.begun.value = subst F f.was (answered.table.fits at f.old f.there) in
      let parts : IsParked given p f.old.turn f.work = (f.same.0, f.same.1 ∙ waits.of_target, f.same.2 ∙ waits.at_turn) in
      let D : List Dep → Type 0 = λ ds. AllAnswered r a ds × (r.begins p (only (operands r ds) a) ≡ true) in
      let both = subst D (sym f.same.3) (answered-ready f.old f.there f.begun f.was) in
      gone-on u f.old (record f.old { stage = Ready f.work }) AtReady f.there (ap E f.same.3 ∙ sym was) refl (parts, both.0, both.1)
      f.targets f.slots f.schedule refl

  pub resumed-gone_on : (u : Table) → IsResumedAt given t u at → IsGoneOnAt given t u at
  resumed-gone_on u f =
      let b = outcomes_at_limit given in
      let p = path_at t.targets at in
      let asked = f.awaiting.held.value.check.asked in
      let next = next-agrees r t.targets f.stage f.is_open in
      let E : List Dep → Option Outcome → Bool → Entry = λ ds o is_out.
      record { path = p; looks = f.old.looks; turn = f.old.turn; deps = ds; outcome = o; is_out = is_out } in
      let new : slot_entry r b p (record f.old { stage = f.stage }) ≡ E asked None false =
      ap (λ ds. E ds (stage_outcome f.stage) (is_stage_out f.stage)) f.deps ∙
      ap (λ o. E asked o (is_stage_out f.stage)) next.1 ∙ ap (E asked None) next.2 in
      let old : slot_entry r b p f.old ≡ E asked None false = rw f.was refl in
      gone-on u f.old (record f.old { stage = f.stage }) (in_schedule f.stage) f.there (new ∙ sym old) next.0 f.fits f.targets f.slots f.schedule
      next.3

-- one target more went on
module _ (given : GivenView) (t mid : Table) (settling : IsSettling given t mid) (at : ℕ) (on : List ℕ) (answered : IsAnswered mid.schedule.stages at on) where
  pub settling-answered : IsStandingTable given t → (next : ScheduleView) → next ≡ with_stage mid.schedule at AtHand →
      IsAnsweredAt given (record mid { schedule = next }) at on
  settling-answered standing next is =
      let P : List Entry → Type 0 = AreStanding (rules_for given) standing.0 in
      record {
        before = mid.schedule;
        table = settling.table;
        standing = (standing.0, subst P (sym settling.entries) standing.1);
        answered = answered;
        now = is;
      }

  module _ (next : ScheduleView) (is : next ≡ with_stage mid.schedule at AtHand) (u : Table) (g : IsGoneOnAt given (record mid { schedule = next }) u at) where
    went : u.schedule ≡ with_stage (with_stage mid.schedule at AtHand) at g.stage
    went = g.schedule ∙ ap (λ (x : ScheduleView). with_stage x at g.stage) is

    went-stages : u.schedule.stages ≡ slice_set mid.schedule.stages at g.stage
    went-stages = ap (λ (x : ScheduleView). x.stages) went ∙ set-twice mid.schedule.stages at AtHand g.stage

    pub settling-more : IsSettling given t u
    settling-more = record {
      table = g.table;
      entries = g.entries ∙ settling.entries;
      targets = g.targets ∙ settling.targets;
      ready = ap (λ (x : ScheduleView). x.ready) went ∙ settling.ready;
      in_hand = λ k h. elim (set-cases mid.schedule.stages at k (AtWaiting on) g.stage AtHand answered.waited (sym (ap (λ ss. slice_get ss k) went-stages) ∙ h)) [
        | inl here ↦ absurd (let bad : false ≡ true = ap is_going (sym here.1) ∙ g.going in cc)
        | inr other ↦ settling.in_hand k other.1
      ];
    }

    pub settling-fewer : count_by is_waiting u.schedule.stages < count_by is_waiting mid.schedule.stages
    settling-fewer =
        let counted = count-set is_waiting mid.schedule.stages at (AtWaiting on) g.stage answered.waited in
        let none : ◌≡◌ {A = ℕ} (cond (is_waiting g.stage) 1 0) 0 = ap {B = ℕ} (λ b. cond b 1 0) (going-waits g.stage g.going) in
        omega (arith, counted, none, ap (count_by is_waiting) went-stages)
