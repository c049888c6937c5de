-- What a table keeps while what waits goes on.
use Rattle.std.proofs.Common.{slice_get, slice_set, ◌≡◌, ℕ, zero, suc, true, false}
use Rattle.std.proofs.Common.{◌⊎◌, inl, inr, List, ◌∷◌, length-set, Global}
use Rattle.std.proofs.Common.{Some, None, refl, sym, ap, subst, ◌∙◌, arith}
use Rattle.std.specs.Prelude.{is_none, is_some, Box}
use Rattle.std.proofs.lemmas.Bool.{both_ways}
use Rattle.redo_record.specs.Paths.{IsAmong}
use Rattle.redo_build.specs.Rules.{Ask, Rules, AreLawful, Extends, operands}
use Rattle.redo_build.specs.Outcomes.{outcome_at}
use Rattle.redo_build.specs.Schedule.{Entry, known_to, only, outcome_of, outcomes_of}
use Rattle.redo_rules.proofs.Public.{lawful_for}
use Rattle.redo_table.specs.Schedule.{StageView}
use Rattle.redo_core.specs.inside.Slots.{outcomes_at_limit, rounds_of, table_entries, entries_from, slot_entries}
use Rattle.redo_core.specs.inside.Slots.{slot_entry, stage_deps, stage_outcome, path_at, is_stage_decided, Agrees}
use Rattle.redo_core.specs.inside.Slots.{Fits, AllAnswered, AreNumbers, IsDecidedNumber, IsTable, IsWaitingWith}
use Rattle.redo_core.specs.inside.Slots.{IsFed, IsStandingTable, IsDecidedSlot, GivenView, rules_for, Slot, Table}
use Rattle.redo_core.specs.inside.Slots.{Stage, Waiting, Decided}
use Rattle.redo_core.specs.inside.Works.{all_asked, job_deps, told_in, waited_by}
use Rattle.redo_core.specs.declared.work.Begun.{Begun}
use Rattle.redo_build.proofs.QueueLemmas.{filter-keeps}
use Rattle.redo_build.proofs.HandoverLemmas.{taken-work, taken-deep}
use Rattle.redo_build.specs.inside.Turns.{IsWork}
use Rattle.redo_build.proofs.DepthLemmas.{cases_Option}
use Rattle.redo_core.proofs.AgreeLemmas.{agreed-set}
use Rattle.redo_core.proofs.NumberLemmas.{numbers-path}
use Rattle.redo_names.proofs.ListLemmas.{filter-from}
use Rattle.redo_names.proofs.PathLemmas.{among-place}
use Rattle.redo_core.proofs.AllAskedLemmas.{asked-cases, asked-second, first-alike, told-alike}
use Rattle.redo_core.proofs.TableLemmas.{fits-set}
use Rattle.redo_core.proofs.JobLemmas.{asked_of_job, asked_by_job}
use Rattle.redo_core.proofs.EntryLemmas.{entry-there, keys-distinct, path-there, rounds-few}
use Rattle.redo_core.proofs.SlotLemmas.{decided-outcome, entry_of-slots}
use Rattle.redo_record.specs.declared.deps.Dep.{Dep}

pub open-outcome : (stage : Stage) → is_stage_decided stage ≡ false → stage_outcome stage ≡ None
open-outcome (Decided f) h = cc
open-outcome _ h = refl

slot_entries-same : (r : Rules) (a : Ask) (ps : List (List ℕ)) (slots : List Slot) (i : ℕ) (p : List ℕ) (old new : Slot) →
    slice_get ps i ≡ Some p → slice_get slots i ≡ Some old → slot_entry r a p new ≡ slot_entry r a p old →
    slot_entries r a ps (slice_set slots i new) ≡ slot_entries r a ps slots
slot_entries-same r a (q ∷ ps) (s ∷ slots) zero p old new here there same =
    let path : q ≡ p = cc in
    let is : s ≡ old = cc in
    let P : List ℕ → Slot → Type 0 = λ x y. slot_entry r a x new ≡ slot_entry r a x y in
    let A : Slot → Type 0 = λ y. P p y in
    let B : List ℕ → Type 0 = λ x. P x s in
    ap (λ e. e ∷ slot_entries r a ps slots) (subst B (sym path) (subst A (sym is) same))
slot_entries-same r a (q ∷ ps) (s ∷ slots) (suc i) p old new here there same =
    ap (λ es. slot_entry r a q s ∷ es) (slot_entries-same r a ps slots i p old new here there same)
slot_entries-same r a _ _ i p old new here there same = refl

-- what is waited for was asked for
pub waited-declared : (r : Rules) (begun : Begun) (q : List ℕ) → IsAmong (waited_by r begun) q → IsAmong (operands r begun.job.state.entries) q
waited-declared r begun q m = filter-from (λ x. is_none (told_in begun.facts x)) (operands r begun.job.state.entries) q m

-- and what was asked for and has no answer is waited for
pub waited-place : (r : Rules) (begun : Begun) (q : List ℕ) → IsAmong (operands r begun.job.state.entries) q → told_in begun.facts q ≡ None →
    (k : ℕ) × (slice_get (waited_by r begun) k ≡ Some q)
waited-place r begun q m none =
    among-place (waited_by r begun) q (filter-keeps (λ x. is_none (told_in begun.facts x)) (operands r begun.job.state.entries) q m (rw none refl))

pub number-decided : (t : Table) (q : List ℕ) (n : ℕ) → slice_get t.targets n ≡ Some q → IsDecidedNumber t n → IsDecidedSlot t q
number-decided t q n path d = record { at = n; slot = d.0; path = path; there = d.1; decided = d.2 }

-- a job that waits
module _ (given : GivenView) (a : Ask) (p : List ℕ) (turn : ℕ) (begun : Begun) (waits : IsWaitingWith (rules_for given) a given p turn begun) where
  -- what the job declared it asked for
  own_asked : (q : List ℕ) → IsAmong (operands (rules_for given) begun.job.state.entries) q →
      IsAmong (operands (rules_for given) (all_asked begun.job begun.facts)) q
  own_asked q m =
      asked-second (rules_for given) begun.facts.asked (job_deps begun.job) q
      (asked_of_job given begun.job waits.is_job (omega (arith, waits.at_turn, waits.stopped)) q m)

  -- what it asked for its check did, or the job declared
  own_from : (q : List ℕ) → IsAmong (operands (rules_for given) (all_asked begun.job begun.facts)) q →
      IsAmong (operands (rules_for given) begun.facts.asked) q ⊎ IsAmong (operands (rules_for given) begun.job.state.entries) q
  own_from q m = elim (asked-cases (rules_for given) begun.facts.asked (job_deps begun.job) q m) [
    | inl first ↦ inl first
    | inr second ↦ inr (asked_by_job given begun.job waits.is_job q second)
  ]

  -- what is waited for is asked for
  pub waited_asked : (q : List ℕ) → IsAmong (waited_by (rules_for given) begun) q →
      IsAmong (operands (rules_for given) (all_asked begun.job begun.facts)) q
  waited_asked q m = own_asked q (waited-declared (rules_for given) begun q m)

  -- its script is begun with all that it asked for
  pub waits_begins : (rules_for given).begins p (only (operands (rules_for given) (all_asked begun.job begun.facts)) a) ≡ true
  waits_begins =
      let r = rules_for given in
      let asked = begun.facts.asked in
      let here = told-alike r (told_in begun.facts) a asked (λ q o h. (waits.told q o h).1) waits.checked in
      let there = first-alike r a asked (job_deps begun.job) in
      waits.behind.begins (only (operands r (all_asked begun.job begun.facts)) a) (λ q m. here q m ∙ there q m)

  -- with answers to all that it waits for it has all that it asked for
  pub waits_answered : ((q : List ℕ) → IsAmong (waited_by (rules_for given) begun) q → a q ≡ None → ⊥) →
      AllAnswered (rules_for given) a (all_asked begun.job begun.facts)
  waits_answered all q m none = elim (cases_Option (told_in begun.facts q)) [
    | inl lost ↦ elim (own_from q m) [
      | inl first ↦ waits.checked q first lost
      | inr own ↦ all q (filter-keeps (λ x. is_none (told_in begun.facts x)) (operands (rules_for given) begun.job.state.entries) q own (rw lost refl)) none
    ]
    | inr some ↦ let bad = sym (waits.told q some.0 some.1).1 ∙ none in cc
  ]

-- the table before a step; the schedule has these stages
module _ (given : GivenView) (t : Table) (stages : List StageView) (table : IsTable (rules_for given) given t.targets t.slots.items stages)
    (standing : IsStandingTable given t) where
  abbrev r : Rules
  r = rules_for given

  abbrev es : List Entry
  es = table_entries given t

  lawful : AreLawful (rules_for given)
  lawful = lawful_for given

  pub decided-known : (q : List ℕ) → IsDecidedSlot t q → outcomes_of (table_entries given t) q ≡ None → ⊥
  decided-known q d none =
      let here = ap outcome_of (entry_of-slots r (outcomes_at_limit given) t.targets t.slots.items d.at q d.slot (keys-distinct given t stages table standing.0 standing.1) d.path d.there) in
      both_ways _ (ap is_some (sym here ∙ none)) (decided-outcome d.slot.stage ∙ d.decided)

  -- a parked job, where all that it waits for is decided
  module _ (at : ℕ) (slot : Slot) (begun : Box Begun Global) (there : slice_get t.slots.items at ≡ Some slot) (is : slot.stage ≡ Waiting begun) where
    parked_fits : IsWaitingWith (rules_for given) (outcomes_of (table_entries given t)) given (path_at t.targets at) slot.turn begun.value
    parked_fits = let P : Stage → Type 0 = Fits r (outcomes_of es) given (path_at t.targets at) slot.turn in subst P is (table.fits at slot there)

    parked_deps : stage_deps (rules_for given) (outcomes_at_limit given) (path_at t.targets at) (rounds_of slot) slot.stage ≡ all_asked begun.value.job begun.value.facts
    parked_deps = rw is refl

    module _ (on : List ℕ) (numbered : AreNumbers t.targets on (waited_by (rules_for given) begun.value))
        (decided : (i n : ℕ) → slice_get on i ≡ Some n → IsDecidedNumber t n) where
      waited_known : (q : List ℕ) → IsAmong (waited_by (rules_for given) begun.value) q →
          outcomes_of (table_entries given t) q ≡ None → ⊥
      waited_known q m none =
          let place = among-place (waited_by r begun.value) q m in
          let number = numbers-path t.targets on (waited_by r begun.value) place.0 q numbered place.1 in
          decided-known q (number-decided t q number.0 number.2 (decided place.0 number.0 number.1)) none

      pub parked_ready : AllAnswered (rules_for given) (outcomes_of (table_entries given t)) (all_asked begun.value.job begun.value.facts) ×
          ((rules_for given).begins (path_at t.targets at) (only (operands (rules_for given) (all_asked begun.value.job begun.value.facts)) (outcomes_of (table_entries given t))) ≡ true)
      parked_ready = (
        waits_answered given (outcomes_of es) (path_at t.targets at) slot.turn begun.value parked_fits waited_known,
        waits_begins given (outcomes_of es) (path_at t.targets at) slot.turn begun.value parked_fits,
      )

      parked_open : stage_outcome slot.stage ≡ None
      parked_open = rw is refl

      entry_answered : (q : List ℕ) → IsAmong (operands (rules_for given) (slot_entry (rules_for given) (outcomes_at_limit given) (path_at t.targets at) slot).deps) q →
          outcomes_of (table_entries given t) q ≡ None → ⊥
      entry_answered = let P : List Dep → Type 0 = AllAnswered r (outcomes_of es) in subst P (sym parked_deps) parked_ready.0

      -- a parked job with all its answers can be made a work
      pub parked_fed : IsFed given t at on
      parked_fed =
          let e = slot_entry r (outcomes_at_limit given) (path_at t.targets at) slot in
          let S : List Dep → Type 0 = λ ds. r.begins (path_at t.targets at) (only (operands r ds) (outcomes_of es)) ≡ true in
          let starts : r.begins e.path (known_to r es e) ≡ true = subst S (sym parked_deps) parked_ready.1 in
          let work : IsWork r (path_at t.targets at) slot.turn e.deps =
          taken-work r lawful standing.0 es standing.1 (path_at t.targets at) e (entry-there given t stages table standing.0 standing.1 at slot there) parked_open entry_answered starts in
          let W : Type 0 = (work' : IsWork r begun.value.job.target begun.value.job.turn (all_asked begun.value.job begun.value.facts)) × Extends r (outcomes_of es) (outcome_at r work'.depth) in
          let A : List Dep → Type 0 = λ ds. (work' : IsWork r (path_at t.targets at) slot.turn ds) × Extends r (outcomes_of es) (outcome_at r work'.depth) in
          let B : List ℕ → Type 0 = λ p. (work' : IsWork r p slot.turn (all_asked begun.value.job begun.value.facts)) × Extends r (outcomes_of es) (outcome_at r work'.depth) in
          let C : ℕ → Type 0 = λ k. (work' : IsWork r begun.value.job.target k (all_asked begun.value.job begun.value.facts)) × Extends r (outcomes_of es) (outcome_at r work'.depth) in
          let deep : W = subst C (sym parked_fits.at_turn) (subst B (sym parked_fits.of_target) (subst A parked_deps
          (taken-deep r lawful standing.0 es standing.1 (path_at t.targets at) e (entry-there given t stages table standing.0 standing.1 at slot there) parked_open entry_answered starts))) in
          let few = rounds-few given t stages table standing.0 standing.1 (path_at t.targets at) e (entry-there given t stages table standing.0 standing.1 at slot there) parked_open entry_answered in (
            slot,
            begun,
            record {
              there = there;
              was = is;
              distinct = keys-distinct given t stages table standing.0 standing.1;
              waits = parked_fits;
              fits = table.fits;
              numbered = numbered;
              decided = decided;
              is_work = deep.0;
              deep = deep.1;
              few = omega (arith, few, parked_fits.at_turn);
            },
          )

  -- a slot is replaced by one that stands for the same entry
  module _ (at : ℕ) (old new : Slot) (there : slice_get t.slots.items at ≡ Some old)
      (same : slot_entry (rules_for given) (outcomes_at_limit given) (path_at t.targets at) new ≡
      slot_entry (rules_for given) (outcomes_at_limit given) (path_at t.targets at) old) where
    pub entries-same : entries_from (rules_for given) given.limits.targets t.targets (slice_set t.slots.items at new) ≡ table_entries given t
    entries-same = slot_entries-same r (outcomes_at_limit given) t.targets t.slots.items at (path_at t.targets at) old new (path-there given t stages table at old there) there same

    pub table-same : (s : StageView) → Agrees (rules_for given) t.targets new.stage s →
        Fits (rules_for given) (outcomes_of (table_entries given t)) given (path_at t.targets at) new.turn new.stage →
        IsTable (rules_for given) given t.targets (slice_set t.slots.items at new) (slice_set stages at s)
    table-same s agrees fit =
        let len = length-set t.slots.items at new in
        let P : List Entry → Type 0 = λ xs. Extends r (outcomes_of es) (outcomes_of xs) in
        let F : List Entry → Type 0 = λ xs. Fits r (outcomes_of xs) given (path_at t.targets at) new.turn new.stage in
        record {
          one_each = len ∙ table.one_each;
          within_limit = omega (arith, len, table.within_limit);
          few = table.few;
          fits = fits-set r lawful given.limits.targets t.targets t.slots.items at (path_at t.targets at) old new (keys-distinct given t stages table standing.0 standing.1) (path-there given t stages table at old there) there given refl
              (subst P (sym entries-same) (λ q o s' h. h)) table.fits (subst F (sym entries-same) fit);
          agreed = agreed-set r t.targets t.slots.items stages table.agreed at old new s there agrees;
        }
