-- The newly ready numbers, in order, are those of the entries that an event enqueues.
use Rattle.std.proofs.Common.{map, slice_get, ◌≡◌, ℕ, zero, suc, ◌+◌, ◌<◌, true, false, is_none, ◌⊎◌, inl, inr, List}
use Rattle.std.proofs.Common.{[], ◌∷◌, length, filter, ◌↔◌, Some, None, refl, sym, ap, subst, ◌∙◌, arith}
use Rattle.std.proofs.lemmas.Bool.{cases_lt, both_ways, and_from, not_from_false, false_from_ne_true}
use Rattle.redo_names.proofs.ListLemmas.{IsAmong-same}
use Rattle.redo_names.proofs.PathLemmas.{among-told, place-among, told-among}
use Rattle.redo_record.specs.Paths.{IsAmong, AreDistinct, is_among}
use Rattle.redo_build.specs.Rules.{Ask, Rules, operands}
use Rattle.redo_build.specs.Schedule.{Entry, State, outcomes_of, paths_of, known_to, may_run, lacks_none, only}
use Rattle.redo_core.specs.inside.Slots.{outcomes_at_limit, rounds_of, state_from, slot_entries, slot_entry}
use Rattle.redo_core.specs.inside.Slots.{stage_deps, stage_outcome, path_at, is_stage_out, is_stage_ready}
use Rattle.redo_core.specs.inside.Slots.{is_stage_waiting, AllAnswered, IsTableOf, Fits, IsDueWith, GivenView}
use Rattle.redo_core.specs.inside.Slots.{rules_for, InCheck, Slot, Table, Stage, Due, Checking, Waiting, Ready, Out}
use Rattle.redo_core.specs.inside.Slots.{Decided}
use Rattle.redo_table.specs.Schedule.{EachLacks, IsQueue, stage_at, times}
use Rattle.redo_table.specs.Schedule.StageView.{Ready as AtReady}
use Rattle.redo_core.proofs.AgreeLemmas.{agreed-stage, agrees-ready, ready-agrees}
use Rattle.redo_core.proofs.WaitedLemmas.{waited-lacks}
use Rattle.redo_core.specs.inside.Checking.{IsDueCheck, asks_next}
use Rattle.redo_core.specs.declared.check.Check.{Check}
use Rattle.redo_core.proofs.CheckingLemmas.{due-asks, due-kept}
use Rattle.redo_build.proofs.DepthLemmas.{cases_Option}
use Rattle.std.specs.Prelude.{Box}
use Rattle.std.proofs.Common.{Global}
use Rattle.redo_build.proofs.SoundLemmas.{may_run-parts, lacks_none-from, lacks_none-true}
use Rattle.redo_core.proofs.EntryLemmas.{path-below}
use Rattle.redo_core.proofs.SlotLemmas.{length-slots, ready-job}
use Rattle.std.proofs.lemmas.Option.{slice_get_within}
use Rattle.redo_core.proofs.RowLemmas.{among-key, key-among}
use Rattle.redo_core.proofs.PlaceLemmas.{AscendFrom, IsPlace, filter-places, place-times, times-place}
use Rattle.redo_record.specs.declared.deps.Dep.{Dep}

pub distinct-place : (ps : List (List ℕ)) (i j : ℕ) (p : List ℕ) → AreDistinct ps → slice_get ps i ≡ Some p → slice_get ps j ≡ Some p → i ≡ j
distinct-place [] i j p d h g = cc
distinct-place (x ∷ ps) zero zero p d h g = refl
distinct-place (x ∷ ps) zero (suc j) p d h g = absurd (let is : p ≡ x = cc in d.0 (IsAmong-same ps p x is (place-among ps j p g)))
distinct-place (x ∷ ps) (suc i) zero p d h g = absurd (let is : p ≡ x = cc in d.0 (IsAmong-same ps p x is (place-among ps i p h)))
distinct-place (x ∷ ps) (suc i) (suc j) p d h g = ap suc (distinct-place ps i j p d.1 h g)

pub slot-of-entry : (r : Rules) (a : Ask) (ps : List (List ℕ)) (slots : List Slot) (i : ℕ) (e : Entry) → slice_get (slot_entries r a ps slots) i ≡ Some e →
    (slot : Slot) × (p : List ℕ) × (slice_get slots i ≡ Some slot) × (slice_get ps i ≡ Some p) × (slot_entry r a p slot ≡ e)
slot-of-entry r a (p ∷ ps) (s ∷ slots) zero e h = (s, p, refl, refl, (cc))
slot-of-entry r a (p ∷ ps) (s ∷ slots) (suc i) e h = slot-of-entry r a ps slots i e h
slot-of-entry r a _ _ i e h = cc

-- the script of a target isn't begun while its check can go on
pub due-begins : (given : GivenView) (p : List ℕ) (a : Ask) (c : Check) → IsDueCheck given p a c →
    (rules_for given).begins p (only (operands (rules_for given) c.asked) a) ≡ false
due-begins given p a c due = elim (cases_Option (asks_next given c)) [
  | inl none ↦ (due-kept given p c a due none).1
  | inr some ↦ (due-asks given p c a due some.0 some.1).1
]

module _ (given : GivenView) (t : Table) (more : List ℕ) (table : IsTableOf given t) (distinct : AreDistinct t.targets)
    (lacks : EachLacks t.schedule.stages) (queue : IsQueue t.schedule) (ascends : AscendFrom 0 more)
    (are_more : (k : ℕ) → (0 < times k more) ↔ ((stage_at t.schedule k ≡ Some AtReady) × (times k t.schedule.ready ≡ 0))) where
  abbrev r : Rules
  r = rules_for given

  abbrev a : Ask
  a = outcomes_at_limit given

  abbrev s : State
  s = state_from (rules_for given) given.limits.targets t.targets t.slots.items t.schedule.ready

  -- a number with a stage is one of a slot
  staged-below : (k : ℕ) → stage_at t.schedule k ≡ Some AtReady → k < length t.slots.items
  staged-below k h = omega (arith, slice_get_within t.schedule.stages k AtReady h, table.agreed.one_each)

  make_ready-there : (i : ℕ) (e : Entry) → slice_get s.entries i ≡ Some e → 0 < times i more → may_run (rules_for given) s e ≡ true
  make_ready-there i e h m =
      let found = slot-of-entry r a t.targets t.slots.items i e h in
      let slot = found.0 in
      let p = found.1 in
      let is_more = (are_more i).0 m in
      let ready = agrees-ready r t.targets slot.stage AtReady (table.agreed.each i slot AtReady found.2 is_more.0) refl in
      let job = ready-job r (outcomes_of s.entries) given (path_at t.targets i) slot.turn slot.stage (table.fits i slot found.2) ready in
      let outcome : e.outcome ≡ None = sym (ap (λ (x : Entry). x.outcome) found.4) ∙ (let O : Stage → Type 0 = λ st. stage_outcome st ≡ None in subst O (sym job.1) refl) in
      let inside : e.is_out ≡ false = sym (ap (λ (x : Entry). x.is_out) found.4) ∙ (let I : Stage → Type 0 = λ st. is_stage_out st ≡ false in subst I (sym job.1) refl) in
      let work = job.0 in
      let D : Stage → Type 0 = λ st. stage_deps r a p (rounds_of slot) st ≡ work.deps in
      let deps : e.deps ≡ job.0.deps = sym (ap (λ (x : Entry). x.deps) found.4) ∙ subst D (sym job.1) refl in
      let path : e.path ≡ p = sym (ap (λ (x : Entry). x.path) found.4) in
      let P : List Dep → Type 0 = λ ds. AllAnswered r (outcomes_of s.entries) ds in
      let all : lacks_none r s.entries e ≡ true = lacks_none-from r s.entries e (subst P (sym deps) job.3) in
      let away : is_among s.ready e.path ≡ false = false_from_ne_true _ (λ yes'.
      let at = among-key (path_at t.targets) t.schedule.ready e.path (among-told s.ready e.path yes') in
      let same : at.0 ≡ i = distinct-place t.targets at.0 i p distinct
      (path-below given t t.schedule.stages table at.0 (staged-below at.0 (queue.are_ready at.0 (place-times t.schedule.ready at.0 at.1))) ∙ ap Some (at.2 ∙ path)) found.3 in
      let Q : ℕ → Type 0 = IsPlace t.schedule.ready in
      omega (arith, is_more.1, place-times t.schedule.ready i (subst Q same at.1))) in
      let here : path_at t.targets i ≡ e.path = (let same : path_at t.targets i ≡ p = rw found.3 refl in same) ∙ sym path in
      let B : List ℕ → List Dep → Type 0 = λ q ds. r.begins q (only (operands r ds) (outcomes_of s.entries)) ≡ true in
      let A : List ℕ → Type 0 = λ q. B q work.deps in
      let C : List Dep → Type 0 = λ ds. B e.path ds in
      let begun : r.begins e.path (known_to r s.entries e) ≡ true = subst C (sym deps) (subst A here job.4) in
      and_from _ _ (and_from _ _ (and_from _ _ (and_from _ _ (let o : is_none e.outcome ≡ true = rw outcome refl in o) all) (not_from_false _ inside)) (not_from_false _ away)) begun

  make_ready-alone : (i : ℕ) (e : Entry) → slice_get s.entries i ≡ Some e → may_run (rules_for given) s e ≡ true → 0 < times i more
  make_ready-alone i e h free =
      let found = slot-of-entry r a t.targets t.slots.items i e h in
      let slot = found.0 in
      let p = found.1 in
      let parts = may_run-parts r s e free in
      let path : e.path ≡ p = sym (ap (λ (x : Entry). x.path) found.4) in
      let here : path_at t.targets i ≡ p = rw found.3 refl in
      let outcome : stage_outcome slot.stage ≡ None = ap (λ (x : Entry). x.outcome) found.4 ∙ parts.0 in
      let inside : is_stage_out slot.stage ≡ false = ap (λ (x : Entry). x.is_out) found.4 ∙ parts.2 in
      elim (three slot.stage outcome inside) [
        | inl waits ↦ absurd (
            let lack = waited-lacks given t t.schedule.stages table distinct lacks i slot found.2 waits in
            let D : List ℕ → Type 0 = λ x. IsAmong (operands r (stage_deps r a x (rounds_of slot) slot.stage)) lack.0 in
            let E : Entry → Type 0 = λ x. IsAmong (operands r x.deps) lack.0 in
            lacks_none-true r s.entries e parts.1 lack.0 (subst E found.4 (subst D here lack.1)) lack.2)
        | inr other ↦ elim other [
          | inl ready ↦
              let stage = agreed-stage r t.targets t.slots.items t.schedule.stages table.agreed i slot found.2 in
              let staged = stage.1 ∙ ap Some (ready-agrees r t.targets slot.stage stage.0 stage.2 ready) in
              elim (cases_lt 0 (times i t.schedule.ready)) [
                | inl queued ↦ absurd (both_ways _ parts.3 (told-among s.ready e.path
                    (IsAmong-same s.ready (path_at t.targets i) e.path (here ∙ sym path) (key-among (path_at t.targets) t.schedule.ready i (times-place t.schedule.ready i queued)))))
                | inr none ↦ (are_more i).1 (staged, omega (arith, none))
              ]
          | inr due ↦ absurd (
              let F : Stage → Type 0 = Fits r (outcomes_of s.entries) given (path_at t.targets i) slot.turn in
              let fits : IsDueWith r (outcomes_of s.entries) given (path_at t.targets i) slot.turn due.0.value = subst F due.1 (table.fits i slot found.2) in
              let D : Stage → Type 0 = λ st. stage_deps r a p (rounds_of slot) st ≡ due.0.value.check.asked in
              let deps : e.deps ≡ due.0.value.check.asked = sym (ap (λ (x : Entry). x.deps) found.4) ∙ subst D (sym due.1) refl in
              let B : List ℕ → List Dep → Type 0 = λ q ds. r.begins q (only (operands r ds) (outcomes_of s.entries)) ≡ true in
              let A : List ℕ → Type 0 = λ q. B q due.0.value.check.asked in
              let C : List Dep → Type 0 = λ ds. B e.path ds in
              both_ways _ (due-begins given (path_at t.targets i) (outcomes_of s.entries) due.0.value.check fits.is_due)
              (subst A (path ∙ sym here) (subst C deps parts.4)))
        ]
      ]
    where
      three : (stage : Stage) → stage_outcome stage ≡ None → is_stage_out stage ≡ false →
          (is_stage_waiting stage ≡ true) ⊎ ((is_stage_ready stage ≡ true) ⊎ ((held : Box InCheck Global) × (stage ≡ Due held)))
      three (Due held) o i' = inr (inr (held, refl))
      three (Checking awaiting) o i' = inl refl
      three (Waiting begun) o i' = inl refl
      three (Ready work) o i' = inr (inl refl)
      three Out o i' = cc
      three (Decided fact) o i' = cc

  pub newly_ready-paths : paths_of (filter (may_run (rules_for given) s) s.entries) ≡ map (path_at t.targets) more
  newly_ready-paths = filter-places (may_run r s) (path_at t.targets) 0 s.entries more (record {
    ascending = ascends;
    within = λ k m. omega (arith, staged-below k ((are_more k).0 (place-times more k m)).0, length-slots r a t.targets t.slots.items table.one_each);
    passes = λ i e h m. let P : ℕ → Type 0 = IsPlace more in let same : 0 + i ≡ i = omega arith in make_ready-there i e h (place-times more i (subst P same m));
    alone = λ i e h t'. let P : ℕ → Type 0 = IsPlace more in let same : i ≡ 0 + i = omega arith in subst P same (times-place more i (make_ready-alone i e h t'));
    named = λ i e h.
        let found = slot-of-entry r a t.targets t.slots.items i e h in
        let same : 0 + i ≡ i = omega arith in
        let here : path_at t.targets i ≡ found.1 = rw found.3 refl in
        ap (path_at t.targets) same ∙ here ∙ ap (λ (x : Entry). x.path) found.4;
  })
