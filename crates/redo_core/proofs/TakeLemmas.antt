-- What `take` finds on a board.
use Rattle.std.proofs.Common.{Bool, true, false, not, map, Vec, Global, length-set, ◌≡◌, ℕ, ◌<◌}
use Rattle.std.proofs.Common.{◌≤◌, true, false, cond, inl, inr, List, [], ◌∷◌, length, Option, Some, None}
use Rattle.std.proofs.Common.{is_some, slice_get, slice_set, remove, refl, sym, ap, subst, ◌∙◌, arith}
use Rattle.redo_names.proofs.PathLemmas.{place-among}
use Rattle.redo_build.specs.Rules.{Rules, operands, AreLawful}
use Rattle.redo_record.specs.Paths.{AreDistinct}
use Rattle.redo_rules.proofs.Public.{lawful_for}
use Rattle.redo_table.specs.Schedule.{StageView, ScheduleView, EachLacks, IsQueue, stage_at, times, with_stage}
use Rattle.redo_table.specs.Schedule.StageView.{Due as AtDue, Ready as AtReady, Out as AtOut, InHand as AtHand}
use Rattle.redo_table.specs.Schedule.StageView.{Waiting as AtWaiting, Decided as AtDecided}
use Rattle.redo_table.proofs.NumberLemmas.{at-other, times-taken}
use Rattle.redo_table.proofs.TargetLemmas.{set-cases, there-below}
use Rattle.redo_core.proofs.AgreeLemmas.{agreed-set, agrees-ready}
use Rattle.redo_build.proofs.ReachedLemmas.{reached-more}
use Rattle.redo_build.specs.Schedule.{IsReached, Entry, State, entry_of, happens}
use Rattle.redo_build.specs.Schedule.{outcomes_of, only, IsQuiet}
use Rattle.redo_build.specs.Schedule.Event.{Take}
use Rattle.redo_core.specs.inside.Slots.{outcomes_at_limit, rounds_of, stage_outcome, rules_inside, state_of}
use Rattle.redo_core.specs.inside.Slots.{state_from, slot_entry, path_at, AllAnswered, IsKept, IsBoard, IsParked}
use Rattle.redo_core.specs.inside.Slots.{IsResting, IsTable, stage_deps, rules_for, Slot, Ready, Out}
use Rattle.redo_build.specs.Outcomes.{outcome_at}
use Rattle.redo_core.proofs.TableLemmas.{fits-set, outcomes-more}
use Rattle.redo_core.specs.Views.{jobs_out, ready_count, rules_on, told_by, BoardView, WorkView, IsWorkTaken}
use Rattle.redo_core.specs.inside.Works.{HoldsOutcomes}
use Rattle.redo_core.specs.declared.board.Board.TheInside.{Inside}
use Rattle.redo_core.specs.declared.work.Work.{Work}
use Rattle.redo_core.proofs.HoldingLemmas.{same-answers}
use Rattle.redo_core.proofs.LookLemmas.{none_due}
use Rattle.redo_core.proofs.EntryLemmas.{entries-few, rest-distinct, rest-sound}
use Rattle.redo_build.specs.Looking.{NoneDue}
use Rattle.redo_build.proofs.QuietLemmas.{is_part, shows}
use Rattle.redo_build.specs.Theorems.{IsPartOfBuild, ShowsBuild}
use Rattle.redo_build.proofs.TurnBoundLemmas.{turn-below}
use Rattle.redo_build.proofs.SoundLemmas.{IsSound}
use Rattle.redo_core.proofs.SlotLemmas.{slice_get-map, ready-job, entry}
use Rattle.std.proofs.lemmas.List.{length-map}
use Rattle.std.proofs.lemmas.Option.{slice_get_within}
use Rattle.redo_core.proofs.SlotLemmas.{length-slots, state_taken}

pub sound-inside : (b : Inside) → IsKept b → IsSound (rules_inside b) b.build.request (state_of b)
sound-inside b kept = rest-sound b.build b.table kept.at_rest

abbrev lawful_inside : (b : Inside) → AreLawful (rules_inside b)
lawful_inside b = lawful_for b.build

pub distinct-inside : (b : Inside) → IsKept b → AreDistinct b.table.targets
distinct-inside b kept = rest-distinct b.build b.table kept.at_rest

module _ (b : Inside) (kept : IsKept b) (which at : ℕ) (slot : Slot)
    (first : slice_get b.table.schedule.ready which ≡ Some at) (staged : stage_at b.table.schedule at ≡ Some AtReady)
    (there : slice_get b.table.slots.items at ≡ Some slot) where
  here : at < length b.table.targets
  here = omega (arith, slice_get_within b.table.slots.items at slot there, kept.at_rest.table.one_each)

  pub found_path : (p : List ℕ) × (slice_get b.table.targets at ≡ Some p)
  found_path = there-below b.table.targets at here

  pub found_job : (work : Work) × (slot.stage ≡ Ready work) × IsParked b.build (path_at b.table.targets at) slot.turn work ×
      AllAnswered (rules_inside b) (outcomes_of (state_of b).entries) work.deps
  found_job =
      let agrees = kept.at_rest.table.agreed.each at slot AtReady there staged in
      let job = ready-job (rules_inside b) (outcomes_of (state_of b).entries) b.build (path_at b.table.targets at) slot.turn slot.stage
      (kept.at_rest.table.fits at slot there) (agrees-ready (rules_inside b) b.table.targets slot.stage AtReady agrees refl) in
      (job.0, job.1, job.2, job.3)

  pub taken_state : state_from (rules_inside b) b.build.limits.targets b.table.targets (slice_set b.table.slots.items at (record slot { stage = Out })) (remove b.table.schedule.ready which) ≡
      happens (rules_inside b) (state_of b) (Take which)
  taken_state = state_taken (rules_inside b) (lawful_inside b) b.build.limits.targets b.build.request b.table.targets b.table.slots.items b.table.schedule.ready (sound-inside b kept) kept.at_rest.table.one_each kept.at_rest.table.within_limit
      which at found_path.0 slot found_job.0 first found_path.1 there found_job.1

  pub work_taken : (view : BoardView) → (view.given ≡ b.build) → (view.state ≡ state_of b) →
      (work : Work) → slot.stage ≡ Ready work → HoldsOutcomes work → IsWorkTaken view which work
  work_taken view given state work is holds =
      let job = found_job in
      let same : job.0 ≡ work = let both : Ready job.0 ≡ Ready work = sym job.1 ∙ is in cc in
      let P : WorkView → Type 0 = λ w. IsParked b.build (path_at b.table.targets at) slot.turn w in
      let parked = subst P same job.2 in
      let path = found_path in
      let at_path : path_at b.table.targets at ≡ path.0 = rw path.1 refl in
      let target : work.target ≡ path.0 = parked.1 ∙ at_path in
      let Q : State → Type 0 = λ s. slice_get s.ready which ≡ Some work.target in
      let spot : slice_get (state_of b).ready which ≡ Some (path_at b.table.targets at) =
      slice_get-map (path_at b.table.targets) b.table.schedule.ready which at first in
      record {
        given = parked.0 ∙ sym given;
        target = subst Q (sym state) (spot ∙ ap Some (sym parked.1));
        turn = λ e h.
            let R : State → Type 0 = λ s. entry_of s.entries work.target ≡ Some e in
            let S : List ℕ → Type 0 = λ x. entry_of (state_of b).entries x ≡ Some e in
            let now = subst S target (subst R state h) in
            let known = entry (rules_inside b) (lawful_inside b) b.build.limits.targets b.build.request b.table.targets b.table.slots.items b.table.schedule.ready (sound-inside b kept) kept.at_rest.table.one_each kept.at_rest.table.within_limit
            which at path.0 slot work first path.1 there is in
            let e_is : slot_entry (rules_inside b) (outcomes_at_limit b.build) path.0 slot ≡ e = let both = sym known ∙ now in cc in (
              parked.2 ∙ ap (λ (x : Entry). x.turn) e_is,
              sym (deps_parked path.0) ∙ ap (λ (x : Entry). x.deps) e_is,
            );
        known = λ q.
            let r = rules_inside b in
            let es = (state_of b).entries in
            let own : rules_for work.given ≡ r = ap rules_for parked.0 in
            let H : Rules → Type 0 = λ x. AllAnswered x (outcome_at x holds.depth) work.deps in
            let K : Rules → Type 0 = λ x. told_by work.known q ≡ only (operands x work.deps) (outcome_at x holds.depth) q in
            let A : WorkView → Type 0 = λ w. AllAnswered r (outcomes_of es) w.deps in
            let same_answers = same-answers r (lawful_inside b) b.build.request es (sound-inside b kept).standing holds.depth work.deps (subst H own holds.fed) (subst A same job.3) q in
            let shown : rules_on view ≡ r = ap rules_for given in
            let S : State → Type 0 = λ s. told_by work.known q ≡ only (operands r work.deps) (outcomes_of s.entries) q in
            let R : Rules → Type 0 = λ x. told_by work.known q ≡ only (operands x work.deps) (outcomes_of view.state.entries) q in
            subst R (sym shown) (subst S (sym state) (subst K own (holds.exact q) ∙ same_answers));
      }
    where
      deps_parked : (p : List ℕ) → stage_deps (rules_inside b) (outcomes_at_limit b.build) p (rounds_of slot) slot.stage ≡ work.deps
      deps_parked p = rw is refl

pub running : {A : Type 0} (stopped : Option A) (n which : ℕ) → which < cond (is_some stopped) 0 n → is_some stopped ≡ false
running None n which h = refl
running (Some x) n which h = absurd (omega arith)

pub below-length : {A : Type 0} (stopped : Option A) (n which : ℕ) → which < cond (is_some stopped) 0 n → which < n
below-length None n which h = h
below-length (Some stop) n which h = absurd (omega (arith, h))

module _ (b : Inside) (kept : IsKept b) (which at : ℕ) (slot : Slot)
    (first : slice_get b.table.schedule.ready which ≡ Some at) (staged : stage_at b.table.schedule at ≡ Some AtReady)
    (there : slice_get b.table.slots.items at ≡ Some slot) (below : which < length b.table.schedule.ready) where
  abbrev stages : List StageView
  stages = b.table.schedule.stages

  rest : IsResting b.table.schedule
  rest = kept.at_rest.resting

  -- each other stage is as it was
  other-stage : (k : ℕ) (s : StageView) → (AtOut ≡ s → ⊥) → slice_get (slice_set stages at AtOut) k ≡ Some s → (at ≡ k → ⊥) × (slice_get stages k ≡ Some s)
  other-stage k s apart h = elim (set-cases stages at k AtReady AtOut s staged h) [
    | inl here' ↦ absurd (apart here'.1)
    | inr other ↦ other
  ]

  lacks-taken : EachLacks (slice_set stages at AtOut)
  lacks-taken k on h =
      let lack = rest.lacks k on (other-stage k (AtWaiting on) (λ e. cc) h).1 in
      record {
        i = lack.i;
        k = lack.k;
        there = lack.there;
        undecided = λ d. lack.undecided (other-stage lack.k AtDecided (λ e. cc) d).1;
      }

  queued-taken : (k : ℕ) → slice_get (slice_set stages at AtOut) k ≡ Some AtReady → 0 < times k (remove b.table.schedule.ready which)
  queued-taken k h =
      let other = other-stage k AtReady (λ e. cc) h in
      omega (arith, rest.queued k other.1, times-taken k b.table.schedule.ready which at first, at-other k at (λ e. other.0 (sym e)))

  pub kept-taken : (slots : Vec Slot Global) (schedule : ScheduleView) → slots.items ≡ slice_set b.table.slots.items at (record slot { stage = Out }) →
      schedule ≡ record (with_stage b.table.schedule at AtOut) { ready = remove b.table.schedule.ready which } → IsQueue schedule →
      IsKept (record b { table = record { targets = b.table.targets; slots = slots; schedule = schedule } })
  kept-taken slots schedule is_slots is_schedule queue =
      let r = rules_inside b in
      let new : Slot = record slot { stage = Out } in
      let job = found_job b kept which at slot first staged there in
      let path = found_path b kept which at slot first staged there in
      let is_ready : schedule.ready ≡ remove b.table.schedule.ready which = ap (λ (x : ScheduleView). x.ready) is_schedule in
      let is_stages : schedule.stages ≡ slice_set stages at AtOut = ap (λ (x : ScheduleView). x.stages) is_schedule in
      let back : (k : ℕ) (s : StageView) → slice_get schedule.stages k ≡ Some s → slice_get (slice_set stages at AtOut) k ≡ Some s =
      λ k s h. sym (ap (λ ss. slice_get ss k) is_stages) ∙ h in
      let state : state_from r b.build.limits.targets b.table.targets slots.items schedule.ready ≡ happens r (state_of b) (Take which) =
      ap (λ x. state_from r b.build.limits.targets b.table.targets x schedule.ready) is_slots ∙
      ap (state_from r b.build.limits.targets b.table.targets (slice_set b.table.slots.items at (record slot { stage = Out }))) is_ready ∙
      taken_state b kept which at slot first staged there in
      let more = reached-more r b.build.request (state_of b) (Take which) kept.at_rest.reached
      (omega (arith, below, length-map b.table.schedule.ready (path_at b.table.targets))) in
      let P : State → Type 0 = IsReached r b.build.request in
      let len = length-set b.table.slots.items at new in
      let open_stage : stage_outcome slot.stage ≡ None = rw job.1 refl in
      let S : List Slot → Type 0 = λ xs. IsTable r b.build b.table.targets xs schedule.stages in
      let Q : List StageView → Type 0 = λ ss. IsTable r b.build b.table.targets (slice_set b.table.slots.items at new) ss in
      record {
        at_rest = record {
          reached = subst P (sym state) more;
          table = subst S (sym is_slots) (subst Q (sym is_stages) (record {
            one_each = len ∙ kept.at_rest.table.one_each;
            within_limit = omega (arith, len, kept.at_rest.table.within_limit);
            few = kept.at_rest.table.few;
            fits = fits-set r (lawful_inside b) b.build.limits.targets b.table.targets b.table.slots.items at path.0 slot new (distinct-inside b kept) path.1 there
                b.build refl
                (outcomes-more r (lawful_inside b) b.build.limits.targets b.table.targets b.table.slots.items at path.0 slot new (distinct-inside b kept) path.1 there open_stage) kept.at_rest.table.fits tt;
            agreed = agreed-set r b.table.targets b.table.slots.items stages kept.at_rest.table.agreed at slot new AtOut there (inl refl);
          }));
          resting = record {
            lacks = subst EachLacks (sym is_stages) lacks-taken;
            put_back = λ k h. rest.put_back k (other-stage k AtHand (λ e. cc) (back k AtHand h)).1;
            queue = queue;
            queued = λ k h. let R : List ℕ → Type 0 = λ xs. 0 < times k xs in subst R (sym is_ready) (queued-taken k (back k AtReady h));
          };
        };
        none_due = λ k h. kept.none_due k (other-stage k AtDue (λ e. cc) (back k AtDue h)).1;
      }

-- what is staged has a slot
pub staged-below : (b : Inside) → IsKept b → (at : ℕ) → stage_at b.table.schedule at ≡ Some AtReady → at < length b.table.slots.items
staged-below b kept at staged = omega (arith, slice_get_within b.table.schedule.stages at AtReady staged, kept.at_rest.table.agreed.one_each)

pub below_items : (b : Inside) (which : ℕ) → which < cond (is_some b.stopped) 0 (length (map (path_at b.table.targets) b.table.schedule.ready)) → which < length b.table.schedule.ready
below_items b which h =
    omega (arith, below-length b.stopped (length (map (path_at b.table.targets) b.table.schedule.ready)) which h, length-map b.table.schedule.ready (path_at b.table.targets))

-- the turn of what is taken is below the limit
pub turn_small : (b : Inside) (kept : IsKept b) (which at : ℕ) (slot : Slot) (first : slice_get b.table.schedule.ready which ≡ Some at)
    (staged : stage_at b.table.schedule at ≡ Some AtReady) (there : slice_get b.table.slots.items at ≡ Some slot) (work : Work) → slot.stage ≡ Ready work → work.turn < b.build.limits.targets
turn_small b kept which at slot first staged there work is =
    let r = rules_inside b in
    let sound = sound-inside b kept in
    let path = found_path b kept which at slot first staged there in
    let job = found_job b kept which at slot first staged there in
    let same : job.0 ≡ work = let both : Ready job.0 ≡ Ready work = sym job.1 ∙ is in cc in
    let known = entry r (lawful_inside b) b.build.limits.targets b.build.request b.table.targets b.table.slots.items b.table.schedule.ready sound kept.at_rest.table.one_each kept.at_rest.table.within_limit
    which at path.0 slot work first path.1 there is in
    let at_path : path_at b.table.targets at ≡ path.0 = rw path.1 refl in
    let spot : slice_get (state_of b).ready which ≡ Some path.0 =
    slice_get-map (path_at b.table.targets) b.table.schedule.ready which at first ∙ ap Some at_path in
    let fed = sound.queued.ready_fed path.0 (place-among (state_of b).ready which path.0 spot) in
    let entry_is : fed.0 ≡ slot_entry r (outcomes_at_limit b.build) path.0 slot = let both = sym fed.1 ∙ known in cc in
    let below = turn-below r (lawful_for b.build) b.build.request (state_of b).entries sound.standing path.0 fed.0 fed.1 fed.2 fed.3 in
    let turn = ap (λ (x : Entry). x.turn) entry_is in
    let work_turn = ap (λ (w : WorkView). w.turn) same in
    omega (arith, below, turn, work_turn, job.2.2, entries-few b.build b.table b.table.schedule.stages kept.at_rest.table)

-- what a running board keeps is a part of its build
pub part-inside : (b : Inside) → IsKept b → IsPartOfBuild (rules_inside b) b.build.request b.build.limits.targets (state_of b)
part-inside b kept = is_part (rules_inside b) (lawful_for b.build) b.build.request (state_of b) (sound-inside b kept) b.build.limits.targets

-- a running board has no more entries than the limit allows
pub length-entries : (b : Inside) → IsKept b → length (state_of b).entries ≤ b.build.limits.targets
length-entries b kept = omega (arith, kept.at_rest.table.within_limit, length-slots (rules_inside b) (outcomes_at_limit b.build) b.table.targets b.table.slots.items kept.at_rest.table.one_each)

-- between two calls no check can go on
pub none_due-inside : (b : Inside) → IsKept b → NoneDue (rules_inside b) (state_of b)
none_due-inside b kept =
    none_due b.build b.table kept.at_rest kept.none_due

-- a quiet board shows the build
pub shows-inside : (b : Inside) → IsKept b → IsQuiet (state_of b) → ShowsBuild (rules_inside b) b.build.request b.build.limits.targets (state_of b)
shows-inside b kept quiet =
    shows (rules_inside b) (lawful_for b.build) b.build.request (state_of b) (sound-inside b kept) b.build.limits.targets quiet
    (none_due-inside b kept) (length-entries b kept)

abbrev pub view_of : Inside → BoardView
view_of b = record { given = b.build; state = state_of b; stopped = b.stopped }

pub no_paths : (ps : List (List ℕ)) → length ps ≡ 0 → ps ≡ []
no_paths [] h = refl
no_paths (p ∷ ps) h = absurd (omega arith)

pub shows-view : (b : Inside) → IsBoard b → (view : BoardView) → view_of b ≡ view → is_some b.stopped ≡ false →
    ready_count view ≡ 0 → jobs_out view ≡ 0 → ShowsBuild (rules_on view) view.given.request view.given.limits.targets view.state
shows-view b invariant view is on none_ready none_out =
    let P : BoardView → Type 0 = λ v. ShowsBuild (rules_on v) v.given.request v.given.limits.targets v.state in
    let Q : BoardView → Type 0 = λ v. ready_count v ≡ 0 in
    let R : BoardView → Type 0 = λ v. jobs_out v ≡ 0 in
    let ready = rw on at (subst Q (sym is) none_ready) in
    let out = rw on at (subst R (sym is) none_out) in
    subst P is (shows-inside b (invariant.kept on) (no_paths (map (path_at b.table.targets) b.table.schedule.ready) ready, out))

pub on_board : (s n : Bool) → s ≡ not n → n ≡ true → s ≡ false
on_board s n is on = is ∙ (rw on refl)
