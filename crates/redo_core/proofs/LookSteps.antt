-- A look at the check that is due first: it is taken out of the table, and what it comes to is put back.
use Rattle.std.proofs.Common.{map, slice_get, slice_set, ◌≡◌, ℕ, ◌<◌, Bool, true, false, inl, inr}
use Rattle.std.proofs.Common.{List, [], ◌∷◌, ◌++◌, length, length-set, Option, Some, None, refl, sym, ap}
use Rattle.std.proofs.Common.{subst, ◌∙◌, arith, bytes_eq, Global, Vec}
use Rattle.std.specs.Prelude.{Box}
use Rattle.std.proofs.lemmas.Bool.{cases_Bool, both_ways, false_from_ne_true}
use Rattle.std.proofs.lemmas.Slice.Eq.{bytes_eq-Decides}
use Rattle.redo_names.proofs.ListLemmas.{IsAmong-left}
use Rattle.redo_record.specs.declared.deps.Dep.{Dep}
use Rattle.redo_record.specs.declared.outcome.Outcome.{Outcome}
use Rattle.redo_record.specs.Paths.{IsAmong, AreDistinct, is_among}
use Rattle.redo_record.specs.Progress.{Progress}
use Rattle.redo_build.specs.Rules.{Ask, Rules, AreLawful, Extends, operands}
use Rattle.redo_build.specs.Outcomes.{IsTooMany}
use Rattle.redo_build.specs.Schedule.{Entry, State, advanced, enqueued, entered, entry_of, handed_in, happens}
use Rattle.redo_build.specs.Schedule.{moved_on, new_entry, only, outcomes_of, paths_of, put, sent_out}
use Rattle.redo_build.specs.Schedule.{IsDueAt}
use Rattle.redo_build.specs.Schedule.Event.{Look}
use Rattle.redo_build.specs.Schedule.Phase.{Check}
use Rattle.redo_build.specs.Looking.{first_due, looked_once}
use Rattle.redo_build.proofs.LookingLemmas.{first-look, first-open}
use Rattle.redo_build.proofs.QuietLemmas.{is_part}
use Rattle.redo_build.proofs.SeenLemmas.{paths_of-push, entry_of-put_same, paths_of-put}
use Rattle.redo_build.proofs.SoundLemmas.{IsSound, happens-sound, only-same}
use Rattle.redo_rules.proofs.Public.{lawful_for}
use Rattle.redo_table.specs.Schedule.{ScheduleView, IsQueue, stage_at, times, with_stage}
use Rattle.redo_table.specs.Schedule.StageView.{Due as AtDue, Ready as AtReady, InHand as AtHand}
use Rattle.redo_table.proofs.TargetLemmas.{get-other, get-same, set-cases}
use Rattle.redo_build.specs.Schedule.{IsReached}
use Rattle.redo_core.specs.inside.Slots.{outcomes_at_limit, Fits, IsAtRest, IsDueWith, IsOutThere, IsTable, IsTableOf}
use Rattle.redo_core.specs.inside.Slots.{MayLook, entries_from, path_at, rounds_of, slot_entry, stage_deps}
use Rattle.redo_core.specs.inside.Slots.{stage_outcome, state_after, table_entries, table_state, GivenView, rules_for}
use Rattle.redo_core.specs.inside.Slots.{InCheck, Slot, Stage, Out, Table}
use Rattle.redo_core.proofs.AgreeLemmas.{agreed-set}
use Rattle.redo_core.proofs.EntryLemmas.{entries-few, entry-there, known-deep, path-there, rest-distinct, rest-sound, rounds-few}
use Rattle.redo_core.proofs.LookLemmas.{drawn-first}
use Rattle.redo_core.proofs.SlotLemmas.{deps_deep}
use Rattle.std.proofs.lemmas.Option.{slice_get_within}
use Rattle.redo_core.proofs.SlotLemmas.{slot_entries-set}
use Rattle.redo_core.proofs.TableLemmas.{fits-set, outcomes-kept}
use Rattle.redo_core.proofs.NumberLemmas.{same-some}

-- entering behind entries of which one is replaced
put-append : (es : List Entry) (y z : Entry) → IsAmong (paths_of es) y.path → put es y ++ z ∷ [] ≡ put (es ++ z ∷ []) y
put-append [] y z m = absurd m
put-append (x ∷ es) y z m = elim (cases_Bool (bytes_eq x.path y.path)) [
  | inl t ↦ rw t refl
  | inr f ↦ elim m [
    | inl here ↦ absurd (both_ways _ f ((bytes_eq-Decides x.path y.path).1 here))
    | inr later ↦ rw f (ap (λ xs. x ∷ xs) (put-append es y z later))
  ]
]

pub entered-put : (r : Rules) (es : List Entry) (y : Entry) (ps : List (List ℕ)) → IsAmong (paths_of es) y.path →
    entered r (put es y) ps ≡ put (entered r es ps) y
entered-put r es y [] m = refl
entered-put r es y (p ∷ ps) m =
    let P : List (List ℕ) → Bool → Type 0 = λ qs b. is_among qs p ≡ b in
    elim (cases_Bool (is_among (paths_of es) p)) [
      | inl t ↦
          let t' : is_among (paths_of (put es y)) p ≡ true = (let Q : List (List ℕ) → Type 0 = λ qs. P qs true in subst Q (sym (paths_of-put es y)) t) in
          rw (t, t') (entered-put r es y ps m)
      | inr f ↦
          let f' : is_among (paths_of (put es y)) p ≡ false = (let Q : List (List ℕ) → Type 0 = λ qs. P qs false in subst Q (sym (paths_of-put es y)) f) in
          let still : IsAmong (paths_of (es ++ new_entry r p ∷ [])) y.path =
          (let A : List (List ℕ) → Type 0 = λ qs. IsAmong qs y.path in subst A (sym (paths_of-push es (new_entry r p))) (IsAmong-left (paths_of es) ((new_entry r p).path ∷ []) y.path m)) in
          rw (f, f') (ap (λ xs. entered r xs ps) (put-append es y (new_entry r p) m) ∙ entered-put r (es ++ new_entry r p ∷ []) y ps still)
    ]

put-here : (x y : Entry) (es : List Entry) → bytes_eq x.path y.path ≡ true → put (x ∷ es) y ≡ y ∷ es
put-here x y es t = rw t refl

put-there : (x y : Entry) (es : List Entry) → bytes_eq x.path y.path ≡ false → put (x ∷ es) y ≡ x ∷ put es y
put-there x y es f = rw f refl

pub put-put : (es : List Entry) (y z : Entry) → y.path ≡ z.path → put (put es y) z ≡ put es z
put-put [] y z same = refl
put-put (x ∷ es) y z same =
    let own : bytes_eq y.path z.path ≡ true = (bytes_eq-Decides y.path z.path).1 same in
    elim (cases_Bool (bytes_eq x.path y.path)) [
      | inl t ↦
          let also : bytes_eq x.path z.path ≡ true = (bytes_eq-Decides x.path z.path).1 ((bytes_eq-Decides x.path y.path).0 t ∙ same) in
          ap (λ xs. put xs z) (put-here x y es t) ∙ put-here y z es own ∙ sym (put-here x z es also)
      | inr f ↦
          let other : bytes_eq x.path z.path ≡ false = false_from_ne_true _ (λ t.
          both_ways _ f ((bytes_eq-Decides x.path y.path).1 ((bytes_eq-Decides x.path z.path).0 t ∙ sym same))) in
          ap (λ xs. put xs z) (put-there x y es f) ∙ put-there x z (put es y) other ∙ ap (λ xs. x ∷ xs) (put-put es y z same) ∙ sym (put-there x z es other)
    ]

-- its check is taken out
module _ (given : GivenView) (u : Table) (at : ℕ) (held : Box InCheck Global) (may : MayLook given u at held) where
  abbrev rl : Rules
  rl = rules_for given

  abbrev w : Table
  w = may.whole

  abbrev lim : ℕ
  lim = given.limits.targets

  abbrev al : Ask
  al = outcomes_at_limit given

  abbrev p : List ℕ
  p = path_at may.whole.targets at

  abbrev old : Slot
  old = may.taken.old

  abbrev new : Slot
  new = record may.taken.old { stage = Out }

  abbrev ew : List Entry
  ew = table_entries given may.whole

  abbrev sw : State
  sw = table_state given may.whole

  abbrev e : Entry
  e = slot_entry (rules_for given) (outcomes_at_limit given) (path_at may.whole.targets at) may.taken.old

  lawful : AreLawful (rules_for given)
  lawful = lawful_for given

  rest : IsAtRest given may.whole
  rest = may.is_drawn.at_rest

  sound : IsSound (rules_for given) given.request (table_state given may.whole)
  sound = rest-sound given w rest

  distinct : AreDistinct may.whole.targets
  distinct = rest-distinct given w rest

  there : slice_get may.whole.slots.items at ≡ Some may.taken.old
  there = sym (ap (λ (v : Vec Slot Global). slice_get v.items at) may.is_drawn.slots) ∙ may.taken.there

  below : at < length may.whole.slots.items
  below = slice_get_within w.slots.items at old there

  pub look-key : slice_get may.whole.targets at ≡ Some (path_at may.whole.targets at)
  look-key = path-there given w w.schedule.stages rest.table at old there

  pub look-targets : u.targets ≡ may.whole.targets
  look-targets = may.taken.targets ∙ may.is_drawn.targets

  look-slots : u.slots.items ≡ slice_set may.whole.slots.items at (record may.taken.old { stage = Out })
  look-slots = may.taken.slots ∙ ap (λ (v : Vec Slot Global). slice_set v.items at new) may.is_drawn.slots

  look-schedule : u.schedule ≡ with_stage may.whole.schedule at AtHand
  look-schedule = may.taken.schedule ∙ may.is_drawn.schedule

  look-stages : u.schedule.stages ≡ slice_set may.whole.schedule.stages at AtHand
  look-stages = ap (λ (x : ScheduleView). x.stages) look-schedule

  old-open : stage_outcome may.taken.old.stage ≡ None
  old-open = rw may.taken.was refl

  pub fits : IsDueWith (rules_for given) (outcomes_of (table_entries given may.whole)) given (path_at may.whole.targets at) may.taken.old.turn held.value
  fits =
      let F : Stage → Type 0 = Fits rl (outcomes_of ew) given p old.turn in
      subst F may.taken.was (rest.table.fits at old there)

  e-deps : stage_deps (rules_for given) (outcomes_at_limit given) (path_at may.whole.targets at) (rounds_of may.taken.old) may.taken.old.stage ≡ held.value.check.asked
  e-deps = rw may.taken.was refl

  entry-w : entry_of (table_entries given may.whole) (path_at may.whole.targets at) ≡
      Some (slot_entry (rules_for given) (outcomes_at_limit given) (path_at may.whole.targets at) may.taken.old)
  entry-w = entry-there given w w.schedule.stages rest.table given.request sound.standing at old there

  e-fed : (q : List ℕ) → IsAmong (operands (rules_for given) (stage_deps (rules_for given) (outcomes_at_limit given) (path_at may.whole.targets at) (rounds_of may.taken.old) may.taken.old.stage)) q →
      outcomes_of (table_entries given may.whole) q ≡ None → ⊥
  e-fed q m none = fits.answered q (let P : List Dep → Type 0 = λ ds. IsAmong (operands rl ds) q in subst P e-deps m) none

  first : first_due (rules_for given) (table_state given may.whole) ≡
      Some (slot_entry (rules_for given) (outcomes_at_limit given) (path_at may.whole.targets at) may.taken.old)
  first =
      let found = drawn-first given may.whole may.drawn at may.is_drawn in
      let same : found.slot ≡ old = same-some _ _ _ found.there there in
      found.first ∙ ap (λ x. Some (slot_entry rl al p x)) same

  look-open : IsDueAt (rules_for given) (table_state given may.whole) (path_at may.whole.targets at)
  look-open = first-open rl lawful given.request sw sound e first

  look-happens : looked_once (rules_for given) (table_state given may.whole) ≡
      happens (rules_for given) (table_state given may.whole) (Look (path_at may.whole.targets at))
  look-happens = first-look rl lawful given.request sw sound e first

  -- the table without it
  kept-outcomes : (q : List ℕ) → outcomes_of (entries_from (rules_for given) given.limits.targets may.whole.targets (slice_set may.whole.slots.items at (record may.taken.old { stage = Out }))) q ≡
      outcomes_of (table_entries given may.whole) q
  kept-outcomes q = outcomes-kept rl lawful lim w.targets w.slots.items at p old new distinct look-key there (sym old-open) q

  pub look-table : IsTableOf given u
  look-table =
      let len = length-set w.slots.items at new in
      let more : Extends rl (outcomes_of ew) (outcomes_of (entries_from rl lim w.targets (slice_set w.slots.items at new))) = λ q o source h. kept-outcomes q ∙ h in
      let raw : IsTable rl given w.targets (slice_set w.slots.items at new) (slice_set w.schedule.stages at AtHand) = record {
        one_each = len ∙ rest.table.one_each;
        within_limit = omega (arith, len, rest.table.within_limit);
        few = rest.table.few;
        fits = fits-set rl lawful lim w.targets w.slots.items at p old new distinct look-key there given refl more rest.table.fits tt;
        agreed = agreed-set rl w.targets w.slots.items w.schedule.stages rest.table.agreed at old new AtHand there (inr refl);
      } in
      rw (look-targets, look-slots, look-stages) raw

  -- the queue is as it was
  pub look-queue : IsQueue u.schedule
  look-queue =
      let queue = rest.resting.queue in
      let ready : u.schedule.ready ≡ w.schedule.ready = ap (λ (x : ScheduleView). x.ready) look-schedule in
      let R : (k : ℕ) → List ℕ → Type 0 = λ k xs. 0 < times k xs in
      record {
        are_ready = λ k m.
            let was : stage_at w.schedule k ≡ Some AtReady = queue.are_ready k (subst (R k) ready m) in
            let other : at ≡ k → ⊥ = λ e.
            (let P : ℕ → Type 0 = λ j. stage_at w.schedule j ≡ Some AtDue in
            let both : Some AtDue ≡ Some AtReady = sym (subst P e may.is_drawn.first.due) ∙ was in
            cc) in
            ap (λ ss. slice_get ss k) look-stages ∙ get-other w.schedule.stages at k AtHand other ∙ was;
        once = λ k. omega (arith, queue.once k, ap (times k) ready);
      }

  -- it alone is in hand
  pub look-alone : (k : ℕ) → stage_at u.schedule k ≡ Some AtHand → at ≡ k
  look-alone k h = elim (set-cases w.schedule.stages at k AtDue AtHand AtHand may.is_drawn.first.due (sym (ap (λ ss. slice_get ss k) look-stages) ∙ h)) [
    | inl here ↦ here.0
    | inr other ↦ absurd (rest.resting.put_back k other.1)
  ]

  pub look-distinct : AreDistinct u.targets
  look-distinct = let P : List (List ℕ) → Type 0 = AreDistinct in subst P (sym look-targets) distinct

  pub look-path : path_at u.targets at ≡ path_at may.whole.targets at
  look-path = ap (λ ps. path_at ps at) look-targets

  pub look-there : slice_get u.slots.items at ≡ Some (record may.taken.old { stage = Out })
  look-there = ap (λ xs. slice_get xs at) look-slots ∙ get-same w.slots.items at old new there

  pub look-out : IsOutThere u at
  look-out =
      let in_hand = get-same w.schedule.stages at AtDue AtHand may.is_drawn.first.due in (
        inr (ap (λ ss. slice_get ss at) look-stages ∙ in_hand),
        (
          new,
          look-there,
          refl,
          rounds-few given w w.schedule.stages rest.table given.request sound.standing p e entry-w old-open e-fed,
          omega (arith, below, rest.table.within_limit, rest.table.few),
        ),
      )

  sent : slot_entry (rules_for given) (outcomes_at_limit given) (path_at may.whole.targets at) (record may.taken.old { stage = Out }) ≡
      sent_out (slot_entry (rules_for given) (outcomes_at_limit given) (path_at may.whole.targets at) may.taken.old)
  sent =
      let deep = deps_deep rl lawful given.request ew sound.standing lim (entries-few given w w.schedule.stages rest.table) p e entry-w old-open in
      let E : List Dep → Option Outcome → Entry = λ ds o. record { path = p; looks = old.looks; turn = old.turn; deps = ds; outcome = o; is_out = true } in
      ap (λ ds. E ds None) (sym deep) ∙ ap (E (stage_deps rl al p (rounds_of old) old.stage)) (sym old-open)

  pub look-entries : table_entries given u ≡
      put (table_entries given may.whole) (sent_out (slot_entry (rules_for given) (outcomes_at_limit given) (path_at may.whole.targets at) may.taken.old))
  look-entries =
      let S : List Slot → List Entry = λ xs. entries_from rl lim w.targets xs in
      ap (λ ps. entries_from rl lim ps u.slots.items) look-targets ∙ ap S look-slots
      ∙ slot_entries-set rl al w.targets w.slots.items at p old new distinct look-key there ∙ ap (put ew) sent

  pub look-outcomes : (q : List ℕ) → outcomes_of (table_entries given u) q ≡ outcomes_of (table_entries given may.whole) q
  look-outcomes q =
      let S : List Slot → List Entry = λ xs. entries_from rl lim w.targets xs in
      ap (λ xs. outcomes_of xs q) (ap (λ ps. entries_from rl lim ps u.slots.items) look-targets ∙ ap S look-slots) ∙ kept-outcomes q

  pub look-among : IsAmong (paths_of (table_entries given may.whole)) (path_at may.whole.targets at)
  look-among = Rattle.redo_build.proofs.SeenLemmas.entry_of-among ew p e entry-w

  entry-u : entry_of (table_entries given u) (path_at u.targets at) ≡
      Some (sent_out (slot_entry (rules_for given) (outcomes_at_limit given) (path_at may.whole.targets at) may.taken.old))
  entry-u =
      ap (λ q. entry_of (table_entries given u) q) look-path ∙ ap (λ xs. entry_of xs p) look-entries
      ∙ entry_of-put_same ew (sent_out e) look-among

  -- how far it comes is the same, out or not
  pub look-now : advanced (rules_for given) (table_entries given u) (sent_out (slot_entry (rules_for given) (outcomes_at_limit given) (path_at may.whole.targets at) may.taken.old)) ≡
      advanced (rules_for given) (table_entries given may.whole) (slot_entry (rules_for given) (outcomes_at_limit given) (path_at may.whole.targets at) may.taken.old)
  look-now = (lawful.each p).local (only (operands rl e.deps) (outcomes_of (table_entries given u))) (only (operands rl e.deps) (outcomes_of ew))
      (λ q m. only-same (operands rl e.deps) (outcomes_of (table_entries given u)) (outcomes_of ew) (λ x n. look-outcomes x) q)

  abbrev now : Progress
  now = advanced (rules_for given) (table_entries given may.whole) (slot_entry (rules_for given) (outcomes_at_limit given) (path_at may.whole.targets at) may.taken.old)

  abbrev pub look-moved : List Entry
  look-moved = put (entered (rules_for given) (table_entries given u)
      (operands (rules_for given) (advanced (rules_for given) (table_entries given may.whole) (slot_entry (rules_for given) (outcomes_at_limit given) (path_at may.whole.targets at) may.taken.old)).deps))
      (moved_on Check (slot_entry (rules_for given) (outcomes_at_limit given) (path_at may.whole.targets at) may.taken.old)
      (advanced (rules_for given) (table_entries given may.whole) (slot_entry (rules_for given) (outcomes_at_limit given) (path_at may.whole.targets at) may.taken.old)))

  pub look-after : state_after given Check u at ≡ enqueued (rules_for given) (record { entries = look-moved; ready = map (path_at u.targets) u.schedule.ready })
  look-after =
      let N : Progress → State = λ n. enqueued rl (record { entries = put (entered rl (table_entries given u) (operands rl n.deps)) (moved_on Check e n); ready = map (path_at u.targets) u.schedule.ready }) in
      let H : Option Entry → State = λ x. handed_in rl Check (table_state given u) x in
      ap H entry-u ∙ ap N look-now

  pub look-after_entries : (state_after given Check u at).entries ≡ look-moved
  look-after_entries = ap (λ (x : State). x.entries) look-after

  -- and so is what the look comes to
  pub look-is : state_after given Check u at ≡ looked_once (rules_for given) (table_state given may.whole)
  look-is =
      let ops = operands rl now.deps in
      let m = moved_on Check e now in
      let Q : List Entry → List (List ℕ) → State = λ xs ready. enqueued rl (record { entries = xs; ready = ready }) in
      let entries : put (entered rl (table_entries given u) ops) m ≡ put (entered rl ew ops) m =
      ap (λ xs. put (entered rl xs ops) m) look-entries ∙ ap (λ xs. put xs m) (entered-put rl ew (sent_out e) ops look-among)
      ∙ put-put (entered rl ew ops) (sent_out e) m refl in
      let names : map (path_at u.targets) u.schedule.ready ≡ map (path_at w.targets) w.schedule.ready =
      ap (λ ps. map (path_at ps) u.schedule.ready) look-targets ∙ ap (λ (x : ScheduleView). map (path_at w.targets) x.ready) look-schedule in
      let H : Option Entry → State = λ x. handed_in rl Check sw x in
      look-after ∙ ap (λ xs. Q xs (map (path_at u.targets) u.schedule.ready)) entries ∙ ap (Q (put (entered rl ew ops) m)) names ∙ sym (ap H first)

  pub look-sound : IsSound (rules_for given) given.request (state_after given Check u at)
  look-sound =
      let P : State → Type 0 = IsSound rl given.request in
      subst P (sym (look-is ∙ look-happens)) (happens-sound rl lawful given.request sw (Look p) sound look-open)

  pub look-reached : IsReached (rules_for given) given.request (state_after given Check u at)
  look-reached =
      let P : State → Type 0 = IsReached rl given.request in
      subst P (sym (look-is ∙ look-happens)) (Rattle.redo_build.proofs.ReachedLemmas.reached-more rl given.request sw (Look p) rest.reached look-open)

  pub look-many : given.limits.targets < length (state_after given Check u at).entries → IsTooMany (rules_for given) given.request given.limits.targets
  look-many many = (is_part rl lawful given.request (state_after given Check u at) look-sound lim).too_many many

  -- what it asked for was entered
  pub look-seen : (q : List ℕ) → IsAmong (operands (rules_for given) held.value.check.asked) q → IsAmong (paths_of (table_entries given u)) q
  look-seen q m =
      let D : List Dep → Type 0 = λ ds. IsAmong (operands rl ds) q in
      let A : List (List ℕ) → Type 0 = λ ps. IsAmong ps q in
      let closed = sound.standing.closed p q e entry-w (subst D (sym e-deps) m) in
      subst A (sym (ap paths_of look-entries ∙ paths_of-put ew (sent_out e))) closed

  -- how far it comes, by what it knows
  pub look-known : advanced (rules_for given) (table_entries given may.whole) (slot_entry (rules_for given) (outcomes_at_limit given) (path_at may.whole.targets at) may.taken.old) ≡
      (rules_for given).progress (path_at may.whole.targets at) (only (operands (rules_for given) held.value.check.asked) (outcomes_of (table_entries given may.whole)))
  look-known =
      let A : List Dep → Progress = λ ds. rl.progress p (only (operands rl ds) (outcomes_of ew)) in
      ap A e-deps

  pub look-deep : Extends (rules_for given) (outcomes_of (table_entries given may.whole)) (outcomes_at_limit given)
  look-deep = known-deep given w w.schedule.stages rest.table given.request sound.standing
