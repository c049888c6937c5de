-- Entering a path that is new.
use Rattle.redo_names.proofs.PathLemmas.{told-absent, told-among}
use Rattle.std.proofs.Common.{slice_get, slice_set, ◌≡◌, ℕ, ◌+◌, ◌<◌, ◌≤◌, true, false, ◌⊎◌, inl, inr, List, []}
use Rattle.std.proofs.Common.{◌∷◌, ◌++◌, length, length-append, Some, None, refl, sym, ap, subst}
use Rattle.std.proofs.Common.{◌∙◌, arith}
use Rattle.std.proofs.lemmas.Bool.{cases_Bool}
use Rattle.redo_record.specs.Paths.{IsAmong, is_among}
use Rattle.redo_build.specs.Rules.{Ask, Rules, Extends, operands}
use Rattle.redo_build.specs.Schedule.{Entry, only, outcomes_of, paths_of, entered, new_entry, nothing_known}
use Rattle.redo_record.specs.Progress.{Progress}
use Rattle.redo_table.specs.Schedule.{StageView, ScheduleView, with_stage, with_target}
use Rattle.redo_table.specs.Schedule.StageView.{InHand as AtHand}
use Rattle.redo_table.proofs.TargetLemmas.{push-before, push-cases, there-below}
use Rattle.redo_core.specs.inside.Slots.{outcomes_at_limit, table_entries, entries_from, slot_entries, slot_entry}
use Rattle.redo_core.specs.inside.Slots.{stage_deps, stage_outcome, path_at, is_stage_out, Fits, Agrees, AreAgreed}
use Rattle.redo_core.specs.inside.Slots.{in_schedule, is_fresh, AllFit, IsTable, IsTableOf, IsFirstStage, IsPushed}
use Rattle.redo_core.specs.inside.Slots.{IsEnteredInto, IsFull, GivenView, rules_for, Slot, Table, Stage, Due, Ready}
use Rattle.redo_core.specs.inside.Slots.{Decided}
use Rattle.redo_core.proofs.NumberLemmas.{agrees-kept}
use Rattle.redo_build.proofs.SeenLemmas.{outcomes_of-entry, outcomes_of-at, entry_of-entered_old}
use Rattle.redo_core.proofs.SlotLemmas.{length-slots, paths_of-slots}
use Rattle.std.proofs.lemmas.Option.{slice_get_within}
use Rattle.redo_core.proofs.TableLemmas.{Fits-more}
use Rattle.redo_core.proofs.FirstStageLemmas.{unruled-same}
use Rattle.redo_record.specs.declared.deps.Dep.{Dep}
use Rattle.redo_record.specs.declared.outcome.Outcome.{Outcome}

get-push_end : {A : Type 0} (xs : List A) (x : A) → slice_get (xs ++ x ∷ []) (length xs) ≡ Some x
get-push_end [] x = refl
get-push_end (z ∷ xs) x = get-push_end xs x

slot_entries-push : (r : Rules) (a : Ask) (ps : List (List ℕ)) (slots : List Slot) (p : List ℕ) (slot : Slot) → length slots ≡ length ps →
    slot_entries r a (ps ++ p ∷ []) (slots ++ slot ∷ []) ≡ slot_entries r a ps slots ++ slot_entry r a p slot ∷ []
slot_entries-push r a [] [] p slot h = refl
slot_entries-push r a (q ∷ ps) (s ∷ slots) p slot h = ap (λ es. slot_entry r a q s ∷ es) (slot_entries-push r a ps slots p slot (omega arith))
slot_entries-push r a _ _ p slot h = absurd (omega arith)

entry-ruled : (r : Rules) (p : List ℕ) → r.has_rule p ≡ true → new_entry r p ≡ record { path = p; looks = 0; turn = 0; deps = []; outcome = None; is_out = false }
entry-ruled r p h = rw h refl

entry-unruled : (r : Rules) (p : List ℕ) (o : Outcome) → r.has_rule p ≡ false → (r.progress p nothing_known).outcome ≡ Some o →
    new_entry r p ≡ record { path = p; looks = 0; turn = 0; deps = (r.progress p nothing_known).deps; outcome = Some o; is_out = false }
entry-unruled r p o h is = rw (h, is) refl

stage-entry : (given : GivenView) (a : Ask) (p : List ℕ) (stage : Stage) → IsFirstStage given p stage →
    record { path = p; looks = 0; turn = 0; deps = stage_deps (rules_for given) a p 0 stage; outcome = stage_outcome stage; is_out = is_stage_out stage } ≡ new_entry (rules_for given) p
stage-entry given a p (Due held) h =
    let E : List Dep → Entry = λ ds. record { path = p; looks = 0; turn = 0; deps = ds; outcome = None; is_out = false } in
    ap E h.1 ∙ sym (entry-ruled (rules_for given) p h.2)
stage-entry given a p (Ready work) h =
    let E : List Dep → Entry = λ ds. record { path = p; looks = 0; turn = 0; deps = ds; outcome = None; is_out = false } in
    ap E h.1 ∙ sym (entry-ruled (rules_for given) p h.2)
stage-entry given a p (Decided fact) h =
    let E : Progress → Entry = λ x. record { path = p; looks = 0; turn = 0; deps = x.deps; outcome = Some fact.value.outcome; is_out = false } in
    ap E (sym (unruled-same given p a h.2)) ∙ sym (entry-unruled (rules_for given) p fact.value.outcome h.2 h.3)
stage-entry given a p _ h = absurd h

stage-fits : (given : GivenView) (a : Ask) (p : List ℕ) (stage : Stage) → IsFirstStage given p stage → Fits (rules_for given) a given p 0 stage
stage-fits given a p (Due held) h = h.0 a
stage-fits given a p (Ready work) h = (
  h.0,
  λ q m none. let P : List Dep → Type 0 = λ ds. IsAmong (operands (rules_for given) ds) q in absurd (subst P h.1 m),
  h.3 (only (operands (rules_for given) work.deps) a),
)
stage-fits given a p (Decided fact) h = (h.0, h.1)
stage-fits given a p _ h = absurd h

-- a target that was added and put into a stage
pub pushed-stage : (s : ScheduleView) (n : ℕ) (stage : StageView) → n ≡ length s.stages → with_stage (with_target s AtHand) n stage ≡ with_target s stage
pushed-stage s n stage is = ap (λ ss. record s { stages = ss }) (ap (λ k. slice_set (s.stages ++ AtHand ∷ []) k stage) is ∙ set-last s.stages)
  where
    set-last : (xs : List StageView) → slice_set (xs ++ AtHand ∷ []) (length xs) stage ≡ xs ++ stage ∷ []
    set-last [] = refl
    set-last (x ∷ xs) = ap (λ ys. x ∷ ys) (set-last xs)

-- the schedule has a path at first sight where its slot is
stage-agrees : (given : GivenView) (ps : List (List ℕ)) (p : List ℕ) (stage : Stage) → IsFirstStage given p stage →
    Agrees (rules_for given) ps stage (in_schedule stage) × (is_fresh (in_schedule stage) ≡ true)
stage-agrees given ps p (Due held) h = (refl, refl)
stage-agrees given ps p (Ready work) h = (refl, refl)
stage-agrees given ps p (Decided fact) h = (refl, refl)
stage-agrees given ps p _ h = absurd h

-- a slot and its stage behind the others, with more paths
agreed-push : (r : Rules) (ps us : List (List ℕ)) (slots : List Slot) (stages : List StageView) (new : Slot) (s : StageView) →
    AreAgreed r ps slots stages → ((k : ℕ) (p : List ℕ) → slice_get ps k ≡ Some p → slice_get us k ≡ Some p) →
    Agrees r us new.stage s → AreAgreed r us (slots ++ new ∷ []) (stages ++ s ∷ [])
agreed-push r ps us slots stages new s agreed kept agrees = record {
  one_each = omega (arith, agreed.one_each, length-append slots (new ∷ []), length-append stages (s ∷ []));
  each = λ k x y g h. elim (push-cases slots k new x g) [
    | inl here ↦ elim (push-cases stages k s y h) [
      | inl now ↦
          let P : Stage → Type 0 = λ stage. Agrees r us stage y in
          let Q : StageView → Type 0 = Agrees r us new.stage in
          subst P (ap (λ (z : Slot). z.stage) here.1) (subst Q now.1 agrees)
      | inr old ↦ absurd (omega (arith, agreed.one_each, here.0, slice_get_within stages k y old))
    ]
    | inr old ↦ elim (push-cases stages k s y h) [
      | inl now ↦ absurd (omega (arith, agreed.one_each, now.0, slice_get_within slots k x old))
      | inr was ↦ agrees-kept ps us kept r x.stage y (agreed.each k x y old was)
    ]
  ];
}

path_at-old : (ps : List (List ℕ)) (p : List ℕ) (k : ℕ) → k < length ps → path_at (ps ++ p ∷ []) k ≡ path_at ps k
path_at-old ps p k h =
    let found = there-below ps k h in
    rw (push-before ps k p found.0 found.1, found.1) refl

path_at-end : (ps : List (List ℕ)) (p : List ℕ) → path_at (ps ++ p ∷ []) (length ps) ≡ p
path_at-end ps p = rw (get-push_end ps p) refl

module _ (given : GivenView) (t u : Table) (p : List ℕ) (table : IsTableOf given t)
    (room : length t.slots.items < given.limits.targets) (out : IsAmong t.targets p → ⊥) (w : IsPushed given t u p) where
  abbrev r : Rules
  r = rules_for given

  abbrev a : Ask
  a = outcomes_at_limit given

  abbrev es : List Entry
  es = table_entries given t

  new-entry : slot_entry (rules_for given) (outcomes_at_limit given) p w.new ≡ new_entry (rules_for given) p
  new-entry =
      let P : ℕ → ℕ → Type 0 = λ m n. record { path = p; looks = m; turn = n; deps = stage_deps r a p (m + n) w.new.stage; outcome = stage_outcome w.new.stage; is_out = is_stage_out w.new.stage } ≡ new_entry r p in
      let Q : ℕ → Type 0 = λ m. P m 0 in
      let R : ℕ → Type 0 = λ n. P w.new.looks n in
      subst R (sym w.turn) (subst Q (sym w.looks) (stage-entry given a p w.new.stage w.first))

  pushed : entries_from (rules_for given) given.limits.targets (t.targets ++ p ∷ []) (t.slots.items ++ w.new ∷ []) ≡ entered (rules_for given) (table_entries given t) (p ∷ [])
  pushed =
      let raw = slot_entries-push r a t.targets t.slots.items p w.new table.one_each in
      let no : is_among (paths_of es) p ≡ false = (let P : List (List ℕ) → Type 0 = λ xs. is_among xs p ≡ false in
      subst P (sym (paths_of-slots r a t.targets t.slots.items table.one_each)) (told-absent t.targets p out)) in
      raw ∙ ap (λ e. es ++ e ∷ []) new-entry ∙ sym (rw no refl)

  more : Extends (rules_for given) (outcomes_of (table_entries given t))
      (outcomes_of (entries_from (rules_for given) given.limits.targets (t.targets ++ p ∷ []) (t.slots.items ++ w.new ∷ [])))
  more =
      let P : List Entry → Type 0 = λ xs. Extends r (outcomes_of es) (outcomes_of xs) in
      subst P (sym pushed) (λ q o s h.
      let at = outcomes_of-entry es q o h in
      outcomes_of-at (entered r es (p ∷ [])) q at.0 (entry_of-entered_old r es (p ∷ []) q at.0 at.1) ∙ at.2)

  fits-push : AllFit (rules_for given) given.limits.targets given (t.targets ++ p ∷ []) (t.slots.items ++ w.new ∷ [])
  fits-push k x g =
      let b = outcomes_of (entries_from (rules_for given) given.limits.targets (t.targets ++ p ∷ []) (t.slots.items ++ w.new ∷ [])) in
      elim (push-cases t.slots.items k w.new x g) [
        | inl here ↦
            let path : path_at (t.targets ++ p ∷ []) k ≡ p = ap (path_at (t.targets ++ p ∷ [])) (here.0 ∙ table.one_each) ∙ path_at-end t.targets p in
            let P : List ℕ → Type 0 = λ q. Fits r b given q x.turn x.stage in
            let Q : Slot → Type 0 = λ y. Fits r b given p y.turn y.stage in
            let R : ℕ → Type 0 = λ n. Fits r b given p n w.new.stage in
            subst P (sym path) (subst Q here.1 (subst R (sym w.turn) (stage-fits given b p w.new.stage w.first)))
        | inr old ↦
            let path = path_at-old t.targets p k (omega (arith, slice_get_within t.slots.items k x old, table.one_each)) in
            let P : List ℕ → Type 0 = λ q. Fits r b given q x.turn x.stage in
            subst P (sym path) (Fits-more given (outcomes_of es) b (path_at t.targets k) x.turn x.stage more (table.fits k x old))
      ]

  first-agrees : Agrees (rules_for given) (t.targets ++ p ∷ []) w.new.stage (in_schedule w.new.stage)
  first-agrees = (stage-agrees given (t.targets ++ p ∷ []) p w.new.stage w.first).0

  table-push : IsTable (rules_for given) given (t.targets ++ p ∷ []) (t.slots.items ++ w.new ∷ []) (t.schedule.stages ++ in_schedule w.new.stage ∷ [])
  table-push =
      let len : length (t.slots.items ++ w.new ∷ []) ≡ length t.slots.items + 1 = length-append t.slots.items (w.new ∷ []) in
      let keys : length (t.targets ++ p ∷ []) ≡ length t.targets + 1 = length-append t.targets (p ∷ []) in
      record {
        one_each = omega (arith, len, keys, table.one_each);
        within_limit = omega (arith, len, room);
        few = table.few;
        fits = fits-push;
        agreed = agreed-push r t.targets (t.targets ++ p ∷ []) t.slots.items t.schedule.stages w.new (in_schedule w.new.stage) table.agreed
            (λ k q h. push-before t.targets k p q h) first-agrees;
      }

  stage-push : u.schedule.stages ≡ t.schedule.stages ++ in_schedule w.new.stage ∷ []
  stage-push = ap (λ (x : ScheduleView). x.stages) w.schedule

  stages-fresh : (k : ℕ) (s : StageView) → slice_get u.schedule.stages k ≡ Some s →
      (slice_get t.schedule.stages k ≡ Some s) ⊎ (is_fresh s ≡ true)
  stages-fresh k s h = elim (push-cases t.schedule.stages k (in_schedule w.new.stage) s (sym (ap (λ ss. slice_get ss k) stage-push) ∙ h)) [
    | inl here ↦ inr (ap is_fresh (sym here.1) ∙ (stage-agrees given t.targets p w.new.stage w.first).1)
    | inr old ↦ inl old
  ]

  pub entered-new : IsEnteredInto given t u p
  entered-new = record {
    table = rw (w.keys, w.slots, stage-push) table-push;
    entries = rw (w.keys, w.slots) pushed;
    ready = ap (λ (x : ScheduleView). x.ready) w.schedule;
    keys_kept = λ k q h. rw w.keys (push-before t.targets k p q h);
    slots_kept = λ k x h. rw w.slots (push-before t.slots.items k w.new x h);
    stages_kept = λ k s h. rw stage-push (push-before t.schedule.stages k (in_schedule w.new.stage) s h);
    fresh = stages-fresh;
  }

  -- its number is the next
  pub number-new : (n : ℕ) → n ≡ length t.slots.items → slice_get u.targets n ≡ Some p
  number-new n end =
      let P : ℕ → Type 0 = λ k. slice_get (t.targets ++ p ∷ []) k ≡ Some p in
      rw w.keys (subst P (sym (end ∙ table.one_each)) (get-push_end t.targets p))

-- a path that is there already
pub entered-old : (given : GivenView) (t : Table) (p : List ℕ) → IsTableOf given t → IsAmong t.targets p →
    IsEnteredInto given t t p
entered-old given t p table m = record {
  table = table;
  entries =
      let P : List (List ℕ) → Type 0 = λ xs. is_among xs p ≡ true in
      let yes' : is_among (paths_of (table_entries given t)) p ≡ true =
      subst P (sym (paths_of-slots (rules_for given) (outcomes_at_limit given) t.targets t.slots.items table.one_each)) (told-among t.targets p m) in
      sym (rw yes' refl);
  ready = refl;
  keys_kept = λ k q h. h;
  slots_kept = λ k x h. h;
  stages_kept = λ k s h. h;
  fresh = λ k s h. inl h;
}

pub full : (given : GivenView) (t : Table) (p : List ℕ) → IsTableOf given t → (IsAmong t.targets p → ⊥) →
    given.limits.targets ≤ length t.slots.items → IsFull given t p
full given t p table out h =
    let a = outcomes_at_limit given in
    let es = table_entries given t in
    let P : List (List ℕ) → Type 0 = λ xs. is_among xs p ≡ false in
    let no : is_among (paths_of es) p ≡ false = subst P (sym (paths_of-slots (rules_for given) a t.targets t.slots.items table.one_each)) (told-absent t.targets p out) in
    rw no (omega (
      arith,
      h,
      length-append es (new_entry (rules_for given) p ∷ []),
      length-slots (rules_for given) a t.targets t.slots.items table.one_each,
    ))

-- what was entered is within the limit
pub entered-room : (given : GivenView) (t u : Table) (p : List ℕ) → IsEnteredInto given t u p →
    IsFull given t p → ⊥
entered-room given t u p entered many =
    let r = rules_for given in
    omega (
      arith,
      many,
      ap length entered.entries,
      length-slots r (outcomes_at_limit given) u.targets u.slots.items entered.table.one_each,
      entered.table.within_limit,
    )

-- where a slot is free, one more path is within the limit
pub room-left : (given : GivenView) (t : Table) (p : List ℕ) → IsTableOf given t → length t.slots.items < given.limits.targets →
    IsFull given t p → ⊥
room-left given t p table room many =
    let r = rules_for given in
    let es = table_entries given t in
    let len = length-slots r (outcomes_at_limit given) t.targets t.slots.items table.one_each in
    elim (cases_Bool (is_among (paths_of es) p)) [
      | inl old ↦ let few = rw old at many in omega (arith, few, len, room)
      | inr new ↦ let few = rw new at many in omega (arith, few, len, room, length-append es (new_entry r p ∷ []))
    ]
