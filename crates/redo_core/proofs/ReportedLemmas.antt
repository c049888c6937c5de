-- A quiet board's table makes the report of its build.
use Rattle.std.proofs.Common.{◌≡◌, ℕ, Bool, ◌&&◌, zero, suc, ◌<◌, true, false, inl, inr, List, [], ◌∷◌, length, map}
use Rattle.std.proofs.Common.{filter, Option, Some, None, IsNone, Result, Ok, Err, IfOk, is_some, slice_get, refl, sym}
use Rattle.std.proofs.Common.{ap, subst, ◌∙◌, arith}
use Rattle.std.specs.Arc.{arc_value}
use Rattle.std.specs.List.{AllByRecursion}
use Rattle.std.specs.Prelude.{Contains, unwrap_or}
use Rattle.std.proofs.lemmas.Bool.{and_from, and_parts, cases_Bool}
use Rattle.redo_names.proofs.PathLemmas.{place-among}
use Rattle.redo_tree.specs.Tree.{file_at}
use Rattle.redo_record.specs.declared.outcome.Outcome.{Outcome}
use Rattle.redo_record.specs.declared.outcome.Outcome.TheVariants.{Built, Cyclic, Source as Is_source}
use Rattle.redo_build.specs.Outcomes.{outcome_at, needed_at, final_outcome, record_of}
use Rattle.redo_record.specs.Paths.{IsAmong, AreDistinct}
use Rattle.redo_core.specs.inside.Reported.{row_files, row_begun}
use Rattle.redo_core.specs.inside.Reported.{IsTold, AllTold, IsTargetRow, IsSourceRow, IsRowOf, IsReportOf}
use Rattle.redo_core.specs.inside.Reported.{is_settled, AllSettled}
use Rattle.redo_report.specs.Reports.{AreAscending, IsReport, row_paths, deps_of}
use Rattle.redo_build.specs.Rules.{Ask, Rules, operands}
use Rattle.redo_build.specs.Schedule.{Entry, IsQuiet, State, outcome_of, outcomes_of, paths_of}
use Rattle.redo_table.specs.Schedule.{StageView, EachLacks, stage_at, times}
use Rattle.redo_table.specs.Schedule.StageView.{Ready as AtReady}
use Rattle.redo_table.proofs.NumberLemmas.{times-nil}
use Rattle.redo_core.proofs.AgreeLemmas.{agreed-stage, due-agrees, ready-agrees}
use Rattle.redo_core.proofs.WaitedLemmas.{waited-lacks}
use Rattle.redo_core.specs.inside.Slots.{outcomes_at_limit, Agrees, Fits, IsKept, IsTableOf, entries_from}
use Rattle.redo_core.specs.inside.Slots.{is_stage_due, is_stage_out, is_stage_ready, is_stage_waiting, path_at}
use Rattle.redo_core.specs.inside.Slots.{rounds_of, rules_inside, slot_entries, stage_deps, stage_outcome, state_of}
use Rattle.redo_core.specs.inside.Slots.{GivenView, rules_for, Slot, Stage, Due, Checking, Waiting, Ready, Out, Table}
use Rattle.redo_core.specs.Views.{BoardView, IsQuietBoard, rules_on}
use Rattle.redo_core.specs.declared.board.Board.TheInside.{Inside}
use Rattle.redo_build.specs.Theorems.{ShowsBuild}
use Rattle.redo_report.specs.declared.report.Report.{Report}
use Rattle.redo_report.specs.declared.report.Row.{Row}
use Rattle.redo_core.proofs.CheckingLemmas.{number-within}
use Rattle.redo_core.proofs.OrderLemmas.{AreSorted, ascending-sorted, sorted-ascending}
use Rattle.redo_past.proofs.ItemLemmas.{IsItem, item-contained, contained-item, of-item}
use Rattle.redo_core.proofs.RowLemmas.{all_rows, among-key, key-among}
use Rattle.redo_core.proofs.RowLemmas.{begun-from, begun-sorted, begun-to, file_row, files_sorted, row_file}
use Rattle.redo_core.proofs.RowLemmas.{rows-all}
use Rattle.redo_core.proofs.ShownLemmas.{IsOfBuild, LacksOne, stage-shown}
use Rattle.redo_core.proofs.SlotLemmas.{paths_of-slots, entry_of-slots, out_count-slots}
use Rattle.redo_core.proofs.TakeLemmas.{distinct-inside, no_paths, shows-inside, sound-inside, view_of}

source-outcome : (r : Rules) (n : ℕ) (p : List ℕ) → r.is_source p ≡ true → outcome_at r n p ≡ Some Is_source
source-outcome r zero p s = rw s refl
source-outcome r (suc n) p s = rw s refl

-- the outcome of a slot's target
slot-outcome : (r : Rules) (a : Ask) (ps : List (List ℕ)) (slots : List Slot) (k : ℕ) (p : List ℕ) (slot : Slot) → AreDistinct ps →
    slice_get ps k ≡ Some p → slice_get slots k ≡ Some slot → outcomes_of (slot_entries r a ps slots) p ≡ stage_outcome slot.stage
slot-outcome r a ps slots k p slot distinct path there = ap outcome_of (entry_of-slots r a ps slots k p slot distinct path there)

module _ (given : GivenView) (t : Table) (s : State)
    (entries : s.entries ≡ entries_from (rules_for given) given.limits.targets t.targets t.slots.items)
    (shows : ShowsBuild (rules_for given) given.request given.limits.targets s)
    (table : IsTableOf given t) (lacks : EachLacks t.schedule.stages)
    (distinct : AreDistinct t.targets)
    (targets : (p : List ℕ) → IsAmong t.targets p → is_some (file_at given.past.sources p) ≡ false) where
  abbrev r : Rules
  r = rules_for given

  abbrev es : List Entry
  es = entries_from (rules_for given) given.limits.targets t.targets t.slots.items

  keys : paths_of s.entries ≡ t.targets
  keys = ap paths_of entries ∙ paths_of-slots r (outcomes_at_limit given) t.targets t.slots.items table.one_each

  key-needed : (p : List ℕ) → IsAmong t.targets p → IsAmong (needed_at (rules_for given) given.request given.limits.targets) p
  key-needed p m = (shows.members p).0 (let P : List (List ℕ) → Type 0 = λ ps. IsAmong ps p in subst P (sym keys) m)

  needed-key : (p : List ℕ) → IsAmong (needed_at (rules_for given) given.request given.limits.targets) p → IsAmong t.targets p
  needed-key p m = let P : List (List ℕ) → Type 0 = λ ps. IsAmong ps p in subst P keys ((shows.members p).1 m)

  abbrev IsRight : Row → Type 0
  IsRight row = (row.outcome ≡ final_outcome (rules_for given) given.limits.targets row.path) × (arc_value row.deps ≡ deps_of (rules_for given) given.limits.targets row.path)

  -- what waits asked for a path that has no outcome
  lacks-one : (p : List ℕ) (turn : ℕ) (stage : Stage) →
      (is_stage_waiting stage ≡ true → (q : List ℕ) ×
      IsAmong (operands r (stage_deps r (outcomes_at_limit given) p turn stage)) q × (outcomes_of es q ≡ None)) →
      LacksOne r (outcomes_of es) p stage
  lacks-one p turn (Checking awaiting) w = w refl
  lacks-one p turn (Waiting begun) w = w refl
  lacks-one p turn _ w = tt

  target-shown : (row : Row) (bit : Bool) (is : IsTargetRow given t row bit) →
      IsOfBuild given row.path is.slot.stage row.outcome (arc_value row.deps) bit ×
      (stage_outcome is.slot.stage ≡ outcomes_at_limit given row.path)
  target-shown row bit is =
      let p = row.path in
      let stage = is.slot.stage in
      let key = place-among t.targets is.at p is.path in
      let among : IsAmong (paths_of s.entries) p = let Q : List (List ℕ) → Type 0 = λ ps. IsAmong ps p in subst Q (sym keys) key in
      let same : outcomes_of s.entries ≡ outcomes_of es = ap outcomes_of entries in
      let R : Ask → Type 0 = λ a. r.recorded p a ≡ record_of r given.limits.targets p in
      let B : Ask → Type 0 = λ a. r.begins p a ≡ r.begins p (outcomes_at_limit given) in
      let A : Ask → Type 0 = λ a. a p ≡ outcomes_at_limit given p in
      let known = slot-outcome r (outcomes_at_limit given) t.targets t.slots.items is.at p is.slot distinct is.path is.there in
      let outcome : stage_outcome stage ≡ outcomes_at_limit given p = sym known ∙ subst A same (shows.outcomes p among) in
      let at : path_at t.targets is.at ≡ p = ap (λ (o : Option (List ℕ)). unwrap_or o []) is.path in
      let F : List ℕ → Type 0 = λ x. Fits r (outcomes_of es) given x is.slot.turn stage in
      let W : List ℕ → Type 0 = λ x. is_stage_waiting stage ≡ true → (q : List ℕ) ×
      IsAmong (operands r (stage_deps r (outcomes_at_limit given) x (rounds_of is.slot) stage)) q × (outcomes_of es q ≡ None) in
      let waits : W (path_at t.targets is.at) = waited-lacks given t t.schedule.stages table distinct lacks is.at is.slot is.there in (
        stage-shown given p (outcomes_of es) (subst R same (shows.records p among)) (subst B same (shows.begun p among)) (targets p key)
            is.slot.turn stage row.outcome (arc_value row.deps) bit (subst F at (table.fits is.at is.slot is.there)) is.shown is.begun
            (lacks-one p (rounds_of is.slot) stage (subst W at waits)) outcome,
        outcome,
      )

  target-right : (row : Row) (bit : Bool) → IsTargetRow given t row bit → IsRight row
  target-right row bit is =
      let shown = target-shown row bit is in
      let source : is_some (file_at given.past.sources row.path) ≡ false = targets row.path (place-among t.targets is.at row.path is.path) in
      (shown.0.outcome_is ∙ ap (λ (o : Option Outcome). unwrap_or o Cyclic) shown.1, shown.0.deps_is ∙ sym (rw source refl))

  source-right : (row : Row) (bit : Bool) → is_some (file_at given.past.sources row.path) ≡ true → IsSourceRow t row bit → IsRight row
  source-right row bit source is =
      (is.outcome ∙ sym (ap (λ (o : Option Outcome). unwrap_or o Cyclic) (source-outcome r given.limits.targets row.path source)), is.deps ∙ sym (rw source refl))

  abbrev IsBegunPath : List ℕ → Type 0
  IsBegunPath p = IsAmong (needed_at (rules_for given) given.request given.limits.targets) p × ((rules_for given).has_rule p ≡ true) ×
      ((rules_for given).begins p (outcomes_at_limit given) ≡ true)

  -- a row whose script was begun is that of a needed target with a rule that begins
  begun-row : (row : Row) → IsRowOf given t row true → IsBegunPath row.path
  begun-row row (inl is) =
      let both : (r.has_rule row.path && r.begins row.path (outcomes_at_limit given)) ≡ true = sym (target-shown row true is).0.begun_is in
      let parts = and_parts (r.has_rule row.path) (r.begins row.path (outcomes_at_limit given)) both in
      (key-needed row.path (place-among t.targets is.at row.path is.path), parts.0, parts.1)
  begun-row row (inr is) = let bad : true ≡ false = is.begun in cc

  -- and the row of such a target says so
  row-begun : (row : Row) → IsBegunPath row.path → (bit : Bool) → IsRowOf given t row bit → bit ≡ true
  row-begun row is bit (inl there) = (target-shown row bit there).0.begun_is ∙
      and_from (r.has_rule row.path) (r.begins row.path (outcomes_at_limit given)) is.1 is.2
  row-begun row is bit (inr other) = absurd (other.absent (needed-key row.path is.0))

  module _ (report : Report) (made : IsReportOf given t report) where
    right : AllByRecursion IsRight report.rows.items
    right = rows-all given t IsRight report.rows.items made.bits made.rows (λ row bit m is. elim is [
      | inl target ↦ target-right row bit target
      | inr other ↦ elim ((made.paths.members row.path).0 (key-among (λ (row : Row). row.path) report.rows.items row m)) [
        | inl key ↦ absurd (other.absent key)
        | inr source ↦ source-right row bit source.1 other
      ]
    ])

    right-row : (row : Row) → IsItem report.rows.items row → IsRight row
    right-row row m = of-item IsRight report.rows.items row right m

    built-needed : (p bytes : List ℕ) → IsAmong (row_paths report) p → final_outcome (rules_for given) given.limits.targets p ≡ Built (Some bytes) → IsAmong (needed_at (rules_for given) given.request given.limits.targets) p
    built-needed p bytes m built = elim ((made.paths.members p).0 m) [
      | inl key ↦ key-needed p key
      | inr source ↦
          let is : final_outcome r given.limits.targets p ≡ Is_source = ap (λ (o : Option Outcome). unwrap_or o Cyclic) (source-outcome r given.limits.targets p source.1) in
          let bad : Is_source ≡ Built (Some bytes) = sym is ∙ built in
          cc
    ]

    abbrev IsFile : List ℕ × List ℕ → Type 0
    IsFile f = IsAmong (needed_at (rules_for given) given.request given.limits.targets) f.0 × (final_outcome (rules_for given) given.limits.targets f.0 ≡ Built (Some f.1))

    file-from : (f : List ℕ × List ℕ) → IsItem (row_files report.rows.items) f → IsFile f
    file-from f m =
        let found = file_row report.rows.items f m in
        let built : final_outcome r given.limits.targets found.0.path ≡ Built (Some f.1) = sym (right-row found.0 found.1).0 ∙ found.2 in
        let there = built-needed found.0.path f.1 (key-among (λ (row : Row). row.path) report.rows.items found.0 found.1) built in
        let P : List ℕ → Type 0 = λ p. IsAmong (needed_at r given.request given.limits.targets) p × (final_outcome r given.limits.targets p ≡ Built (Some f.1)) in
        subst P found.3 (there, built)

    file-to : (p bytes : List ℕ) → IsAmong (needed_at (rules_for given) given.request given.limits.targets) p → final_outcome (rules_for given) given.limits.targets p ≡ Built (Some bytes) → IsItem (row_files report.rows.items) (p, bytes)
    file-to p bytes m built =
        let found = among-key (λ (row : Row). row.path) report.rows.items p ((made.paths.members p).1 (inl (needed-key p m))) in
        let is : found.0.outcome ≡ Built (Some bytes) = (right-row found.0 found.1).0 ∙ ap (final_outcome r given.limits.targets) found.2 ∙ built in
        let P : List ℕ → Type 0 = λ x. IsItem (row_files report.rows.items) (x, bytes) in
        subst P found.2 (row_file report.rows.items found.0 bytes found.1 is)

    sorted : AreSorted (row_paths report)
    sorted = ascending-sorted (row_paths report) made.paths.ordered

    pub is-report : IsReport (rules_for given) given.request given.limits.targets report
    is-report =
        let A : List (List ℕ × List ℕ) → Type 0 = λ fs. AreAscending (map (λ file. file.0) fs) in
        let B : List (List ℕ) → Type 0 = AreAscending in
        record {
          within = shows.within;
          rows = λ p. (
            λ m. elim ((made.paths.members p).0 m) [ inl key ↦ inl (key-needed p key) | inr source ↦ inr source ],
            λ m. (made.paths.members p).1 (elim m [ inl needed ↦ inl (needed-key p needed) | inr source ↦ inr source ]),
          );
          outcomes = all_rows IsRight report.rows.items right;
          files = λ p bytes. (
            λ m.
                let F : List (List ℕ × List ℕ) → Type 0 = λ fs. Contains fs (p, bytes) in
                file-from (p, bytes) (contained-item (row_files report.rows.items) (p, bytes) (subst F made.files m)),
            λ m.
                let F : List (List ℕ × List ℕ) → Type 0 = λ fs. Contains fs (p, bytes) in
                subst F (sym made.files) (item-contained (row_files report.rows.items) (p, bytes) (file-to p bytes m.0 m.1)),
          );
          begun = λ p. (
            λ m.
                let G : List (List ℕ) → Type 0 = λ ps. IsAmong ps p in
                begun-from given t IsBegunPath report.rows.items made.bits made.rows (λ row i is. begun-row row is) p (subst G made.begun m),
            λ m.
                let G : List (List ℕ) → Type 0 = λ ps. IsAmong ps p in
                let found = among-key (λ (row : Row). row.path) report.rows.items p ((made.paths.members p).1 (inl (needed-key p m.0))) in
                let there : IsBegunPath found.0.path = subst IsBegunPath (sym found.2) m in
                let H : List ℕ → Type 0 = λ x. IsAmong (row_begun report.rows.items made.bits) x in
                subst G (sym made.begun) (subst H found.2 (begun-to given t report.rows.items made.bits made.rows found.0 found.1 (row-begun found.0 there))),
          );
          rows_ordered = made.paths.ordered;
          files_ordered = subst A (sym made.files) (sorted-ascending (map (λ file. file.0) (row_files report.rows.items)) (files_sorted report.rows.items sorted));
          begun_ordered = subst B (sym made.begun) (sorted-ascending (row_begun report.rows.items made.bits) (begun-sorted report.rows.items made.bits sorted));
        }

-- A quiet board

settled-stage : (stage : Stage) → (is_stage_ready stage ≡ true → ⊥) → (is_stage_due stage ≡ true → ⊥) → (is_stage_out stage ≡ true → ⊥) → is_settled stage ≡ true
settled-stage (Due held) ready due out = absurd (due refl)
settled-stage (Ready work) ready due out = absurd (ready refl)
settled-stage Out ready due out = absurd (out refl)
settled-stage _ ready due out = refl

none-queued : (f : ℕ → List ℕ) (xs : List ℕ) (k : ℕ) → map f xs ≡ [] → 0 < times k xs → ⊥
none-queued f [] k e m = absurd (omega (arith, m, times-nil k))
none-queued f (x ∷ xs) k e m = cc

out-counted : (slots : List Slot) (k : ℕ) (slot : Slot) → slice_get slots k ≡ Some slot → is_stage_out slot.stage ≡ true → length (filter (λ x. is_stage_out x.stage) slots) ≡ 0 → ⊥
out-counted [] k slot there out none = cc
out-counted (x ∷ slots) zero slot there out none =
    let same : x ≡ slot = cc in
    let is : is_stage_out x.stage ≡ true = ap (λ (y : Slot). is_stage_out y.stage) same ∙ out in
    let some = rw is at none in
    absurd (omega (arith, some))
out-counted (x ∷ slots) (suc k) slot there out none = elim (cases_Bool (is_stage_out x.stage)) [
  | inl t ↦ let some = rw t at none in absurd (omega (arith, some))
  | inr f ↦ out-counted slots k slot there out (rw f at none)
]

module _ (b : Inside) (kept : IsKept b) (quiet : IsQuiet (state_of b)) where
  staged : (k : ℕ) (slot : Slot) → slice_get b.table.slots.items k ≡ Some slot →
      (s : StageView) × (stage_at b.table.schedule k ≡ Some s) × Agrees (rules_inside b) b.table.targets slot.stage s
  staged = agreed-stage (rules_inside b) b.table.targets b.table.slots.items b.table.schedule.stages kept.at_rest.table.agreed

  pub settled-inside : AllSettled b.table
  settled-inside k slot there = settled-stage slot.stage
      (λ ready.
      let stage = staged k slot there in
      let at : stage_at b.table.schedule k ≡ Some AtReady = stage.1 ∙ ap Some (ready-agrees (rules_inside b) b.table.targets slot.stage stage.0 stage.2 ready) in
      none-queued (path_at b.table.targets) b.table.schedule.ready k quiet.0 (kept.at_rest.resting.queued k at))
      (λ due.
      let stage = staged k slot there in
      kept.none_due k (stage.1 ∙ ap Some (due-agrees (rules_inside b) b.table.targets slot.stage stage.0 stage.2 due)))
      (λ out. out-counted b.table.slots.items k slot there out
      (sym (out_count-slots (rules_inside b) (outcomes_at_limit b.build) b.table.targets b.table.slots.items kept.at_rest.table.one_each) ∙ quiet.1))

  target-keys : (p : List ℕ) → IsAmong b.table.targets p → is_some (file_at b.build.past.sources p) ≡ false
  target-keys p m =
      let P : List (List ℕ) → Type 0 = λ ps. IsAmong ps p in
      (sound-inside b kept).standing.targets p
      (subst P (sym (paths_of-slots (rules_inside b) (outcomes_at_limit b.build) b.table.targets b.table.slots.items kept.at_rest.table.one_each)) m)

  pub report-inside : (report : Report) → IsReportOf b.build b.table report → IsReport (rules_inside b) b.build.request b.build.limits.targets report
  report-inside report made = is-report b.build b.table (state_of b) refl (shows-inside b kept quiet)
      kept.at_rest.table kept.at_rest.resting.lacks (distinct-inside b kept) target-keys report made

none_stopped : {A : Type 0} (o : Option A) → IsNone o → is_some o ≡ false
none_stopped None h = refl
none_stopped (Some x) h = absurd cc

-- a board that is shown as quiet is so
pub quiet-inside : (b : Inside) (view : BoardView) → view_of b ≡ view → IsQuietBoard view → IsNone b.stopped × IsQuiet (state_of b)
quiet-inside b view is quiet =
    let P : BoardView → Type 0 = IsQuietBoard in
    let here : IsQuietBoard (view_of b) = subst P (sym is) quiet in
    let on : is_some b.stopped ≡ false = none_stopped b.stopped here.0 in
    let ready = rw on at here.1 in
    let out = rw on at here.2 in
    (here.0, (no_paths (map (path_at b.table.targets) b.table.schedule.ready) ready, out))

pub if_ok-more : {X E : Type 0} (r : Result X E) (P Q : X → Type 0) → ((x : X) → P x → Q x) → IfOk r P → IfOk r Q
if_ok-more (Ok x) P Q f h = f x h
if_ok-more (Err e) P Q f h = tt

-- the report of a quiet board's table is that of its build
pub report-view : (b : Inside) (invariant : IsNone b.stopped → IsKept b) (view : BoardView) → view_of b ≡ view → IsQuietBoard view →
    (report : Report) → IsReportOf b.build b.table report → IsReport (rules_on view) view.given.request view.given.limits.targets report
report-view b invariant view is quiet report made =
    let q = quiet-inside b view is quiet in
    let V : BoardView → Type 0 = λ v. IsReport (rules_on v) v.given.request v.given.limits.targets report in
    subst V is (report-inside b (invariant q.0) q.1 report made)

told-stage : (r : Rules) (a : Ask) (given : GivenView) (p : List ℕ) (turn : ℕ) (stage : Stage) → Fits r a given p turn stage → IsTold given stage
told-stage r a given p turn (Checking awaiting) fits = number-within given p awaiting.held.value.check.number fits.waits.in_check
told-stage r a given p turn _ fits = tt

-- the checks of a board's table that wait are of records in its book
pub told-inside : (b : Inside) → IsKept b → AllTold b.build b.table
told-inside b kept k slot there =
    told-stage (rules_inside b) (outcomes_of (state_of b).entries) b.build (path_at b.table.targets k) slot.turn slot.stage (kept.at_rest.table.fits k slot there)
