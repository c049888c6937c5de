-- What stays as it is while paths are entered into a table.
use Rattle.std.proofs.Common.{slice_get, ◌≡◌, ℕ, ◌<◌, inl, inr, List, length, Some, refl, sym, ap, subst, ◌∙◌, arith, false, true}
use Rattle.redo_names.proofs.ListLemmas.{with_new-distinct}
use Rattle.redo_record.specs.declared.outcome.Outcome.{Outcome}
use Rattle.redo_record.specs.Paths.{AreDistinct}
use Rattle.redo_build.specs.Schedule.{Entry, entered, outcomes_of, paths_of}
use Rattle.redo_build.proofs.SeenLemmas.{entry_of-entered_old, outcomes_of-at, outcomes_of-entry, paths_of-entered}
use Rattle.redo_table.specs.Schedule.{stage_at}
use Rattle.redo_table.specs.Schedule.StageView.{Out as AtOut, InHand as AtHand}
use Rattle.redo_core.specs.inside.Slots.{AreEnteredInto, IsOutThere, IsTableOf, path_at, table_entries, GivenView}
use Rattle.redo_core.specs.inside.Slots.{rules_for, Slot, Table}
use Rattle.redo_core.proofs.EntryLemmas.{entry-paths, path-there}
use Rattle.std.proofs.lemmas.Option.{slice_get_within}

module _ (given : GivenView) (t v : Table) (ps : List (List ℕ)) (table : IsTableOf given t) (a : AreEnteredInto given t v ps) where
  -- a target that is out stays so
  pub entered-out : (at : ℕ) → IsOutThere t at → IsOutThere v at
  entered-out at out = (
    elim out.0 [ inl is ↦ inl (a.stages_kept at AtOut is) | inr is ↦ inr (a.stages_kept at AtHand is) ],
    (out.1.0, a.slots_kept at out.1.0 out.1.1, out.1.2, out.1.3, out.1.4),
  )

  -- nothing more is in hand
  pub entered-in_hand : (k : ℕ) → stage_at v.schedule k ≡ Some AtHand → stage_at t.schedule k ≡ Some AtHand
  entered-in_hand k h = elim (a.fresh k AtHand h) [ inl old ↦ old | inr new ↦ absurd (let bad : false ≡ true = new in cc) ]

  pub entered-path : (at : ℕ) (slot : Slot) → slice_get t.slots.items at ≡ Some slot → path_at v.targets at ≡ path_at t.targets at
  entered-path at slot there = rw (a.keys_kept at (path_at t.targets at) (path-there given t t.schedule.stages table at slot there)) refl

  pub entered-distinct : AreDistinct (paths_of (table_entries given t)) → AreDistinct v.targets
  entered-distinct distinct =
      let P : List (List ℕ) → Type 0 = AreDistinct in
      let paths = ap paths_of a.entries ∙ paths_of-entered (rules_for given) (table_entries given t) ps in
      subst P (entry-paths given v v.schedule.stages a.table) (subst P (sym paths) (with_new-distinct (paths_of (table_entries given t)) ps distinct))

  -- what is known stays known
  pub entered-known : (q : List ℕ) (o : Outcome) → outcomes_of (table_entries given t) q ≡ Some o → outcomes_of (table_entries given v) q ≡ Some o
  entered-known q o h =
      let r = rules_for given in
      let es = table_entries given t in
      let P : List Entry → Type 0 = λ xs. outcomes_of xs q ≡ Some o in
      let old = outcomes_of-entry es q o h in
      subst P (sym a.entries) (outcomes_of-at (entered r es ps) q old.0 (entry_of-entered_old r es ps q old.0 old.1) ∙ old.2)

  -- the number of a path is one that the schedule has
  pub entered-number : (n : ℕ) (q : List ℕ) → slice_get v.targets n ≡ Some q → n < length v.schedule.stages
  entered-number n q path = omega (arith, a.table.one_each, a.table.agreed.one_each, slice_get_within v.targets n q path)
