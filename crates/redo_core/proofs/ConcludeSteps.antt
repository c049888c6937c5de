-- A target that was out is decided by a fact.
use Rattle.std.proofs.Common.{slice_get, ◌≡◌, ℕ, List, Some, sym, ap, subst, ◌∙◌}
use Rattle.redo_record.specs.Paths.{AreDistinct}
use Rattle.redo_sync.specs.Shown.{Shown}
use Rattle.redo_build.specs.Schedule.{Entry, State, put}
use Rattle.redo_build.specs.inside.Standing.{AreStanding}
use Rattle.redo_table.specs.Schedule.{ScheduleView, stage_at}
use Rattle.redo_table.specs.Schedule.StageView.{InHand as AtHand, Decided as AtDecided}
use Rattle.redo_core.specs.Views.{FactView}
use Rattle.redo_core.specs.inside.Slots.{IsDecidedAt, IsConcludedAt, IsOutThere, IsPutBackThere, IsSettled}
use Rattle.redo_core.specs.inside.Slots.{IsStandingTable, IsTableOf, MayConclude, concluded_entry, path_at}
use Rattle.redo_core.specs.inside.Slots.{table_entries, GivenView, rules_for, Slot, Decided, Table}
use Rattle.redo_core.proofs.PutSteps.{put-entries, put-none_in_hand, decided-table}
use Rattle.redo_core.proofs.NumberLemmas.{same-some}

module _ (given : GivenView) (t u : Table) (at : ℕ) (fact : FactView) (may : MayConclude given t at fact)
    (known : Shown FactView) (same : known.value ≡ fact) (d : IsDecidedAt t u at known) where
  pub concluded-entries : table_entries given u ≡
      put (table_entries given t) (concluded_entry given (path_at t.targets at) d.old fact)
  concluded-entries = put-entries given t u may.table may.distinct at d.old (record d.old { stage = Decided known }) AtDecided d.put_back
      ∙ ap (λ (f : FactView). put (table_entries given t) (concluded_entry given (path_at t.targets at) d.old f)) same

  pub concluded-table : IsTableOf given u
  concluded-table = decided-table given t u may.table may.distinct at known d
      (ap (λ (f : FactView). f.given) same ∙ may.of_build.0) (ap (λ (f : FactView). f.target) same ∙ may.of_build.1)

  pub concluded-standing : IsStandingTable given u
  concluded-standing =
      let P : List Entry → Type 0 = AreStanding (rules_for given) may.request in
      (may.request, subst P (sym concluded-entries) (may.standing d.old d.put_back.there))

  -- and what waited for it went on
  pub concluded-settled : (v : Table) → IsSettled given u v → IsConcludedAt given t v at fact
  concluded-settled v settled = record {
    table = settled.0.table;
    slot = d.old;
    there = d.put_back.there;
    entries = settled.0.entries ∙ concluded-entries;
    ready = settled.0.ready ∙ ap (λ (x : ScheduleView). x.ready) d.put_back.schedule;
    targets = settled.0.targets ∙ d.put_back.targets;
    lacks = settled.1;
    put_back = λ k h. put-none_in_hand given t u may.table may.distinct at d.old (record d.old { stage = Decided known }) AtDecided d.put_back
        (λ e. let bad : AtDecided ≡ AtHand = e in cc) may.alone k (settled.0.in_hand k h);
  }

-- a fact that leads from the table to the entries of this state
module _ (given : GivenView) (t : Table) (at : ℕ) (fact : FactView) (slot : Slot) (there : slice_get t.slots.items at ≡ Some slot)
    (after : State) (leads : put (table_entries given t) (concluded_entry given (path_at t.targets at) slot fact) ≡ after.entries) where
  leads-there : (x : Slot) → slice_get t.slots.items at ≡ Some x →
      put (table_entries given t) (concluded_entry given (path_at t.targets at) x fact) ≡ after.entries
  leads-there x here =
      let same : x ≡ slot = same-some _ _ _ here there in
      ap (λ (y : Slot). put (table_entries given t) (concluded_entry given (path_at t.targets at) y fact)) same ∙ leads

  pub conclude-may : IsTableOf given t → AreDistinct t.targets → IsOutThere t at → ((k : ℕ) → stage_at t.schedule k ≡ Some AtHand → at ≡ k) →
      (fact.given ≡ given) × (fact.target ≡ path_at t.targets at) → (request : List (List ℕ)) → AreStanding (rules_for given) request after.entries →
      MayConclude given t at fact
  conclude-may table distinct out alone of_build request stands = record {
    table = table;
    distinct = distinct;
    is_out = out;
    alone = alone;
    of_build = of_build;
    request = request;
    standing = λ x here. let S : List Entry → Type 0 = AreStanding (rules_for given) request in subst S (sym (leads-there x here)) stands;
  }

  pub conclude-put : (u : Table) → IsConcludedAt given t u at fact → IsPutBackThere given after t u
  conclude-put u c = record {
    table = c.table;
    entries = c.entries ∙ leads-there c.slot c.there;
    ready = c.ready;
    keys_kept = λ k p h. rw c.targets h;
    lacks = c.lacks;
    put_back = c.put_back;
  }
