-- The entries that a table of a build stands for, and what is known of a table at rest.
use Rattle.std.proofs.Common.{slice_get, ◌≡◌, ℕ, ◌<◌, ◌≤◌, List, length, Some, None, refl, sym, ap, subst, ◌∙◌, arith}
use Rattle.redo_record.specs.Paths.{IsAmong, AreDistinct}
use Rattle.redo_build.specs.Rules.{Extends, operands}
use Rattle.redo_build.specs.Outcomes.{outcome_at}
use Rattle.redo_build.specs.Schedule.{Entry, entry_of, outcomes_of, paths_of}
use Rattle.redo_build.specs.inside.Standing.{AreStanding, decided_count, rounds}
use Rattle.redo_build.proofs.DepthLemmas.{deeper}
use Rattle.redo_build.proofs.SeenLemmas.{decided_count-length}
use Rattle.redo_build.proofs.SoundLemmas.{IsSound}
use Rattle.redo_build.proofs.StandingLemmas.{outcomes_of-deep}
use Rattle.redo_build.proofs.TurnBoundLemmas.{turn-below}
use Rattle.redo_build.proofs.TurnLemmas.{Extends-trans'}
use Rattle.redo_rules.proofs.Public.{lawful_for}
use Rattle.redo_table.specs.Schedule.{StageView}
use Rattle.redo_core.specs.inside.Slots.{outcomes_at_limit, IsAtRest, IsTable, path_at, slot_entry, table_entries}
use Rattle.redo_core.specs.inside.Slots.{table_state, GivenView, rules_for, Slot, Table}
use Rattle.redo_build.proofs.ReachedLemmas.{reached-sound}
use Rattle.redo_core.proofs.SlotLemmas.{entry_of-slots, paths_of-slots}
use Rattle.std.proofs.lemmas.Option.{slice_get_within}
use Rattle.redo_table.proofs.TargetLemmas.{there-below}

module _ (given : GivenView) (t : Table) (stages : List StageView) (table : IsTable (rules_for given) given t.targets t.slots.items stages) where
  abbrev es : List Entry
  es = table_entries given t

  -- one for each path, in the same order
  pub entry-paths : paths_of (table_entries given t) ≡ t.targets
  entry-paths = paths_of-slots (rules_for given) (outcomes_at_limit given) t.targets t.slots.items table.one_each

  -- no more than the limit allows
  pub entries-few : length (paths_of (table_entries given t)) ≤ given.limits.targets
  entries-few = omega (arith, ap length entry-paths, table.one_each, table.within_limit)

  pub path-below : (at : ℕ) → at < length t.slots.items → slice_get t.targets at ≡ Some (path_at t.targets at)
  path-below at below =
      let found = there-below t.targets at (omega (arith, table.one_each, below)) in
      let is : path_at t.targets at ≡ found.0 = rw found.1 refl in
      found.1 ∙ ap Some (sym is)

  pub path-there : (at : ℕ) (slot : Slot) → slice_get t.slots.items at ≡ Some slot → slice_get t.targets at ≡ Some (path_at t.targets at)
  path-there at slot there = path-below at (slice_get_within t.slots.items at slot there)

  module _ (request : List (List ℕ)) (standing : AreStanding (rules_for given) request (table_entries given t)) where
    pub keys-distinct : AreDistinct t.targets
    keys-distinct = let P : List (List ℕ) → Type 0 = AreDistinct in subst P entry-paths standing.distinct

    pub entry-there : (at : ℕ) (slot : Slot) → slice_get t.slots.items at ≡ Some slot →
        entry_of (table_entries given t) (path_at t.targets at) ≡ Some (slot_entry (rules_for given) (outcomes_at_limit given) (path_at t.targets at) slot)
    entry-there at slot there =
        entry_of-slots (rules_for given) (outcomes_at_limit given) t.targets t.slots.items at (path_at t.targets at) slot keys-distinct (path-there at slot there) there

    -- what is decided is the build's at the limit
    pub known-deep : Extends (rules_for given) (outcomes_of (table_entries given t)) (outcomes_at_limit given)
    known-deep =
        let r = rules_for given in
        Extends-trans' r (outcomes_of es) (outcome_at r (decided_count es)) (outcomes_at_limit given) (outcomes_of-deep r (lawful_for given) request es standing)
        (deeper r (lawful_for given) (decided_count es) given.limits.targets (omega (arith, decided_count-length es, entries-few)))

    -- an entry that has all its answers stops fewer times than there may be targets
    pub rounds-few : (p : List ℕ) (e : Entry) → entry_of (table_entries given t) p ≡ Some e → e.outcome ≡ None →
        ((q : List ℕ) → IsAmong (operands (rules_for given) e.deps) q → outcomes_of (table_entries given t) q ≡ None → ⊥) → rounds e < 65536
    rounds-few p e at open' fed =
        omega (arith, turn-below (rules_for given) (lawful_for given) request es standing p e at open' fed, entries-few, table.few)

module _ (given : GivenView) (t : Table) (rest : IsAtRest given t) where
  pub rest-sound : IsSound (rules_for given) given.request (table_state given t)
  rest-sound = reached-sound (rules_for given) (lawful_for given) given.request (table_state given t) rest.reached

  pub rest-distinct : AreDistinct t.targets
  rest-distinct = keys-distinct given t t.schedule.stages rest.table given.request rest-sound.standing
