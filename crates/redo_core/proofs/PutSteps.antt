-- Putting back what a target that was out came to.
use Rattle.std.proofs.Common.{slice_get, slice_set, ◌≡◌, ℕ, ◌+◌, inl, inr, List, []}
use Rattle.std.proofs.Common.{◌∷◌, length-set, Some, None, refl, sym, ap, subst, ◌∙◌, arith}
use Rattle.std.proofs.Common.{Global}
use Rattle.std.specs.Prelude.{Box}
use Rattle.redo_record.specs.Paths.{AreDistinct}
use Rattle.redo_build.specs.Rules.{Ask, Rules, Extends}
use Rattle.redo_build.specs.Schedule.{outcomes_of, put}
use Rattle.redo_rules.proofs.Public.{lawful_for}
use Rattle.redo_table.specs.Schedule.{StageView, ScheduleView, stage_at}
use Rattle.redo_table.specs.Schedule.StageView.{InHand as AtHand, Waiting as AtWaiting, Decided as AtDecided}
use Rattle.redo_table.proofs.TargetLemmas.{set-cases}
use Rattle.redo_sync.specs.Shown.{Shown}
use Rattle.redo_core.specs.Views.{FactView}
use Rattle.redo_core.specs.inside.Slots.{outcomes_at_limit, table_entries, entries_from, slot_entry, stage_outcome}
use Rattle.redo_core.specs.inside.Slots.{path_at, Agrees, AreNumbers, Fits, IsTable, IsTableOf, IsPutBack}
use Rattle.redo_core.specs.inside.Slots.{IsDecidedAt, IsParkedAt, IsWaitingWith, IsAskedAt, IsCheckingWith, GivenView}
use Rattle.redo_core.specs.inside.Slots.{rules_for, Awaiting, Slot, Table, Stage, Checking, Waiting, Decided}
use Rattle.redo_core.specs.inside.Works.{waited_by}
use Rattle.redo_core.specs.declared.work.Begun.{Begun}
use Rattle.redo_core.proofs.AgreeLemmas.{agreed-set, agreed-stage}
use Rattle.redo_core.proofs.EntryLemmas.{path-there}
use Rattle.redo_core.proofs.SlotLemmas.{slot_entries-set}
use Rattle.redo_core.proofs.TableLemmas.{Fits-more, fits-set, outcomes-more}

module _ (given : GivenView) (t u : Table) (table : IsTableOf given t) (distinct : AreDistinct t.targets) (at : ℕ) where
  abbrev r : Rules
  r = rules_for given

  module _ (old new : Slot) (s : StageView) (w : IsPutBack t u at old new s) where
    put_path : slice_get t.targets at ≡ Some (path_at t.targets at)
    put_path = path-there given t t.schedule.stages table at old w.there

    put-more : Extends r (outcomes_of (table_entries given t)) (outcomes_of (entries_from r given.limits.targets t.targets (slice_set t.slots.items at new)))
    put-more =
        outcomes-more r (lawful_for given) given.limits.targets t.targets t.slots.items at (path_at t.targets at) old new distinct put_path w.there
        (let O : Stage → Type 0 = λ st. stage_outcome st ≡ None in subst O (sym w.was) refl)

    -- the entries are those before with one replaced
    pub put-entries : table_entries given u ≡
        put (table_entries given t) (slot_entry (rules_for given) (outcomes_at_limit given) (path_at t.targets at) new)
    put-entries = rw (w.targets, w.slots) (slot_entries-set r (outcomes_at_limit given) t.targets t.slots.items at (path_at t.targets at) old new distinct put_path w.there)

    put-stages : u.schedule.stages ≡ slice_set t.schedule.stages at s
    put-stages = ap (λ (x : ScheduleView). x.stages) w.schedule

    put-table : Agrees r t.targets new.stage s → ((a : Ask) → Extends r (outcomes_of (table_entries given t)) a →
        Fits r a given (path_at t.targets at) new.turn new.stage) → IsTableOf given u
    put-table agrees fit =
        let len = length-set t.slots.items at new in
        let raw : IsTable r given t.targets (slice_set t.slots.items at new) (slice_set t.schedule.stages at s) = record {
          one_each = len ∙ table.one_each;
          within_limit = omega (arith, len, table.within_limit);
          few = table.few;
          fits = fits-set r (lawful_for given) given.limits.targets t.targets t.slots.items at (path_at t.targets at) old new distinct put_path w.there given refl
              put-more table.fits (fit (outcomes_of (entries_from r given.limits.targets t.targets (slice_set t.slots.items at new))) put-more);
          agreed = agreed-set r t.targets t.slots.items t.schedule.stages table.agreed at old new s w.there agrees;
        } in
        rw (w.targets, w.slots, put-stages) raw

    -- no target is in hand then, where no other was
    pub put-none_in_hand : (s ≡ AtHand → ⊥) → ((k : ℕ) → stage_at t.schedule k ≡ Some AtHand → at ≡ k) → (k : ℕ) → stage_at u.schedule k ≡ Some AtHand → ⊥
    put-none_in_hand apart alone k h =
        let was = agreed-stage r t.targets t.slots.items t.schedule.stages table.agreed at old w.there in
        elim (set-cases t.schedule.stages at k was.0 s AtHand was.1 (sym (ap (λ ss. slice_get ss k) put-stages) ∙ h)) as (λ _. ⊥) [
          | inl here ↦ apart here.1
          | inr other ↦ other.0 (alone k other.1)
        ]

  -- a target that is decided
  pub decided-table : (fact : Shown FactView) (d : IsDecidedAt t u at fact) → fact.value.given ≡ given → fact.value.target ≡ path_at t.targets at → IsTableOf given u
  decided-table fact d one two = put-table d.old (record d.old { stage = Decided fact }) AtDecided d.put_back refl (λ a more. (one, two))

  -- a job that is parked again
  pub parked-table : (begun : Box Begun Global) (on : List ℕ) (d : IsParkedAt t u at begun on) →
      IsWaitingWith (rules_for given) (outcomes_of (table_entries given t)) given (path_at t.targets at) (d.old.turn + 1) begun.value →
      AreNumbers t.targets on (waited_by (rules_for given) begun.value) → IsTableOf given u
  parked-table begun on d waits are =
      put-table d.old (record d.old { turn = d.old.turn + 1; stage = Waiting begun }) (AtWaiting on) d.put_back (on, refl, are)
      (λ b more. Fits-more given (outcomes_of (table_entries given t)) b (path_at t.targets at) (d.old.turn + 1) (Waiting begun) more waits)

  -- a check that waits now
  pub asked-table : (awaiting : Awaiting) (place : ℕ) (d : IsAskedAt t u at awaiting place) →
      IsCheckingWith (rules_for given) (outcomes_of (table_entries given t)) given (path_at t.targets at) d.old.turn awaiting →
      slice_get t.targets place ≡ Some awaiting.path → IsTableOf given u
  asked-table awaiting place d checks number =
      put-table d.old (record d.old { looks = d.old.looks + 1; stage = Checking awaiting }) (AtWaiting (place ∷ [])) d.put_back (place, refl, number)
      (λ b more. Fits-more given (outcomes_of (table_entries given t)) b (path_at t.targets at) d.old.turn (Checking awaiting) more checks)
