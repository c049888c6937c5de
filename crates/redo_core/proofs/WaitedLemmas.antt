-- What waits lacks an outcome, where the schedule says that each that waits lacks something.
use Rattle.std.proofs.Common.{slice_get, ◌≡◌, ℕ, zero, suc, true, inl, inr, List, [], ◌∷◌, Some, None, refl}
use Rattle.std.proofs.Common.{ap, subst, ◌∙◌, arith}
use Rattle.std.proofs.lemmas.Bool.{cases_Bool}
use Rattle.redo_names.proofs.PathLemmas.{place-among}
use Rattle.redo_record.specs.Paths.{IsAmong, AreDistinct}
use Rattle.redo_build.specs.Rules.{Ask, Rules, operands}
use Rattle.redo_build.specs.Schedule.{outcome_of, outcomes_of}
use Rattle.redo_table.specs.Schedule.{StageView, EachLacks}
use Rattle.redo_table.specs.Schedule.StageView.{Waiting as AtWaiting, Decided as AtDecided}
use Rattle.redo_core.specs.inside.Slots.{outcomes_at_limit, Agrees, Fits, IsTable, IsCheckingWith, IsWaitingWith}
use Rattle.redo_core.specs.inside.Slots.{is_stage_decided, is_stage_waiting, path_at, rounds_of, stage_deps}
use Rattle.redo_core.specs.inside.Slots.{table_entries, GivenView, rules_for, Slot, Table, Stage, Checking, Waiting}
use Rattle.redo_core.specs.inside.Works.{waited_by}
use Rattle.redo_core.proofs.AgreeLemmas.{agreed-stage, decided-agrees}
use Rattle.redo_core.proofs.CheckingLemmas.{waiting-asked}
use Rattle.redo_core.proofs.NumberLemmas.{numbers-number}
use Rattle.redo_core.proofs.SlotLemmas.{entry_of-slots}
use Rattle.std.proofs.lemmas.Option.{slice_get_within}
use Rattle.redo_table.proofs.TargetLemmas.{there-below}
use Rattle.redo_core.proofs.TableSteps.{open-outcome, waited_asked}

alone-is : (n i k : ℕ) → slice_get (n ∷ []) i ≡ Some k → k ≡ n
alone-is n zero k h = cc
alone-is n (suc i) k h = cc

module _ (given : GivenView) (t : Table) (stages : List StageView) (table : IsTable (rules_for given) given t.targets t.slots.items stages)
    (distinct : AreDistinct t.targets) (lacks : EachLacks stages) where
  abbrev r : Rules
  r = rules_for given

  abbrev a : Ask
  a = outcomes_of (table_entries given t)

  -- what isn't decided has no outcome
  undecided : (n : ℕ) (q : List ℕ) → slice_get t.targets n ≡ Some q → (slice_get stages n ≡ Some AtDecided → ⊥) → a q ≡ None
  undecided n q path apart =
      let slot = there-below t.slots.items n (omega (arith, table.one_each, slice_get_within t.targets n q path)) in
      let stage = agreed-stage r t.targets t.slots.items stages table.agreed n slot.0 slot.1 in
      let entry = entry_of-slots r (outcomes_at_limit given) t.targets t.slots.items n q slot.0 distinct path slot.1 in
      elim (cases_Bool (is_stage_decided slot.0.stage)) [
        | inl decided ↦ absurd (apart (stage.1 ∙ ap Some (decided-agrees r t.targets slot.0.stage stage.0 stage.2 decided)))
        | inr open' ↦ ap outcome_of entry ∙ open-outcome slot.0.stage open'
      ]

  module _ (k : ℕ) (slot : Slot) (there : slice_get t.slots.items k ≡ Some slot) where
    by-stage : (stage : Stage) → slot.stage ≡ stage → is_stage_waiting stage ≡ true →
        (q : List ℕ) × IsAmong (operands r (stage_deps r (outcomes_at_limit given) (path_at t.targets k) (rounds_of slot) stage)) q × (a q ≡ None)
    by-stage (Checking awaiting) is waits =
        let p = path_at t.targets k in
        let s = agreed-stage r t.targets t.slots.items stages table.agreed k slot there in
        let F : Stage → Type 0 = Fits r a given p slot.turn in
        let A : Stage → Type 0 = λ st. Agrees r t.targets st s.0 in
        let fits : IsCheckingWith r a given p slot.turn awaiting = subst F is (table.fits k slot there) in
        let agrees : (n : ℕ) × (s.0 ≡ AtWaiting (n ∷ [])) × (slice_get t.targets n ≡ Some awaiting.path) = subst A is s.2 in
        let lack = lacks k (agrees.0 ∷ []) (s.1 ∙ ap Some agrees.1) in
        let same = alone-is agrees.0 lack.i lack.k lack.there in
        let U : ℕ → Type 0 = λ n. slice_get stages n ≡ Some AtDecided → ⊥ in (
          awaiting.path,
          waiting-asked given p awaiting.held.value.check a awaiting.path fits.waits,
          undecided agrees.0 awaiting.path agrees.2 (subst U same lack.undecided),
        )
    by-stage (Waiting begun) is waits =
        let p = path_at t.targets k in
        let s = agreed-stage r t.targets t.slots.items stages table.agreed k slot there in
        let F : Stage → Type 0 = Fits r a given p slot.turn in
        let A : Stage → Type 0 = λ st. Agrees r t.targets st s.0 in
        let fits : IsWaitingWith r a given p slot.turn begun.value = subst F is (table.fits k slot there) in
        let agrees = subst A is s.2 in
        let lack = lacks k agrees.0 (s.1 ∙ ap Some agrees.1) in
        let path = numbers-number t.targets agrees.0 (waited_by r begun.value) lack.i lack.k agrees.2 lack.there in (
          path.0,
          waited_asked given a p slot.turn begun.value fits path.0 (place-among (waited_by r begun.value) lack.i path.0 path.1),
          undecided lack.k path.0 path.2 lack.undecided,
        )
    by-stage _ is waits = cc

    pub waited-lacks : is_stage_waiting slot.stage ≡ true → (q : List ℕ) ×
        IsAmong (operands (rules_for given) (stage_deps (rules_for given) (outcomes_at_limit given) (path_at t.targets k) (rounds_of slot) slot.stage)) q ×
        (outcomes_of (table_entries given t) q ≡ None)
    waited-lacks = by-stage slot.stage refl
