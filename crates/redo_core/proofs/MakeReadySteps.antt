-- A job that waited takes over the facts of what it waited for and is made a work.
use Rattle.std.proofs.Common.{slice_get, slice_set, ◌≡◌, ℕ, zero, suc, false, inl, inr, List, ◌∷◌}
use Rattle.std.proofs.Common.{Some, None, refl, sym, ap, subst, ◌∙◌, arith, bytes_eq, Global}
use Rattle.std.proofs.lemmas.Bool.{cases_Bool, both_ways}
use Rattle.std.proofs.lemmas.Slice.Eq.{bytes_eq-Decides}
use Rattle.redo_names.proofs.PathLemmas.{among-told, place-among}
use Rattle.redo_record.specs.declared.outcome.Outcome.{Outcome}
use Rattle.redo_sync.specs.Shown.{Shown}
use Rattle.redo_step.specs.JobView.{JobView}
use Rattle.redo_record.specs.Paths.{AreDistinct, IsAmong, is_among}
use Rattle.redo_build.specs.Rules.{Ask, Rules, operands}
use Rattle.redo_build.specs.Outcomes.{outcome_at}
use Rattle.redo_build.specs.Schedule.{Entry, outcome_of, outcomes_of, entry_of, only}
use Rattle.redo_rules.proofs.Public.{lawful_for}
use Rattle.redo_core.specs.inside.Works.{all_asked, job_deps, told_in, waited_by, IsWorkWith}
use Rattle.redo_core.specs.inside.Checking.{IsBegunBehind, TellsAlike}
use Rattle.redo_build.specs.inside.Turns.{IsWork}
use Rattle.redo_core.proofs.AllAskedLemmas.{asked-cases, asked-second}
use Rattle.redo_core.proofs.CheckingLemmas.{behind-moves}
use Rattle.redo_record.specs.Entries.{with_all}
use Rattle.redo_record.specs.declared.deps.Dep.{Dep}
use Rattle.redo_core.specs.inside.Slots.{outcomes_at_limit, path_at, table_entries, slot_entries, slot_entry}
use Rattle.redo_core.specs.inside.Slots.{stage_outcome, is_stage_decided, AllFit, Fits, IsDecidedNumber, IsFactAt}
use Rattle.redo_core.specs.inside.Slots.{IsFed, IsFedAs, Gains, GivenView, rules_for, Slot, Stage, Table, Waiting}
use Rattle.redo_core.specs.inside.Slots.{Out, Decided}
use Rattle.redo_core.specs.declared.facts.Facts.{Facts}
use Rattle.redo_core.specs.declared.work.Begun.{Begun}
use Rattle.std.specs.Prelude.{Box}
use Rattle.redo_build.proofs.DepthLemmas.{cases_Option, operand-target}
use Rattle.redo_core.proofs.JobLemmas.{asked_of_job, asked_by_job}
use Rattle.redo_build.proofs.TurnLemmas.{only-among}
use Rattle.redo_core.proofs.SlotLemmas.{entry_of-slots}
use Rattle.std.proofs.lemmas.Option.{slice_get_within}
use Rattle.redo_table.proofs.TargetLemmas.{get-other, set-cases}
use Rattle.redo_core.proofs.TableSteps.{waited-declared, waited-place}
use Rattle.redo_core.proofs.GainSteps.{decided-fact}
use Rattle.redo_core.proofs.NumberLemmas.{numbers-number, numbers-path, same-some}
use Rattle.redo_core.specs.Views.{FactView}

-- the slot of an entry
pub slot-of-path : (r : Rules) (a : Ask) (ps : List (List ℕ)) (slots : List Slot) (q : List ℕ) (e : Entry) → entry_of (slot_entries r a ps slots) q ≡ Some e →
    (k : ℕ) × (slot : Slot) × (slice_get ps k ≡ Some q) × (slice_get slots k ≡ Some slot) × (e ≡ slot_entry r a q slot)
slot-of-path r a (p ∷ ps) (s ∷ slots) q e h = elim (cases_Bool (bytes_eq p q)) [
  | inl t ↦
      let path : p ≡ q = (bytes_eq-Decides p q).0 t in
      let now : Some (slot_entry r a p s) ≡ Some e = rw t at h in
      let is : slot_entry r a p s ≡ e = cc in
      (zero, s, ap Some path, refl, sym is ∙ ap (λ x. slot_entry r a x s) path)
  | inr f ↦
      let found = slot-of-path r a ps slots q e (rw f at h) in
      (suc found.0, found.1, found.2, found.3, found.4)
]
slot-of-path r a _ _ q e h = cc

-- while an undecided slot is out, what is decided stays so
pub number-kept : (t u : Table) (at : ℕ) (slot gone : Slot) → slice_get t.slots.items at ≡ Some slot → is_stage_decided slot.stage ≡ false →
    u.slots.items ≡ slice_set t.slots.items at gone → (n : ℕ) → IsDecidedNumber t n → IsDecidedNumber u n
number-kept t u at slot gone there undecided slots n d =
    let other : n ≡ at → ⊥ = λ e.
    (let P : ℕ → Type 0 = λ j. slice_get t.slots.items j ≡ Some d.0 in
    let same : d.0 ≡ slot = same-some _ _ _ (subst P e d.1) there in
    both_ways _ undecided (sym (ap (λ (y : Slot). is_stage_decided y.stage) same) ∙ d.2)) in
    (d.0, rw slots (get-other t.slots.items at n gone (λ e. other (sym e)) ∙ d.1), d.2)

-- and a fact there is that of the number's path, with an outcome that is known
pub fact-kept : (given : GivenView) (t u : Table) (at : ℕ) (slot gone : Slot) → slice_get t.slots.items at ≡ Some slot → gone.stage ≡ Out → u.slots.items ≡ slice_set t.slots.items at gone →
    AreDistinct t.targets → AllFit (rules_for given) given.limits.targets given t.targets t.slots.items →
    (n : ℕ) (q : List ℕ) (fact : Shown FactView) → slice_get t.targets n ≡ Some q → IsFactAt u n fact →
    (fact.value.target ≡ q) × (outcomes_of (table_entries given t) q ≡ Some fact.value.outcome)
fact-kept given t u at slot gone was out slots distinct all n q fact path there =
    let r = rules_for given in
    let a = outcomes_of (table_entries given t) in
    let get : slice_get (slice_set t.slots.items at gone) n ≡ Some there.0 = sym (ap (λ xs. slice_get xs n) slots) ∙ there.1 in
    elim (set-cases t.slots.items at n slot gone there.0 was get) [
      | inl here ↦ absurd (
          let decided : gone.stage ≡ Decided fact = ap (λ (y : Slot). y.stage) here.1 ∙ there.2 in
          let bad : Out ≡ Decided fact = sym out ∙ decided in
          cc)
      | inr old ↦
          let F : Stage → Type 0 = Fits r a given (path_at t.targets n) there.0.turn in
          let fits : Fits r a given (path_at t.targets n) there.0.turn (Decided fact) = subst F there.2 (all n there.0 old.1) in
          let is : path_at t.targets n ≡ q = rw path refl in (
            fits.1 ∙ is,
            ap outcome_of (entry_of-slots r (outcomes_at_limit given) t.targets t.slots.items n q there.0 distinct path old.1) ∙ ap stage_outcome there.2,
          )
    ]

module _ (given : GivenView) (t : Table) (at : ℕ) (on : List ℕ) (slot : Slot) (begun : Box Begun Global) where
  -- what was fed is this job
  pub fed-here : IsFed given t at on → slice_get t.slots.items at ≡ Some slot → slot.stage ≡ Waiting begun → IsFedAs given t at on slot begun
  fed-here fed there is =
      let same : fed.0 ≡ slot = same-some _ _ _ fed.2.there there in
      let stages : Waiting fed.1 ≡ Waiting begun = sym fed.2.was ∙ ap (λ (y : Slot). y.stage) same ∙ is in
      let job : fed.1 ≡ begun = cc in
      let P : Slot → Type 0 = λ y. IsFedAs given t at on y fed.1 in
      let Q : Box Begun Global → Type 0 = λ y. IsFedAs given t at on slot y in
      subst Q job (subst P same fed.2)

  module _ (fed : IsFedAs given t at on slot begun) (u : Table) (gone : Slot) (out : gone.stage ≡ Out) (keys : u.targets ≡ t.targets)
      (slots : u.slots.items ≡ slice_set t.slots.items at gone) where
    abbrev r : Rules
    r = rules_for given

    abbrev a : Ask
    a = outcomes_of (table_entries given t)

    -- a decided number is another than that of the job
    pub gain-decided : (k n : ℕ) → slice_get on k ≡ Some n → IsDecidedNumber u n
    gain-decided k n get = number-kept t u at slot gone fed.there (ap is_stage_decided fed.was) slots n (fed.decided k n get)

    fact-known : (n : ℕ) (q : List ℕ) (fact : Shown FactView) → slice_get t.targets n ≡ Some q → IsFactAt u n fact →
        (fact.value.target ≡ q) × (outcomes_of (table_entries given t) q ≡ Some fact.value.outcome)
    fact-known = fact-kept given t u at slot gone fed.there out slots fed.distinct fed.fits

    module _ (facts : Facts) (g : Gains u on begun.value.facts facts) where
      abbrev job : JobView
      job = begun.value.job

      abbrev asked : List Dep
      asked = all_asked begun.value.job begun.value.facts

      -- what it holds is known, and asked for
      told : (q : List ℕ) (o : Outcome) → told_in facts q ≡ Some o →
          IsAmong (operands (rules_for given) (all_asked begun.value.job begun.value.facts)) q × (outcomes_of (table_entries given t) q ≡ Some o)
      told q o h = elim (g.origin q o h) [
        | inl old ↦ fed.waits.told q o old
        | inr new ↦
            let path = numbers-number t.targets on (waited_by r begun.value) new.k new.n fed.numbered new.number in
            let known = fact-known new.n path.0 new.fact path.2 new.there in
            let same : path.0 ≡ q = sym known.0 ∙ new.target in
            let P : List ℕ → Type 0 = λ x. IsAmong (operands r asked) x × (a x ≡ Some o) in
            subst P same (
              asked-second r begun.value.facts.asked (job_deps begun.value.job) path.0
                  (asked_of_job given begun.value.job fed.waits.is_job (omega (arith, fed.waits.at_turn, fed.waits.stopped)) path.0
                  (waited-declared r begun.value path.0 (place-among (waited_by r begun.value) new.k path.0 path.1))),
              known.1 ∙ ap Some new.outcome,
            )
      ]

      -- it holds all that the job asked for
      own_complete : (q : List ℕ) → IsAmong (operands (rules_for given) (job_deps begun.value.job)) q → told_in facts q ≡ None → ⊥
      own_complete q m none =
          let place = waited-place r begun.value q (asked_by_job given begun.value.job fed.waits.is_job q m) (g.kept q none) in
          let number = numbers-path t.targets on (waited_by r begun.value) place.0 q fed.numbered place.1 in
          let decided = gain-decided place.0 number.0 number.1 in
          let fact = decided-fact decided.0.stage decided.2 in
          let there : IsFactAt u number.0 fact.0 = (decided.0, decided.1, fact.1) in
          let known = fact-known number.0 q fact.0 number.2 there in
          let target : List ℕ = fact.0.value.target in
          let lost : told_in facts target ≡ None = ap (told_in facts) known.0 ∙ none in
          g.known place.0 number.0 fact.0 (slice_get_within on place.0 number.0 number.1) number.1 there lost

      -- and all that the check did
      complete : (q : List ℕ) → IsAmong (operands (rules_for given) (all_asked begun.value.job begun.value.facts)) q → told_in facts q ≡ None → ⊥
      complete q m none = elim (asked-cases r begun.value.facts.asked (job_deps begun.value.job) q m) [
        | inl first ↦ fed.waits.checked q first (g.kept q none)
        | inr second ↦ own_complete q second none
      ]

      exact : (q : List ℕ) → told_in facts q ≡
          only (operands (rules_for given) (all_asked begun.value.job begun.value.facts)) (outcome_at (rules_for given) fed.is_work.depth) q
      exact q = elim (cases_Option (told_in facts q)) [
        | inl none ↦ elim (cases_Bool (is_among (operands r asked) q)) [
          | inl t' ↦ absurd (complete q (among-told (operands r asked) q t') none)
          | inr f ↦ none ∙ sym (rw f refl)
        ]
        | inr some ↦
            let known = told q some.0 some.1 in
            some.1 ∙ sym (fed.deep q some.0 (operand-target r (lawful_for given) asked q known.0) known.1) ∙
            sym (only-among (operands r asked) (outcome_at r fed.is_work.depth) q known.0)
      ]

      -- what it held it still holds
      held-alike : TellsAlike (rules_for given) begun.value.facts.asked (told_in begun.value.facts) (told_in facts)
      held-alike q m = elim (cases_Option (told_in begun.value.facts q)) [
        | inl lost ↦ absurd (fed.waits.checked q m lost)
        | inr some ↦ elim (cases_Option (told_in facts q)) [
          | inl none ↦ absurd (let was = g.kept q none in let bad = sym was ∙ some.1 in cc)
          | inr now ↦ some.1 ∙ sym (fed.waits.told q some.0 some.1).1 ∙ (told q now.0 now.1).1 ∙ sym now.1
        ]
      ]

      behind : IsBegunBehind given begun.value.job.target facts.asked (told_in facts)
      behind =
          let one = behind-moves given (path_at t.targets at) begun.value.facts.asked (told_in begun.value.facts) (told_in facts) fed.waits.behind held-alike in
          let P : List ℕ → Type 0 = λ p. IsBegunBehind given p begun.value.facts.asked (told_in facts) in
          let Q : List Dep → Type 0 = λ ds. IsBegunBehind given begun.value.job.target ds (told_in facts) in
          subst Q (sym g.asked) (subst P (sym fed.waits.of_target) one)

      -- it holds the outcomes of a work of all that was asked for
      fits-work : (work : IsWork (rules_for given) begun.value.job.target begun.value.job.turn (all_asked begun.value.job facts)) ×
          ((q : List ℕ) → told_in facts q ≡ only (operands (rules_for given) (all_asked begun.value.job facts)) (outcome_at (rules_for given) work.depth) q)
      fits-work =
          let P : List Dep → Type 0 = λ ds. (work : IsWork r begun.value.job.target begun.value.job.turn ds) ×
          ((q : List ℕ) → told_in facts q ≡ only (operands r ds) (outcome_at r work.depth) q) in
          subst P (ap (λ ds. with_all ds (job_deps begun.value.job)) (sym g.asked)) (fed.is_work, exact)

      pub fed-work : IsWorkWith given begun.value.job facts
      fed-work = record {
        is_job = fed.waits.is_job;
        is_work = fits-work.0;
        exact = fits-work.1;
        behind = behind;
        declared = λ q m. asked_of_job given begun.value.job fed.waits.is_job (omega (arith, fed.waits.at_turn, fed.waits.stopped)) q m;
        goes_on = λ later keeps. fed.waits.goes_on later (record {
          same = λ p o none entered known. elim (cases_Option (told_in facts p)) [
            | inl lost ↦ absurd (let was = g.kept p lost in let bad = sym was ∙ known in cc)
            | inr some ↦
                let one = (fed.waits.told p o known).1 in
                let two = (told p some.0 some.1).1 in
                let both : Some some.0 ≡ Some o = sym two ∙ one in
                keeps.same p o none entered (some.1 ∙ both)
          ];
        });
        few = fed.few;
      }
