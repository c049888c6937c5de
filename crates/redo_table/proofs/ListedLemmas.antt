-- The lists of a schedule, while one target changes its stage.
use Rattle.std.proofs.Common.{◌≡◌, ◌⊎◌, inl, inr, ℕ, zero, suc, ◌+◌, ◌<◌, ◌≤◌, ◌^◌, Bool, true, false, cond, List, [], ◌∷◌, ◌++◌}
use Rattle.std.proofs.Common.{Option, Some, None, length, slice_get, slice_set, refl, sym, ap, subst, ◌∙◌, arith, length-set, length-append, remove, ◌-◌, All, slice_index, ◌↔◌}
use Rattle.std.proofs.lemmas.Bool.{cases_Bool, cases_eq}
use Rattle.redo_table.specs.Schedule.{ScheduleView, StageView, is_due, is_ready, is_out, times}
use Rattle.redo_table.specs.Schedule.StageView.{Due, Ready, Out, InHand, Waiting}
use Rattle.redo_table.specs.declared.schedule.Schedule.TheInside.{Inside}
use Rattle.redo_table.specs.inside.Listed.{one_if, IsListed}
use Rattle.std.specs.BTreeSet.{insert_key}
use Rattle.std.specs.BTreeMap.Range.{IsLtBy}
use Rattle.std.specs.Cmp.{ranks}
use Rattle.std.specs.Ordering.{MatchOrdering, nat_cmp}
use Rattle.std.proofs.lemmas.Option.{slice_get_within}
use Rattle.redo_table.proofs.NumberLemmas.{at-same, at-other, times-cons, times-nil, times-there, times-taken, times-insert, times-push, times-index, index-is}
use Rattle.redo_table.proofs.NumberLemmas.{at as one-at, times-twice, times-shuffled, times-append}
use Rattle.std.specs.Prelude.{IsPermutation, IsSorted}
use Rattle.std.specs.List.Sorted.{IsStrictlyIncreasing}
use Rattle.std.proofs.lemmas.List.Sorted.{IsNonDecreasingBy-from_sort}
use Rattle.redo_table.proofs.TargetLemmas.{index-there}
use Rattle.redo_table.proofs.TargetLemmas.{get-same, get-other, count-set, count-push}

pub ready-is : (s : StageView) → is_ready s ≡ true → s ≡ Ready
ready-is Ready h = refl
ready-is _ h = cc

pub due-is : (s : StageView) → is_due s ≡ true → s ≡ Due
due-is Due h = refl
due-is _ h = cc

-- a count of one tells of a stage that passes
pub one-there : (test : StageView → Bool) (o : Option StageView) → 0 < one_if test o → (s : StageView) × (o ≡ Some s) × (test s ≡ true)
one-there test None h = absurd (omega (arith, h))
one-there test (Some s) h = elim (cases_Bool (test s)) [
  | inl t ↦ (s, refl, t)
  | inr f ↦ absurd (omega (arith, h, ap {B = ℕ} (λ b. cond b 1 0) f))
]

one-most : (test : StageView → Bool) (o : Option StageView) → one_if test o ≤ 1
one-most test None = omega arith
one-most test (Some s) = elim (cases_Bool (test s)) [
  | inl t ↦ omega (arith, ap {B = ℕ} (λ b. cond b 1 0) t)
  | inr f ↦ omega (arith, ap {B = ℕ} (λ b. cond b 1 0) f)
]

-- a count of one is the same behind a stage that doesn't pass
push-one : (test : StageView → Bool) (stages : List StageView) (k : ℕ) → test InHand ≡ false →
    one_if test (slice_get stages k) ≡ one_if test (slice_get (stages ++ InHand ∷ []) k)
push-one test [] zero none = sym (ap {B = ℕ} (λ b. cond b 1 0) none)
push-one test (s ∷ ss) (suc k) none = push-one test ss k none
push-one test _ _ none = refl

module _ (stages : List StageView) (ready newly_ready due : List ℕ) (out : ℕ) (kept : IsListed stages ready newly_ready due out) where
  pub queued-there : (k : ℕ) → 0 < times k ready → slice_get stages k ≡ Some Ready
  queued-there k h =
      let found = one-there is_ready (slice_get stages k) (omega (arith, h, kept.queued k)) in
      found.1 ∙ ap Some (ready-is found.0 found.2)

  pub queued-once : (k : ℕ) → times k ready ≤ 1
  queued-once k = omega (arith, kept.queued k, one-most is_ready (slice_get stages k))

  pub due-there : (k : ℕ) → 0 < times k due → slice_get stages k ≡ Some Due
  due-there k h =
      let found = one-there is_due (slice_get stages k) (omega (arith, h, kept.due_listed k)) in
      found.1 ∙ ap Some (due-is found.0 found.2)

  -- the lists tell the stage of a target
  module _ (at : ℕ) (old : StageView) (there : slice_get stages at ≡ Some old) where
    pub own-queued : times at ready + times at newly_ready ≡ cond (is_ready old) 1 0
    own-queued = kept.queued at ∙ ap (one_if is_ready) there

    pub own-due : times at due ≡ cond (is_due old) 1 0
    own-due = kept.due_listed at ∙ ap (one_if is_due) there

    pub out-there : is_out old ≡ true → 0 < out
    out-there is = omega (arith, kept.out_counted, count-set is_out stages at old InHand there, ap {B = ℕ} (λ b. cond b 1 0) is)

    module _ (new : StageView) (ready' newly_ready' due' : List ℕ) (out' : ℕ) where
      stages' : List StageView
      stages' = slice_set stages at new

      own : slice_get stages' at ≡ Some new
      unfolding stages'
      own = get-same stages at old new there

      other : (k : ℕ) → (at ≡ k → ⊥) → slice_get stages' k ≡ slice_get stages k
      unfolding stages'
      other k n = get-other stages at k new n

      pub listed-changed :
          ((k : ℕ) → (at ≡ k → ⊥) → times k ready' + times k newly_ready' ≡ times k ready + times k newly_ready) →
          times at ready' + times at newly_ready' ≡ cond (is_ready new) 1 0 →
          ((k : ℕ) → (at ≡ k → ⊥) → times k due' ≡ times k due) → times at due' ≡ cond (is_due new) 1 0 →
          out' + cond (is_out old) 1 0 ≡ out + cond (is_out new) 1 0 → IsListed (slice_set stages at new) ready' newly_ready' due' out'
      unfolding stages'
      listed-changed queued-others queued-own due-others due-own counted = record {
        few = omega (arith, length-set stages at new, kept.few);
        queued = λ k. elim (cases_eq at k) [
          | inl same ↦ subst (λ j. times j ready' + times j newly_ready' ≡ one_if is_ready (slice_get stages' j)) same
              (queued-own ∙ sym (ap (one_if is_ready) own))
          | inr n ↦ queued-others k n ∙ kept.queued k ∙ sym (ap (one_if is_ready) (other k n))
        ];
        due_listed = λ k. elim (cases_eq at k) [
          | inl same ↦ subst (λ j. times j due' ≡ one_if is_due (slice_get stages' j)) same (due-own ∙ sym (ap (one_if is_due) own))
          | inr n ↦ due-others k n ∙ kept.due_listed k ∙ sym (ap (one_if is_due) (other k n))
        ];
        out_counted = omega (arith, count-set is_out stages at old new there, kept.out_counted, counted);
      }

  -- one target more, which is in hand
  pub listed-push : length stages + 1 < 2 ^ 32 → IsListed (stages ++ InHand ∷ []) ready newly_ready due out
  listed-push room = record {
    few = omega (arith, room, length-append stages (InHand ∷ []));
    queued = λ k. kept.queued k ∙ push-one is_ready stages k refl;
    due_listed = λ k. kept.due_listed k ∙ push-one is_due stages k refl;
    out_counted = omega (arith, kept.out_counted, count-push is_out stages InHand);
  }

-- the moves, one by one
module _ (stages : List StageView) (ready newly_ready due : List ℕ) (out : ℕ) (kept : IsListed stages ready newly_ready due out) (at : ℕ) where
  -- the target at an index of the queue is taken
  pub take-listed : (which : ℕ) → slice_get ready which ≡ Some at → IsListed (slice_set stages at Out) (remove ready which) newly_ready due (out + 1)
  take-listed which h =
      let there = queued-there stages ready newly_ready due out kept at (times-there ready which at h) in
      let own = own-queued stages ready newly_ready due out kept at Ready there in
      listed-changed stages ready newly_ready due out kept at Ready there Out (remove ready which) newly_ready due (out + 1)
      (λ k n. omega (arith, times-taken k ready which at h, at-other k at (λ e. n (sym e))))
      (omega (arith, times-taken at ready which at h, at-same at at refl, own))
      (λ k n. refl) (own-due stages ready newly_ready due out kept at Ready there) (omega arith)

  pub drawn-there : (rest : List ℕ) → due ≡ at ∷ rest → slice_get stages at ≡ Some Due
  drawn-there rest is =
      due-there stages ready newly_ready due out kept at (omega (arith, ap (times at) is, times-cons at at rest, at-same at at refl))

  -- the first due target is drawn
  pub draw-listed : (rest : List ℕ) → due ≡ at ∷ rest → IsListed (slice_set stages at InHand) ready newly_ready rest out
  draw-listed rest is =
      let drawn : (k : ℕ) → times k due ≡ one-at k at + times k rest = λ k. ap (times k) is ∙ times-cons k at rest in
      let there = drawn-there rest is in
      let own = own-due stages ready newly_ready due out kept at Due there in
      listed-changed stages ready newly_ready due out kept at Due there InHand ready newly_ready rest out
      (λ k n. refl) (own-queued stages ready newly_ready due out kept at Due there)
      (λ k n. omega (arith, drawn k, at-other k at (λ e. n (sym e))))
      (omega (arith, drawn at, at-same at at refl, own)) refl

  module _ (there : slice_get stages at ≡ Some InHand) where
    pub due-listed : IsListed (slice_set stages at Due) ready newly_ready (insert_key nat_cmp due at) out
    due-listed =
        let own = own-due stages ready newly_ready due out kept at InHand there in
        listed-changed stages ready newly_ready due out kept at InHand there Due ready newly_ready (insert_key nat_cmp due at) out
        (λ k n. refl) (own-queued stages ready newly_ready due out kept at InHand there)
        (λ k n. omega (arith, times-insert k due at own, at-other k at (λ e. n (sym e))))
        (omega (arith, times-insert at due at own, at-same at at refl, own)) refl

    pub ready-listed : IsListed (slice_set stages at Ready) ready (newly_ready ++ at ∷ []) due out
    ready-listed =
        let own = own-queued stages ready newly_ready due out kept at InHand there in
        listed-changed stages ready newly_ready due out kept at InHand there Ready ready (newly_ready ++ at ∷ []) due out
        (λ k n. omega (arith, times-push k at newly_ready, at-other k at (λ e. n (sym e))))
        (omega (arith, times-push at at newly_ready, at-same at at refl, own))
        (λ k n. refl) (own-due stages ready newly_ready due out kept at InHand there) refl

  -- a target that is out comes back, decided or to wait
  module _ (new : StageView) (not-ready : is_ready new ≡ false) (not-due : is_due new ≡ false) (not-out : is_out new ≡ false) where
    none-ready : ◌≡◌ {A = ℕ} (cond (is_ready new) 1 0) 0
    none-ready = ap {B = ℕ} (λ b. cond b 1 0) not-ready

    none-due : ◌≡◌ {A = ℕ} (cond (is_due new) 1 0) 0
    none-due = ap {B = ℕ} (λ b. cond b 1 0) not-due

    none-out : ◌≡◌ {A = ℕ} (cond (is_out new) 1 0) 0
    none-out = ap {B = ℕ} (λ b. cond b 1 0) not-out

    pub back-listed : slice_get stages at ≡ Some Out → IsListed (slice_set stages at new) ready newly_ready due (out - 1)
    back-listed there =
        let some = out-there stages ready newly_ready due out kept at Out there refl in
        listed-changed stages ready newly_ready due out kept at Out there new ready newly_ready due (out - 1)
        (λ k n. refl) (omega (arith, own-queued stages ready newly_ready due out kept at Out there, none-ready))
        (λ k n. refl) (omega (arith, own-due stages ready newly_ready due out kept at Out there, none-due)) (omega (arith, some, none-out))

    pub left-listed : slice_get stages at ≡ Some InHand → IsListed (slice_set stages at new) ready newly_ready due out
    left-listed there =
        listed-changed stages ready newly_ready due out kept at InHand there new ready newly_ready due out
        (λ k n. refl) (omega (arith, own-queued stages ready newly_ready due out kept at InHand there, none-ready))
        (λ k n. refl) (omega (arith, own-due stages ready newly_ready due out kept at InHand there, none-due)) (omega (arith, none-out))
    -- a target that is answered is in hand

  pub answered-listed : (on : List ℕ) → slice_get stages at ≡ Some (Waiting on) → IsListed (slice_set stages at InHand) ready newly_ready due out
  answered-listed on there =
      listed-changed stages ready newly_ready due out kept at (Waiting on) there InHand ready newly_ready due out
      (λ k n. refl) (own-queued stages ready newly_ready due out kept at (Waiting on) there)
      (λ k n. refl) (own-due stages ready newly_ready due out kept at (Waiting on) there) refl

  -- the number that is drawn is the first that is due
  pub first-due : (rest : List ℕ) → due ≡ at ∷ rest → ((k : ℕ) → 0 < times k rest → at < k) → (k : ℕ) → k < at → slice_get stages k ≡ Some Due → ⊥
  first-due rest is above k lt h =
      let listed = own-due stages ready newly_ready due out kept k Due h in
      let drawn : times k due ≡ one-at k at + times k rest = ap (times k) is ∙ times-cons k at rest in
      let apart : k ≡ at → ⊥ = λ e. absurd (omega (arith, lt, e)) in
      let later : 0 < times k rest = omega (arith, listed, drawn, at-other k at apart) in
      absurd (omega (arith, lt, above k later))

-- numbers that a number is less than
pub less-all : (at : ℕ) (ks : List ℕ) → All (IsLtBy nat_cmp at) ks → (k : ℕ) → 0 < times k ks → at < k
less-all at ks all k h =
    let found = times-index ks k h in
    let is = index-is ks found.0 k 0 found.1 in
    let less = all found.0 0 (slice_get_within ks found.0 k found.1) in
    subst (λ o. MatchOrdering o (at < k) (at ≡ k) (k < at)) (subst (IsLtBy nat_cmp at) is less) (ranks at k)

-- numbers that were sorted, each there once, ascend
pub sorted-ascends : (xs : List ℕ) → IsSorted nat_cmp xs → ((k : ℕ) → times k xs ≤ 1) → IsStrictlyIncreasing xs
sorted-ascends xs sorted once k lt =
    let a = slice_index xs k in
    let b = slice_index xs (k + 1) in
    let up : a ≤ b = IsNonDecreasingBy-from_sort (λ x. x) xs sorted k (k + 1) 0 (omega arith) lt in
    elim (cases_eq a b) [
      | inl same ↦
          let here = index-there xs k 0 (omega (arith, lt)) in
          let next = index-there xs (k + 1) 0 lt in
          let twice = times-twice xs k (k + 1) a (omega arith) here (subst (λ x. slice_get xs (k + 1) ≡ Some x) (sym same) next) in
          absurd (omega (arith, twice, once a))
      | inr apart ↦ omega (arith, up, apart)
    ]

module _ (stages : List StageView) (ready newly_ready due sorted : List ℕ) (out : ℕ) (kept : IsListed stages ready newly_ready due out)
    (shuffled : IsPermutation newly_ready sorted) where
  as-before : (k : ℕ) → times k sorted ≡ times k newly_ready
  as-before k = times-shuffled k newly_ready sorted shuffled

  -- the newly ready are sorted
  pub sorted-listed : IsListed stages ready sorted due out
  sorted-listed = record {
    few = kept.few;
    queued = λ k. omega (arith, as-before k, kept.queued k);
    due_listed = kept.due_listed;
    out_counted = kept.out_counted;
  }

  -- they stand in the queue
  pub enqueued-listed : IsListed stages (ready ++ sorted) [] due out
  enqueued-listed = record {
    few = kept.few;
    queued = λ k. omega (arith, as-before k, kept.queued k, times-append k ready sorted, times-nil k);
    due_listed = kept.due_listed;
    out_counted = kept.out_counted;
  }

  pub sorted-once : (k : ℕ) → times k sorted ≤ 1
  sorted-once k = omega (arith, as-before k, kept.queued k, one-most is_ready (slice_get stages k))

  pub are-more : (k : ℕ) → (0 < times k sorted) ↔ ((slice_get stages k ≡ Some Ready) × (times k ready ≡ 0))
  are-more k = (
    (λ h.
        let most = one-most is_ready (slice_get stages k) in
        let found = one-there is_ready (slice_get stages k) (omega (arith, h, as-before k, kept.queued k)) in
        (found.1 ∙ ap Some (ready-is found.0 found.2), omega (arith, h, as-before k, kept.queued k, most))),
    (λ h. omega (arith, as-before k, own-queued stages ready newly_ready due out kept k Ready h.0, h.1)),
  )

-- a target that is out or in hand in the view is so inside
pub is-open : (t : Inside) (v : ScheduleView) (at : ℕ) → record { stages = t.waits.stages; ready = t.ready.items } ≡ v →
    (slice_get v.stages at ≡ Some Out) ⊎ (slice_get v.stages at ≡ Some InHand) →
    (slice_get t.waits.stages at ≡ Some Out) ⊎ (slice_get t.waits.stages at ≡ Some InHand)
is-open t v at is h = subst (λ (u : ScheduleView). (slice_get u.stages at ≡ Some Out) ⊎ (slice_get u.stages at ≡ Some InHand)) (sym is) h
