-- Each target that waits is still to be looked at or watches another, while one target changes.
use Rattle.std.proofs.Common.{◌≡◌, ◌⊎◌, inl, inr, ℕ, ◌+◌, ◌<◌, Bool, true, false, not, List, [], ◌∷◌, ◌++◌}
use Rattle.std.proofs.Common.{Some, length, slice_get, slice_set, refl, sym, ap, subst, ◌∙◌, arith, length-set, length-append}
use Rattle.redo_table.specs.Schedule.{is_decided, times}
use Rattle.redo_table.specs.Schedule.StageView.{Waiting, Decided}
use Rattle.redo_table.specs.inside.Targets.{view_of, stages_of, is_decided_target, AreDecidedBelow, IsWatched, IsAwaited, AreWaiters}
use Rattle.redo_table.specs.declared.stage.Stage.TheVariants as stages
use Rattle.redo_table.specs.declared.stage.Target.{Target}
use Rattle.redo_table.specs.declared.stage.Waiting as waits
use Rattle.redo_table.specs.inside.Targets.{is_plain}
use Rattle.redo_table.specs.declared.stage.Stage.{Stage}
use Rattle.std.specs.Prelude.{Vec}
use Rattle.std.specs.declared.alloc.Global.{Global}
use Rattle.std.proofs.lemmas.Bool.{both_ways, cases_lt, cases_eq}
use Rattle.redo_table.proofs.NumberLemmas.{times-push, times-append, times-nil, times-index, times-there, at-same}
use Rattle.redo_table.proofs.NumberLemmas.{at as one-at}
use Rattle.std.proofs.lemmas.Option.{slice_get_within}
use Rattle.redo_table.specs.inside.Targets.{IsLackingAt, AreDecidedFrom, LacksAt}
use Rattle.redo_table.proofs.TargetLemmas.{get-same, get-other, set-cases, stages-set, stages-same, stage-there, target-there, decided-is, view-there}
use Rattle.redo_table.proofs.TargetLemmas.{push-cases, push-before, stages-push, waiting-is}
use Rattle.redo_table.specs.Schedule.{EachLacks}

-- one target is another, and is decided still if it was
module _ (targets : List Target) (at : ℕ) (old new : Target) (there : slice_get targets at ≡ Some old)
    (stays : is_decided_target old ≡ true → is_decided_target new ≡ true) where
  abbrev targets' : List Target
  targets' = slice_set targets at new

  -- a target that was decided still is
  decided-still : (n : ℕ) → slice_get (stages_of targets) n ≡ Some Decided → slice_get (stages_of targets') n ≡ Some Decided
  decided-still n h = elim (cases_eq at n) [
    | inl same ↦
        let here : slice_get (stages_of targets) at ≡ Some Decided = subst (λ j. slice_get (stages_of targets) j ≡ Some Decided) (sym same) h in
        let both : Some (view_of old.stage) ≡ Some Decided = sym (stage-there targets at old there) ∙ here in
        let was : view_of old.stage ≡ Decided = cc in
        let now = decided-is (view_of new.stage) (stays (ap is_decided was)) in
        let done : slice_get (stages_of targets') at ≡ Some Decided = stage-there targets' at new (get-same targets at old new there) ∙ ap Some now in
        subst (λ j. slice_get (stages_of targets') j ≡ Some Decided) same done
    | inr n' ↦ let e = ap (λ ss. slice_get ss n) (stages-set targets at new) in
        e ∙ get-other (stages_of targets) at n (view_of new.stage) n' ∙ h
  ]

  awaited-still : (w : waits.Waiting) → IsAwaited targets w → IsAwaited targets' w
  awaited-still w before = record {
    seen = λ i n g. omega (arith, before.seen i n g, length-set targets at new);
    known = λ i n lt g. decided-still n (before.known i n lt g);
  }

  -- who watched a target watches it still, where it keeps this watcher and isn't decided
  watched-still : (X : Type 0) (k : ℕ) (on : List ℕ) → IsWatched targets k on →
      (0 < times k old.watchers.items → is_decided_target old ≡ false → ((0 < times k new.watchers.items) × (is_decided_target new ≡ false)) ⊎ X) →
      X ⊎ IsWatched targets' k on
  watched-still X k on by keeps = elim (cases_eq at by.at) [
    | inl same ↦
        let both : Some old ≡ Some by.other = sym there ∙ subst (λ j. slice_get targets j ≡ Some by.other) (sym same) by.there in
        let eq : old ≡ by.other = cc in
        let listed : 0 < times k old.watchers.items = subst (λ (s : Target). 0 < times k s.watchers.items) (sym eq) by.listed in
        elim (keeps listed (ap is_decided_target eq ∙ by.undecided)) [
          | inl still ↦ inr (record {
            at = at;
            other = new;
            there = get-same targets at old new there;
            undecided = still.1;
            awaited = subst (λ j. 0 < times j on) (sym same) by.awaited;
            listed = still.0;
          })
          | inr now ↦ inl now
        ]
    | inr apart ↦ inr (record {
      at = by.at;
      other = by.other;
      there = get-other targets at by.at new apart ∙ by.there;
      undecided = by.undecided;
      awaited = by.awaited;
      listed = by.listed;
    })
  ]

-- the watchers of a target that isn't decided are its watchers still, or are to be looked at
abbrev pub KeepsWatchers : Target → Target → List ℕ → Type 0
KeepsWatchers old new pending = (k : ℕ) → 0 < times k old.watchers.items → is_decided_target old ≡ false →
    ((0 < times k new.watchers.items) × (is_decided_target new ≡ false)) ⊎ (0 < times k pending)

-- one target changes, and what is to be looked at again
pub record IsChanged (targets : List Target) (pending pending' : List ℕ) (at : ℕ) (old new : Target) : Type 0 where
  pub there : slice_get targets at ≡ Some old
  pub stays : is_decided_target old ≡ true → is_decided_target new ≡ true
  pub awaited : (w : waits.Waiting) → new.stage ≡ stages.Waiting w → IsAwaited (slice_set targets at new) w
  pub own : (w : waits.Waiting) → new.stage ≡ stages.Waiting w → (0 < times at pending') ⊎ IsWatched (slice_set targets at new) at w.on.items
  pub others : (k : ℕ) (target : Target) (w : waits.Waiting) → (at ≡ k → ⊥) → slice_get targets k ≡ Some target → target.stage ≡ stages.Waiting w →
      0 < times k pending → (0 < times k pending') ⊎ IsWatched (slice_set targets at new) k w.on.items
  pub watchers : KeepsWatchers old new pending'

pub waiters-changed : (targets : List Target) (pending pending' : List ℕ) (at : ℕ) (old new : Target) → AreWaiters targets pending →
    IsChanged targets pending pending' at old new → AreWaiters (slice_set targets at new) pending'
waiters-changed targets pending pending' at old new kept changed = record {
  awaited = λ k target w there is. elim (set-cases targets at k old new target changed.there there) [
    | inl here ↦ changed.awaited w (ap (λ (y : Target). y.stage) here.1 ∙ is)
    | inr before ↦ awaited-still targets at old new changed.there changed.stays w (kept.awaited k target w before.1 is)
  ];
  watched = λ k target w there is. elim (set-cases targets at k old new target changed.there there) [
    | inl here ↦ subst (λ j. (0 < times j pending') ⊎ IsWatched (slice_set targets at new) j w.on.items) here.0
        (changed.own w (ap (λ (y : Target). y.stage) here.1 ∙ is))
    | inr before ↦ elim (kept.watched k target w before.1 is) [
      | inl h ↦ changed.others k target w before.0 before.1 is h
      | inr by ↦ watched-still targets at old new changed.there changed.stays (0 < times k pending') k w.on.items by (changed.watchers k)
    ]
  ];
}

-- a stage in which a target neither waits nor is decided
pub plain-waits : (stage : Stage) (w : waits.Waiting) → is_plain stage ≡ true → stage ≡ stages.Waiting w → ⊥
plain-waits stage w plain e = both_ways _ (ap is_plain e) plain

module _ (targets : List Target) (pending : List ℕ) (at : ℕ) (old new : Target) (kept : AreWaiters targets pending)
    (there : slice_get targets at ≡ Some old) (open' : is_decided_target old ≡ false) where
  -- a target is put into another stage, in which it doesn't wait; it needn't be looked at any more
  pub plain-waiters : (pending' : List ℕ) → is_plain new.stage ≡ true → is_decided_target new ≡ false → new.watchers ≡ old.watchers →
      ((k : ℕ) → (at ≡ k → ⊥) → 0 < times k pending → 0 < times k pending') → AreWaiters (slice_set targets at new) pending'
  plain-waiters pending' plain still same left = waiters-changed targets pending pending' at old new kept (record {
    there = there;
    stays = λ d. absurd (both_ways _ open' d);
    awaited = λ w e. absurd (plain-waits new.stage w plain e);
    own = λ w e. absurd (plain-waits new.stage w plain e);
    others = λ k target w n g e h. inl (left k n h);
    watchers = λ k h f. inl (subst (λ (v : Vec ℕ Global). 0 < times k v.items) (sym same) h, still);
  })

  pub put-waiters : is_plain new.stage ≡ true → is_decided_target new ≡ false → new.watchers ≡ old.watchers → AreWaiters (slice_set targets at new) pending
  put-waiters plain still same = plain-waiters pending plain still same (λ k n h. h)

  -- a target waits, and is to be looked at
  pub wait-waiters : (on : Vec ℕ Global) → new.stage ≡ stages.Waiting (record { on = on; decided = 0 }) → new.watchers ≡ old.watchers →
      ((i n : ℕ) → slice_get on.items i ≡ Some n → n < length targets) → AreWaiters (slice_set targets at new) (pending ++ at ∷ [])
  wait-waiters on stage same seen = waiters-changed targets pending (pending ++ at ∷ []) at old new kept (record {
    there = there;
    stays = λ d. absurd (both_ways _ open' d);
    awaited = λ w e.
        let both : stages.Waiting (record { on = on; decided = 0 }) ≡ stages.Waiting w = sym stage ∙ e in
        let is : record { on = on; decided = 0 } ≡ w = cc in
        subst (IsAwaited (slice_set targets at new)) is (record {
          seen = λ i n g. omega (arith, seen i n g, length-set targets at new);
          known = λ i n lt g. absurd (omega (arith, lt));
        });
    own = λ w e. inl (omega (arith, times-push at at pending, at-same at at refl));
    others = λ k target w n g e h. inl (omega (arith, times-push k at pending, h));
    watchers = λ k h f. inl (
      subst (λ (v : Vec ℕ Global). 0 < times k v.items) (sym same) h,
      ap (λ s. is_decided (view_of s)) stage,
    );
  })

decided-waits : (w : waits.Waiting) → stages.Decided ≡ stages.Waiting w → ⊥
decided-waits w e = cc

-- a target is decided, and what watched it is to be looked at
pub decide-waiters : (targets : List Target) (pending more : List ℕ) (at : ℕ) (old new : Target) → AreWaiters targets pending →
    slice_get targets at ≡ Some old → new.stage ≡ stages.Decided → more ≡ old.watchers.items → AreWaiters (slice_set targets at new) (pending ++ more)
decide-waiters targets pending more at old new kept there stage is = waiters-changed targets pending (pending ++ more) at old new kept (record {
  there = there;
  stays = λ d. ap (λ s. is_decided (view_of s)) stage;
  awaited = λ w e. absurd (decided-waits w (sym stage ∙ e));
  own = λ w e. absurd (decided-waits w (sym stage ∙ e));
  others = λ k target w n g e h. inl (omega (arith, times-append k pending more, h));
  watchers = λ k h f. inr (let m : 0 < times k more = subst (λ xs. 0 < times k xs) (sym is) h in omega (arith, times-append k pending more, m));
})

-- a target that has the same stage and watchers
pub same-waiters : (targets : List Target) (pending : List ℕ) (at : ℕ) (old new : Target) → AreWaiters targets pending → slice_get targets at ≡ Some old →
    new.stage ≡ old.stage → new.watchers.items ≡ old.watchers.items → AreWaiters (slice_set targets at new) pending
same-waiters targets pending at old new kept there stage same =
    let stays : is_decided_target old ≡ true → is_decided_target new ≡ true = λ d. ap (λ s. is_decided (view_of s)) stage ∙ d in
    let keeps : KeepsWatchers old new pending =
    λ k h f. inl (subst (λ xs. 0 < times k xs) (sym same) h, ap (λ s. is_decided (view_of s)) stage ∙ f) in
    waiters-changed targets pending pending at old new kept (record {
      there = there;
      stays = stays;
      awaited = λ w e. awaited-still targets at old new there stays w (kept.awaited at old w there (sym stage ∙ e));
      own = λ w e. elim (kept.watched at old w there (sym stage ∙ e)) [
        | inl h ↦ inl h
        | inr by ↦ watched-still targets at old new there stays (0 < times at pending) at w.on.items by (keeps at)
      ];
      others = λ k target w n g e h. inl h;
      watchers = keeps;
    })

pub plain-open : (stage : Stage) → is_plain stage ≡ true → is_decided (view_of stage) ≡ false
plain-open stages.Decided h = cc
plain-open _ h = refl

in-hand-waits : (w : waits.Waiting) → stages.InHand ≡ stages.Waiting w → ⊥
in-hand-waits w e = cc

-- one target more
pub push-waiters : (targets : List Target) (pending : List ℕ) (new : Target) → AreWaiters targets pending → new.stage ≡ stages.InHand →
    AreWaiters (targets ++ new ∷ []) pending
push-waiters targets pending new kept stage =
    let longer = length-append targets (new ∷ []) in
    let hand : (w : waits.Waiting) → new.stage ≡ stages.Waiting w → ⊥ = λ w e. in-hand-waits w (sym stage ∙ e) in
    record {
      awaited = λ k target w there is. elim (push-cases targets k new target there) [
        | inl last ↦ absurd (hand w (ap (λ (y : Target). y.stage) last.1 ∙ is))
        | inr before ↦
            let was = kept.awaited k target w before is in
            record {
              seen = λ i n g. omega (arith, was.seen i n g, longer);
              known = λ i n lt g. ap (λ ss. slice_get ss n) (stages-push targets new)
                  ∙ push-before (stages_of targets) n (view_of new.stage) Decided (was.known i n lt g);
            }
      ];
      watched = λ k target w there is. elim (push-cases targets k new target there) [
        | inl last ↦ absurd (hand w (ap (λ (y : Target). y.stage) last.1 ∙ is))
        | inr before ↦ elim (kept.watched k target w before is) [
          | inl h ↦ inl h
          | inr by ↦ inr (record {
            at = by.at;
            other = by.other;
            there = push-before targets by.at new by.other by.there;
            undecided = by.undecided;
            awaited = by.awaited;
            listed = by.listed;
          })
        ]
      ];
    }

-- once nothing is to be looked at, each target that waits waits for one that isn't decided
pub each-lacks : (targets : List Target) (pending : List ℕ) → AreWaiters targets pending → pending ≡ [] → EachLacks (stages_of targets)
each-lacks targets pending kept none k on h =
    let found = target-there targets k (Waiting on) h in
    let w = waiting-is found.0.stage on found.2 in
    elim (kept.watched k found.0 w.0 found.1 w.1) [
      | inl p ↦ absurd (omega (arith, subst (λ xs. 0 < times k xs) none p, times-nil k))
      | inr by ↦
          let index = times-index w.0.on.items by.at by.awaited in
          record {
            i = index.0;
            k = by.at;
            there = subst (λ xs. slice_get xs index.0 ≡ Some by.at) w.2 index.1;
            undecided = λ d. both_ways _ by.undecided (ap is_decided (view-there targets by.at by.other Decided by.there d));
          }
    ]

pub no-items : (xs : List ℕ) → length xs ≡ 0 → xs ≡ []
no-items [] h = refl
no-items (x ∷ xs) h = absurd (omega (arith, h))

pub not-not : (b : Bool) → not b ≡ false → b ≡ true
not-not true h = refl
not-not false h = cc

-- a target's target says of more of the targets that it waits for that they are decided
pub noted-waiters : (targets : List Target) (pending : List ℕ) (at count : ℕ) (old new : Target) (w : waits.Waiting) → AreWaiters targets pending →
    slice_get targets at ≡ Some old → old.stage ≡ stages.Waiting w → new.stage ≡ stages.Waiting (record { on = w.on; decided = count }) →
    new.watchers ≡ old.watchers → AreDecidedBelow (stages_of targets) w.on.items count → AreWaiters (slice_set targets at new) pending
noted-waiters targets pending at count old new w kept there was is same known =
    let alike : view_of new.stage ≡ view_of old.stage = ap view_of is ∙ sym (ap view_of was) in
    let seen-as = stages-same targets at old new there alike in
    let open' : is_decided_target old ≡ false = ap (λ s. is_decided (view_of s)) was in
    let still : is_decided_target new ≡ false = ap (λ s. is_decided (view_of s)) is in
    let before = kept.awaited at old w there was in
    let stays : is_decided_target old ≡ true → is_decided_target new ≡ true = λ d. absurd (both_ways _ open' d) in
    let keeps : KeepsWatchers old new pending = λ k h f. inl (subst (λ (v : Vec ℕ Global). 0 < times k v.items) (sym same) h, still) in
    waiters-changed targets pending pending at old new kept (record {
      there = there;
      stays = stays;
      awaited = λ v e.
          let both : stages.Waiting (record { on = w.on; decided = count }) ≡ stages.Waiting v = sym is ∙ e in
          let eq : record { on = w.on; decided = count } ≡ v = cc in
          subst (IsAwaited (slice_set targets at new)) eq (record {
            seen = λ i n g. omega (arith, before.seen i n g, length-set targets at new);
            known = λ i n lt g. ap (λ ss. slice_get ss n) seen-as ∙ known i n lt g;
          });
      own = λ v e.
          let both : stages.Waiting (record { on = w.on; decided = count }) ≡ stages.Waiting v = sym is ∙ e in
          let eq : record { on = w.on; decided = count } ≡ v = cc in
          let on : w.on.items ≡ v.on.items = ap (λ (x : waits.Waiting). x.on.items) eq in
          elim (kept.watched at old w there was) [
            | inl h ↦ inl h
            | inr by ↦ watched-still targets at old new there stays (0 < times at pending) at v.on.items
                (subst (IsWatched targets at) on by) (keeps at)
          ];
      others = λ k target v n g e h. inl h;
      watchers = keeps;
    })

-- what a look at a target that waits finds
module _ (targets : List Target) (pending : List ℕ) (at : ℕ) (target : Target) (w : waits.Waiting) (kept : AreWaiters targets pending)
    (there : slice_get targets at ≡ Some target) (stage : target.stage ≡ stages.Waiting w) where
  waits-on : slice_get (stages_of targets) at ≡ Some (Waiting w.on.items)
  waits-on = stage-there targets at target there ∙ ap Some (ap view_of stage)

  pub lacks-at : (i place : ℕ) → IsLackingAt targets w.on.items w.decided i place → LacksAt (stages_of targets) at i place
  lacks-at i place found = record {
    on = w.on.items;
    waits = waits-on;
    decided = λ j n lt g. elim (cases_lt j w.decided) [
      | inl early ↦ (kept.awaited at target w there stage).known j n early g
      | inr late ↦ found.before j n late lt g
    ];
    awaited = times-there w.on.items i place found.number;
    undecided = record {
      stage = view_of found.target.stage;
      there = stage-there targets place found.target found.there;
      undecided = found.undecided;
    };
  }

  pub answered-at : AreDecidedFrom targets w.on.items w.decided (length w.on.items) →
      (on : List ℕ) × (slice_get (stages_of targets) at ≡ Some (Waiting on)) ×
      ((i n : ℕ) → slice_get on i ≡ Some n → slice_get (stages_of targets) n ≡ Some Decided)
  answered-at rest = (
    w.on.items,
    waits-on,
    λ i n g. elim (cases_lt i w.decided) [
      | inl early ↦ (kept.awaited at target w there stage).known i n early g
      | inr late ↦ rest i n late (slice_get_within w.on.items i n g) g
    ],
  )

-- a target watches an undecided one that it waits for, and needn't be looked at any more
module _ (targets : List Target) (pending pending' : List ℕ) (at place : ℕ) (on : List ℕ) (old new : Target) (kept : AreWaiters targets pending)
    (there : slice_get targets place ≡ Some old) (open' : is_decided_target old ≡ false) (stage : new.stage ≡ old.stage)
    (more : new.watchers.items ≡ old.watchers.items ++ at ∷ []) (waits' : slice_get (stages_of targets) at ≡ Some (Waiting on))
    (awaited' : 0 < times place on) (left : (k : ℕ) → (at ≡ k → ⊥) → 0 < times k pending → 0 < times k pending') where
  times-more : (k : ℕ) → times k new.watchers.items ≡ times k old.watchers.items + one-at k at
  times-more k = ap (times k) more ∙ times-push k at old.watchers.items

  still : is_decided_target new ≡ false
  still = ap (λ s. is_decided (view_of s)) stage ∙ open'

  on-is : (target : Target) (w : waits.Waiting) → slice_get targets at ≡ Some target → target.stage ≡ stages.Waiting w → on ≡ w.on.items
  on-is target w h is =
      let both : Some (Waiting on) ≡ Some (Waiting w.on.items) = sym waits' ∙ stage-there targets at target h ∙ ap Some (ap view_of is) in
      cc

  own-watched : (on' : List ℕ) → on ≡ on' → IsWatched (slice_set targets place new) at on'
  own-watched on' same = record {
    at = place;
    other = new;
    there = get-same targets place old new there;
    undecided = still;
    awaited = subst (λ xs. 0 < times place xs) same awaited';
    listed = omega (arith, times-more at, at-same at at refl);
  }

  others' : (k : ℕ) (target : Target) (w : waits.Waiting) → slice_get targets k ≡ Some target → target.stage ≡ stages.Waiting w → 0 < times k pending →
      (0 < times k pending') ⊎ IsWatched (slice_set targets place new) k w.on.items
  others' k target w h is p = elim (cases_eq at k) [
    | inl same ↦ inr (subst (λ j. IsWatched (slice_set targets place new) j w.on.items) same
        (own-watched w.on.items (on-is target w (subst (λ j. slice_get targets j ≡ Some target) (sym same) h) is)))
    | inr apart ↦ inl (left k apart p)
  ]

  pub watch-waiters : AreWaiters (slice_set targets place new) pending'
  watch-waiters =
      let stays : is_decided_target old ≡ true → is_decided_target new ≡ true = λ d. absurd (both_ways _ open' d) in
      let keeps : KeepsWatchers old new pending' = λ k h f. inl (omega (arith, times-more k, h), still) in
      waiters-changed targets pending pending' place old new kept (record {
        there = there;
        stays = stays;
        awaited = λ w e. awaited-still targets place old new there stays w (kept.awaited place old w there (sym stage ∙ e));
        own = λ w e. elim (kept.watched place old w there (sym stage ∙ e)) [
          | inl p ↦ others' place old w there (sym stage ∙ e) p
          | inr by ↦ watched-still targets place old new there stays (0 < times place pending') place w.on.items by (keeps place)
        ];
        others = λ k target w n g e p. others' k target w g e p;
        watchers = keeps;
      })

-- a target that doesn't wait needn't be looked at
pub stray-waiters : (targets : List Target) (pending pending' : List ℕ) (at : ℕ) → AreWaiters targets pending →
    ((on : List ℕ) → slice_get (stages_of targets) at ≡ Some (Waiting on) → ⊥) →
    ((k : ℕ) → (at ≡ k → ⊥) → 0 < times k pending → 0 < times k pending') → AreWaiters targets pending'
stray-waiters targets pending pending' at kept none left = record {
  awaited = kept.awaited;
  watched = λ k target w there is. elim (kept.watched k target w there is) [
    | inl p ↦ elim (cases_eq at k) [
      | inl same ↦ absurd (none w.on.items (subst (λ j. slice_get (stages_of targets) j ≡ Some (Waiting w.on.items)) (sym same)
          (stage-there targets k target there ∙ ap Some (ap view_of is))))
      | inr apart ↦ inl (left k apart p)
    ]
    | inr by ↦ inr by
  ];
}

-- a target is taken in hand, and needn't be looked at any more
pub hand-waiters : (targets : List Target) (pending pending' : List ℕ) (at : ℕ) (old new : Target) → AreWaiters targets pending → slice_get targets at ≡ Some old →
    is_decided_target old ≡ false → new.stage ≡ stages.InHand → new.watchers ≡ old.watchers →
    ((k : ℕ) → (at ≡ k → ⊥) → 0 < times k pending → 0 < times k pending') → AreWaiters (slice_set targets at new) pending'
hand-waiters targets pending pending' at old new kept there open' stage same left = plain-waiters targets pending at old new kept there open' pending'
    (ap is_plain stage) (ap (λ s. is_decided (view_of s)) stage) same left
