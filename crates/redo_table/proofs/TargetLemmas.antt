-- A list in which one item is another, and the stages of targets.
use Rattle.std.proofs.Common.{◌≡◌, ◌⊎◌, inl, inr, ℕ, zero, suc, ◌+◌, ◌<◌, Bool, true, cond, List, [], ◌∷◌, ◌++◌}
use Rattle.std.proofs.Common.{Some, length, slice_get, slice_set, slice_index_or, refl, sym, ap, subst, ◌∙◌, arith, count_by}
use Rattle.std.proofs.lemmas.Bool.{cases_eq}
use Rattle.std.proofs.lemmas.List.Sums.{sum_by-cons, sum_by-append}
use Rattle.std.proofs.lemmas.Option.{slice_get_read}
use Rattle.redo_table.specs.Schedule.{StageView, is_decided}
use Rattle.redo_table.specs.Schedule.StageView.{Waiting, Decided}
use Rattle.redo_table.specs.inside.Targets.{view_of, stages_of}
use Rattle.redo_table.specs.declared.stage.Stage.{Stage}
use Rattle.redo_table.specs.declared.stage.Stage.TheVariants as stages
use Rattle.redo_table.specs.declared.stage.Target.{Target}
use Rattle.redo_table.specs.declared.stage.Waiting as waits

pub get-same : {X : Type 0} (xs : List X) (i : ℕ) (x y : X) → slice_get xs i ≡ Some x → slice_get (slice_set xs i y) i ≡ Some y
get-same [] i x y h = cc
get-same (z ∷ xs) zero x y h = refl
get-same (z ∷ xs) (suc i) x y h = get-same xs i x y h

pub get-other : {X : Type 0} (xs : List X) (i k : ℕ) (y : X) → (i ≡ k → ⊥) → slice_get (slice_set xs i y) k ≡ slice_get xs k
get-other (z ∷ xs) zero zero y n = absurd (n refl)
get-other (z ∷ xs) (suc i) (suc k) y n = get-other xs i k y (λ e. n (ap suc e))
get-other _ _ _ y n = refl

-- an item is the one that was set, or was there before
pub set-cases : {X : Type 0} (xs : List X) (i k : ℕ) (x y z : X) → slice_get xs i ≡ Some x → slice_get (slice_set xs i y) k ≡ Some z →
    ((i ≡ k) × (y ≡ z)) ⊎ ((i ≡ k → ⊥) × (slice_get xs k ≡ Some z))
set-cases xs i k x y z there h = elim (cases_eq i k) [
  | inl same ↦
      let both : Some y ≡ Some z = sym (get-same xs i x y there) ∙ subst (λ j. slice_get (slice_set xs i y) j ≡ Some z) (sym same) h in
      inl (same, cc)
  | inr n ↦ inr (n, sym (get-other xs i k y n) ∙ h)
]

-- an item behind the others is the last, or was there before
pub push-cases : {X : Type 0} (xs : List X) (k : ℕ) (y z : X) → slice_get (xs ++ y ∷ []) k ≡ Some z →
    ((k ≡ length xs) × (y ≡ z)) ⊎ (slice_get xs k ≡ Some z)
push-cases [] zero y z h = inl (refl, cc)
push-cases [] (suc k) y z h = cc
push-cases (x ∷ xs) zero y z h = inr h
push-cases (x ∷ xs) (suc k) y z h = elim (push-cases xs k y z h) [
  | inl last ↦ inl (ap suc last.0, last.1)
  | inr before ↦ inr before
]

pub push-before : {X : Type 0} (xs : List X) (k : ℕ) (y z : X) → slice_get xs k ≡ Some z → slice_get (xs ++ y ∷ []) k ≡ Some z
push-before [] k y z h = cc
push-before (x ∷ xs) zero y z h = h
push-before (x ∷ xs) (suc k) y z h = push-before xs k y z h

pub read-there : {X : Type 0} (xs : List X) (k : ℕ) (x : X) → k < length xs → x ≡ slice_index_or xs k x → slice_get xs k ≡ Some x
read-there xs k x lt h = slice_get_read xs (length xs) k x refl lt h

pub there-below : {X : Type 0} (xs : List X) (k : ℕ) → k < length xs → (x : X) × (slice_get xs k ≡ Some x)
there-below [] k lt = absurd (omega (arith, lt))
there-below (x ∷ xs) zero lt = (x, refl)
there-below (x ∷ xs) (suc k) lt = there-below xs k (omega (arith, lt))

pub stages-set : (targets : List Target) (at : ℕ) (new : Target) → stages_of (slice_set targets at new) ≡ slice_set (stages_of targets) at (view_of new.stage)
stages-set (x ∷ xs) (suc at) new = ap (λ ss. view_of x.stage ∷ ss) (stages-set xs at new)
stages-set _ _ new = refl

-- a target whose stage stays
pub stages-same : (targets : List Target) (at : ℕ) (old new : Target) → slice_get targets at ≡ Some old → view_of new.stage ≡ view_of old.stage →
    stages_of (slice_set targets at new) ≡ stages_of targets
stages-same [] at old new h e = refl
stages-same (x ∷ xs) zero old new h e = let same : x ≡ old = cc in
    ap (λ s. s ∷ stages_of xs) (e ∙ sym (ap (λ (y : Target). view_of y.stage) same))
stages-same (x ∷ xs) (suc at) old new h e = ap (λ ss. view_of x.stage ∷ ss) (stages-same xs at old new h e)

pub stages-push : (targets : List Target) (new : Target) → stages_of (targets ++ new ∷ []) ≡ stages_of targets ++ view_of new.stage ∷ []
stages-push [] new = refl
stages-push (x ∷ xs) new = ap (λ ss. view_of x.stage ∷ ss) (stages-push xs new)

pub stages-length : (targets : List Target) → length (stages_of targets) ≡ length targets
stages-length [] = refl
stages-length (x ∷ xs) = ap suc (stages-length xs)

pub stage-there : (targets : List Target) (k : ℕ) (target : Target) → slice_get targets k ≡ Some target → slice_get (stages_of targets) k ≡ Some (view_of target.stage)
stage-there [] k target h = cc
stage-there (x ∷ xs) zero target h = let same : x ≡ target = cc in ap (λ (y : Target). Some (view_of y.stage)) same
stage-there (x ∷ xs) (suc k) target h = stage-there xs k target h

pub target-there : (targets : List Target) (k : ℕ) (stage : StageView) → slice_get (stages_of targets) k ≡ Some stage →
    (target : Target) × (slice_get targets k ≡ Some target) × (view_of target.stage ≡ stage)
target-there [] k stage h = cc
target-there (x ∷ xs) zero stage h = (x, refl, cc)
target-there (x ∷ xs) (suc k) stage h = target-there xs k stage h

-- the target that was read has the stage that the view has
pub view-there : (targets : List Target) (k : ℕ) (target : Target) (stage : StageView) → slice_get targets k ≡ Some target → slice_get (stages_of targets) k ≡ Some stage →
    view_of target.stage ≡ stage
view-there targets k target stage h v = let both : Some (view_of target.stage) ≡ Some stage = sym (stage-there targets k target h) ∙ v in cc

pub decided-is : (s : StageView) → is_decided s ≡ true → s ≡ Decided
decided-is Decided h = refl
decided-is _ h = cc

-- a stage that is seen as one that waits is one
pub waiting-is : (stage : Stage) (on : List ℕ) → view_of stage ≡ Waiting on → (w : waits.Waiting) × (stage ≡ stages.Waiting w) × (w.on.items ≡ on)
waiting-is (stages.Waiting w) on h = (w, refl, cc)
waiting-is _ on h = cc

-- how many pass a test, when one of them becomes another
pub count-set : {X : Type 0} (test : X → Bool) (xs : List X) (i : ℕ) (old new : X) → slice_get xs i ≡ Some old →
    count_by test (slice_set xs i new) + cond (test old) 1 0 ≡ count_by test xs + cond (test new) 1 0
count-set test [] i old new h = cc
count-set test (x ∷ xs) zero old new h =
    let same : x ≡ old = cc in
    omega (
      arith,
      sum_by-cons (λ y. cond (test y) 1 0) new xs,
      sum_by-cons (λ y. cond (test y) 1 0) x xs,
      ap {B = ℕ} (λ y. cond (test y) 1 0) same,
    )
count-set test (x ∷ xs) (suc i) old new h =
    omega (
      arith,
      sum_by-cons (λ y. cond (test y) 1 0) x (slice_set xs i new),
      sum_by-cons (λ y. cond (test y) 1 0) x xs,
      count-set test xs i old new h,
    )

pub count-push : {X : Type 0} (test : X → Bool) (xs : List X) (new : X) → count_by test (xs ++ new ∷ []) ≡ count_by test xs + cond (test new) 1 0
count-push test xs new = omega (arith, sum_by-append (λ y. cond (test y) 1 0) xs (new ∷ []), sum_by-cons (λ y. cond (test y) 1 0) new [])

pub index-there : (xs : List ℕ) (i d : ℕ) → i < length xs → slice_get xs i ≡ Some (slice_index_or xs i d)
index-there [] i d lt = absurd (omega (arith, lt))
index-there (x ∷ xs) zero d lt = refl
index-there (x ∷ xs) (suc i) d lt = index-there xs i d (omega (arith, lt))
