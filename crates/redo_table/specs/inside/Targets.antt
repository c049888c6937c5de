-- How the schedule keeps who waits for whom.
use Rattle.std.specs.Prelude.{◌≡◌, ◌⊎◌, ℕ, ◌<◌, ◌≤◌, Bool, true, false, List, Some}
use Rattle.std.specs.Prelude.{length, slice_get, map}
use Rattle.redo_table.specs.Schedule.{StageView, is_decided, times}
use Rattle.redo_table.specs.Schedule.StageView.{Due, Ready, Out, InHand, Waiting, Decided}
use Rattle.redo_table.specs.declared.stage.Stage.{Stage}
use Rattle.redo_table.specs.declared.stage.Stage.TheVariants as stages
use Rattle.redo_table.specs.declared.stage.Target.{Target}
use Rattle.redo_table.specs.declared.stage.Waiting as waits
use Rattle.redo_table.specs.declared.waits.Looked.{Looked}
use Rattle.redo_table.specs.declared.waits.Looked.TheVariants as looks

-- what contracts see of a stage
abbrev pub view_of : Stage → StageView
view_of stages.Due = Due
view_of stages.Ready = Ready
view_of stages.Out = Out
view_of stages.InHand = InHand
view_of (stages.Waiting w) = Waiting w.on.items
view_of stages.Decided = Decided

abbrev pub stages_of : List Target → List StageView
stages_of = map (λ target. view_of target.stage)

-- in this stage a target neither waits nor is decided
abbrev pub is_plain : Stage → Bool
is_plain (stages.Waiting w) = false
is_plain stages.Decided = false
is_plain _ = true

abbrev pub is_decided_target : Target → Bool
is_decided_target target = is_decided (view_of target.stage)

-- the stages, and the numbers to be looked at again
pub record WaitersView : Type 0 where
  pub stages : List StageView
  pub pending : List ℕ

-- there is such a target, and it isn't decided
pub record IsUndecided (stages : List StageView) (at : ℕ) : Type 0 where
  pub stage : StageView
  pub there : slice_get stages at ≡ Some stage
  pub undecided : is_decided stage ≡ false

-- the first of these targets are decided, so many of them
abbrev pub AreDecidedBelow : List StageView → List ℕ → ℕ → Type 0
AreDecidedBelow stages on count = (i n : ℕ) → i < count → slice_get on i ≡ Some n → slice_get stages n ≡ Some Decided

-- an undecided target, one of these, has the number among its watchers
pub record IsWatched (targets : List Target) (k : ℕ) (on : List ℕ) : Type 0 where
  pub at : ℕ
  pub other : Target
  pub there : slice_get targets at ≡ Some other
  pub undecided : is_decided_target other ≡ false
  pub awaited : 0 < times at on
  pub listed : 0 < times k other.watchers.items

-- what a target waits for has been seen, and is decided as far as its target says
pub record IsAwaited (targets : List Target) (w : waits.Waiting) : Type 0 where
  pub seen : (i n : ℕ) → slice_get w.on.items i ≡ Some n → n < length targets
  pub known : AreDecidedBelow (stages_of targets) w.on.items w.decided

-- each target that waits is to be looked at, or watches an undecided one
pub record AreWaiters (targets : List Target) (pending : List ℕ) : Type 0 where
  pub awaited : (k : ℕ) (target : Target) (w : waits.Waiting) → slice_get targets k ≡ Some target →
      target.stage ≡ stages.Waiting w → IsAwaited targets w
  pub watched : (k : ℕ) (target : Target) (w : waits.Waiting) → slice_get targets k ≡ Some target →
      target.stage ≡ stages.Waiting w → (0 < times k pending) ⊎ IsWatched targets k w.on.items

-- the targets from one index up to another are decided
abbrev pub AreDecidedFrom : List Target → List ℕ → ℕ → ℕ → Type 0
AreDecidedFrom targets on from to =
    (i n : ℕ) → from ≤ i → i < to → slice_get on i ≡ Some n → slice_get (stages_of targets) n ≡ Some Decided

-- the first index from `from` on whose target is undecided, and that target's number
pub record IsLackingAt (targets : List Target) (on : List ℕ) (from i at : ℕ) : Type 0 where
  pub target : Target
  pub after : from ≤ i
  pub before : AreDecidedFrom targets on from i
  pub number : slice_get on i ≡ Some at
  pub there : slice_get targets at ≡ Some target
  pub undecided : is_decided_target target ≡ false

-- a target waits for one that isn't decided
pub record LacksAt (stages : List StageView) (at count place : ℕ) : Type 0 where
  pub on : List ℕ
  pub waits : slice_get stages at ≡ Some (Waiting on)
  pub decided : AreDecidedBelow stages on count
  pub awaited : 0 < times place on
  pub undecided : IsUndecided stages place

-- what a look finds
abbrev pub IsLook : List StageView → ℕ → Looked → Type 0
IsLook stages at (looks.Lacks count place) = LacksAt stages at count place
IsLook stages at looks.Answered =
    (on : List ℕ) × (slice_get stages at ≡ Some (Waiting on)) ×
    ((i n : ℕ) → slice_get on i ≡ Some n → slice_get stages n ≡ Some Decided)
IsLook stages at looks.Stray = (on : List ℕ) → slice_get stages at ≡ Some (Waiting on) → ⊥
