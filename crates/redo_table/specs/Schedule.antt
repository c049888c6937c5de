-- How far the targets of a build have come, each by its number: its place in order of first sight.
use Rattle.std.specs.Prelude.{◌≡◌, ◌⊎◌, ◌↔◌, ℕ, ◌<◌, ◌≤◌, Bool, true, false, List, [], ◌∷◌, ◌++◌, Option, Some}
use Rattle.std.specs.Prelude.{slice_get, slice_set, count_by, nat_eq}
use Rattle.std.specs.List.Sorted.{IsStrictlyIncreasing}

-- how far a target has come
pub data StageView : Type 0 where
  -- its check can go on
  Due : StageView
  -- its script can go on
  Ready : StageView
  -- its job was taken
  Out : StageView
  -- the owner of the schedule has it in hand
  InHand : StageView
  -- it waits for the targets with these numbers
  Waiting : (on : List ℕ) → StageView
  Decided : StageView

-- the stages in order of first sight, and the numbers of those that may be taken, in the order of the queue
pub record ScheduleView : Type 0 where
  pub stages : List StageView
  pub ready : List ℕ

abbrev pub no_targets : ScheduleView
no_targets = record { stages = []; ready = [] }

-- the stage of the target with this number, if there is one
abbrev pub stage_at : ScheduleView → ℕ → Option StageView
stage_at t k = slice_get t.stages k

abbrev pub is_due : StageView → Bool
is_due Due = true
is_due _ = false

abbrev pub is_ready : StageView → Bool
is_ready Ready = true
is_ready _ = false

abbrev pub is_out : StageView → Bool
is_out Out = true
is_out _ = false

abbrev pub is_decided : StageView → Bool
is_decided Decided = true
is_decided _ = false

-- one target more
abbrev pub with_target : ScheduleView → StageView → ScheduleView
with_target t stage = record t { stages = t.stages ++ stage ∷ [] }

-- the target with this number in another stage
abbrev pub with_stage : ScheduleView → ℕ → StageView → ScheduleView
with_stage t k stage = record t { stages = slice_set t.stages k stage }

-- the target is out or in hand, so it may be decided or may wait
abbrev pub IsOpen : ScheduleView → ℕ → Type 0
IsOpen t k = (stage_at t k ≡ Some Out) ⊎ (stage_at t k ≡ Some InHand)

abbrev pub NoneDue : ScheduleView → Type 0
NoneDue t = (k : ℕ) → stage_at t k ≡ Some Due → ⊥

-- the target is the first, by first sight, that is due
pub record IsFirstDue (t : ScheduleView) (at : ℕ) : Type 0 where
  pub due : stage_at t at ≡ Some Due
  pub first : (k : ℕ) → k < at → stage_at t k ≡ Some Due → ⊥

-- the target waited for these, and all of them are decided
pub record IsAnswered (stages : List StageView) (at : ℕ) (on : List ℕ) : Type 0 where
  pub waited : slice_get stages at ≡ Some (Waiting on)
  pub decided : (i k : ℕ) → slice_get on i ≡ Some k → slice_get stages k ≡ Some Decided

-- one of these targets isn't decided
pub record IsLacking (stages : List StageView) (on : List ℕ) : Type 0 where
  pub i : ℕ
  pub k : ℕ
  pub there : slice_get on i ≡ Some k
  pub undecided : slice_get stages k ≡ Some Decided → ⊥

-- each target that waits, waits for one that isn't decided
abbrev pub EachLacks : List StageView → Type 0
EachLacks stages = (k : ℕ) (on : List ℕ) → slice_get stages k ≡ Some (Waiting on) → IsLacking stages on

-- how often a number stands in a list
abbrev pub times : ℕ → List ℕ → ℕ
times k = count_by (nat_eq k)

-- the queue has ready targets alone, each once
pub record IsQueue (t : ScheduleView) : Type 0 where
  pub are_ready : (k : ℕ) → 0 < times k t.ready → stage_at t k ≡ Some Ready
  pub once : (k : ℕ) → times k t.ready ≤ 1

-- the ready targets that weren't in the queue stand behind the others, in order of first sight
pub record IsEnqueued (old new : ScheduleView) : Type 0 where
  pub stages : new.stages ≡ old.stages
  pub more : List ℕ
  pub behind : new.ready ≡ old.ready ++ more
  pub ascending : IsStrictlyIncreasing more
  pub are_more : (k : ℕ) → (0 < times k more) ↔ ((stage_at old k ≡ Some Ready) × (times k old.ready ≡ 0))
