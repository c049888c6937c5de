-- How a board keeps its entries.
use Rattle.std.specs.Prelude.{◌≡◌, ◌⊎◌, ℕ, ◌+◌, ◌<◌, ◌≤◌, Bool, true, false, not, List, [], ◌∷◌, ◌++◌, Option, Some}
use Rattle.std.specs.Prelude.{None, IsNone, map, length, filter, slice_get, slice_set}
use Rattle.std.specs.Prelude.{count_by, unwrap_or, Box}
use Rattle.std.specs.declared.alloc.Global.{Global}
use Rattle.redo_table.specs.Schedule.{StageView, ScheduleView, with_stage, with_target, stage_at, times, NoneDue, IsOpen}
use Rattle.redo_table.specs.Schedule.{IsFirstDue, IsAnswered, EachLacks, IsQueue, IsEnqueued}
use Rattle.redo_table.specs.Schedule.StageView.{Due as AtDue, Ready as AtReady, Out as AtOut, InHand as AtHand}
use Rattle.redo_table.specs.Schedule.StageView.{Waiting as AtWaiting, Decided as AtDecided}
use Rattle.redo_build.specs.Rules.{Ask, Rules, Extends, operands}
pub use Rattle.redo_rules.specs.Build.{GivenView, rules_for, sources_for}
use Rattle.redo_core.specs.inside.Works.{IsUnreadWork, all_asked, found_as, told_in, AddsFact, IsJobOf, GoesOn}
use Rattle.redo_core.specs.inside.Works.{waited_by}
use Rattle.redo_core.specs.declared.facts.Facts.{Facts}
use Rattle.redo_sync.specs.Shown.{Shown}
use Rattle.redo_step.specs.JobView.{record_so_far}
use Rattle.redo_record.specs.Paths.{IsAmong, AreDistinct}
use Rattle.redo_core.specs.declared.board.Stop.TheVariants.{TooMany}
use Rattle.redo_build.specs.Outcomes.{outcome_at, IsTooMany}
use Rattle.redo_build.specs.Schedule.{Entry, State, outcomes_of, entry_of, nothing_known, entered, handed_in, only}
use Rattle.redo_build.specs.Schedule.{IsReached, opening, put}
use Rattle.redo_build.specs.Looking.{looked, looked_once}
use Rattle.redo_which.specs.Rule.{found_of}
use Rattle.redo_core.specs.inside.Checking.{IsBegunBehind, IsDueCheck, IsWaitingCheck}
use Rattle.redo_core.specs.declared.check.Check.{Check}
pub use Rattle.redo_core.specs.declared.table.Awaiting.{Awaiting}
pub use Rattle.redo_core.specs.declared.table.InCheck.{InCheck}
use Rattle.redo_build.specs.Schedule.{Phase}
use Rattle.redo_core.specs.inside.Ends.{IsEndAt}
use Rattle.redo_core.specs.declared.work.End.{End}
pub use Rattle.redo_core.specs.declared.table.Table.{Table}
use Rattle.redo_core.specs.declared.work.Work.{Work}
use Rattle.redo_core.specs.declared.work.Begun.{Begun}
use Rattle.redo_build.specs.inside.Standing.{AreStanding}
use Rattle.redo_build.specs.inside.Turns.{deps_at_turn, IsWork}
use Rattle.redo_core.specs.Views.{WorkView, FactView}
pub use Rattle.redo_core.specs.declared.table.Slot.{Slot}
pub use Rattle.redo_core.specs.declared.table.Stage.{Stage}
pub use Rattle.redo_core.specs.declared.table.Stage.TheVariants.{Due, Checking, Waiting, Ready, Out, Decided}
use Rattle.redo_core.specs.declared.board.Board.TheInside.{Inside}
use Rattle.redo_record.specs.declared.deps.Dep.{Dep}
use Rattle.redo_record.specs.declared.outcome.Outcome.{Outcome}

abbrev pub stage_outcome : Stage → Option Outcome
stage_outcome (Decided fact) = Some fact.value.outcome
stage_outcome _ = None

abbrev pub is_stage_out : Stage → Bool
is_stage_out Out = true
is_stage_out _ = false

-- how often a target stopped, in its check and in its script
abbrev pub rounds_of : Slot → ℕ
rounds_of slot = slot.looks + slot.turn

-- what a target that has stopped `rounds` times has asked for so far; of one that is out or decided, the rules say it
abbrev pub stage_deps : Rules → Ask → List ℕ → ℕ → Stage → List Dep
stage_deps r a p rounds (Due held) = held.value.check.asked
stage_deps r a p rounds (Checking awaiting) = awaiting.held.value.check.asked
stage_deps r a p rounds (Waiting begun) = all_asked begun.value.job begun.value.facts
stage_deps r a p rounds (Ready work) = work.deps
stage_deps r a p rounds Out = deps_at_turn r p a rounds
stage_deps r a p rounds (Decided fact) = (r.progress p a).deps

-- the build's outcomes at its limit, where it has every outcome that is known
abbrev pub outcomes_at_limit : GivenView → Ask
outcomes_at_limit given = outcome_at (rules_for given) given.limits.targets

-- the entry that the slot of a path stands for, given the known outcomes
abbrev pub slot_entry : Rules → Ask → List ℕ → Slot → Entry
slot_entry r a p slot = record {
  path = p;
  looks = slot.looks;
  turn = slot.turn;
  deps = stage_deps r a p (rounds_of slot) slot.stage;
  outcome = stage_outcome slot.stage;
  is_out = is_stage_out slot.stage;
}

abbrev pub slot_entries : Rules → Ask → List (List ℕ) → List Slot → List Entry
slot_entries r a (p ∷ ps) (slot ∷ slots) = slot_entry r a p slot ∷ slot_entries r a ps slots
slot_entries r a _ _ = []

abbrev pub path_at : List (List ℕ) → ℕ → List ℕ
path_at ps i = unwrap_or (slice_get ps i) []

-- the entries that these paths and slots stand for. The depth is one at which the build has every outcome that is known
abbrev pub entries_from : Rules → ℕ → List (List ℕ) → List Slot → List Entry
entries_from r depth ps slots = slot_entries r (outcome_at r depth) ps slots

-- the entries that a table of a build stands for
abbrev pub table_entries : GivenView → Table → List Entry
table_entries given t = entries_from (rules_for given) given.limits.targets t.targets t.slots.items

-- the state that a table stands for
abbrev pub state_from : Rules → ℕ → List (List ℕ) → List Slot → List ℕ → State
state_from r depth ps slots ready = record {
  entries = entries_from r depth ps slots;
  ready = map (path_at ps) ready;
}

abbrev pub table_state : GivenView → Table → State
table_state given t = state_from (rules_for given) given.limits.targets t.targets t.slots.items t.schedule.ready

abbrev pub rules_inside : Inside → Rules
rules_inside b = rules_for b.build

-- the state that a board keeps
abbrev pub state_of : Inside → State
state_of b = state_from (rules_inside b) b.build.limits.targets b.table.targets b.table.slots.items
    b.table.schedule.ready

-- the work is of this build, this path and this turn
abbrev pub IsParked : GivenView → List ℕ → ℕ → WorkView → Type 0
IsParked given p turn work = (work.given ≡ given) × (work.target ≡ p) × (work.turn ≡ turn)

-- the numbers are those of the paths, one for one
abbrev pub AreNumbers : List (List ℕ) → List ℕ → List (List ℕ) → Type 0
AreNumbers ps [] [] = Unit {0}
AreNumbers ps (n ∷ ns) (q ∷ qs) = (slice_get ps n ≡ Some q) × AreNumbers ps ns qs
AreNumbers ps _ _ = ⊥

-- everything that these entries wait for has an answer
abbrev pub AllAnswered : Rules → Ask → List Dep → Type 0
AllAnswered r a deps = (q : List ℕ) → IsAmong (operands r deps) q → a q ≡ None → ⊥

-- a job that waits, with the outcomes that it holds, which are among those known
pub record IsWaitingWith (r : Rules) (a : Ask) (given : GivenView) (p : List ℕ) (turn : ℕ) (begun : Begun)
    : Type 0 where
  pub is_job : IsJobOf given begun.job
  pub of_target : begun.job.target ≡ p
  pub at_turn : begun.job.turn ≡ turn
  pub stopped : 0 < turn
  pub told : (q : List ℕ) (o : Outcome) → told_in begun.facts q ≡ Some o →
      IsAmong (operands r (all_asked begun.job begun.facts)) q × (a q ≡ Some o)
  pub behind : IsBegunBehind given p begun.facts.asked (told_in begun.facts)
  pub checked : AllAnswered r (told_in begun.facts) begun.facts.asked
  pub goes_on : GoesOn begun.job (told_in begun.facts)
  pub own : (sources_for given).progress p (told_in begun.facts) ≡
      record { outcome = None; deps = record_so_far begun.job }

-- a target in check before its script is begun, with its rule
pub record IsHeldWith (given : GivenView) (p : List ℕ) (turn : ℕ) (held : InCheck) : Type 0 where
  pub found : found_of given.past.sources p ≡ found_as held.rule
  pub at_first : turn ≡ 0
  pub none_behind : held.facts.asked ≡ []

-- a target whose check can go on, with the outcomes of exactly what it asked for
pub record IsDueWith (r : Rules) (a : Ask) (given : GivenView) (p : List ℕ) (turn : ℕ) (held : InCheck) : Type 0 where
  pub is_held : IsHeldWith given p turn held
  pub is_due : IsDueCheck given p a held.check
  pub answered : AllAnswered r a held.check.asked
  pub exact : (q : List ℕ) → told_in held.facts q ≡ only (operands r held.check.asked) a q

-- a target whose check waits for a path, with the outcomes of exactly what it had asked for before
pub record IsCheckingWith (r : Rules) (a : Ask) (given : GivenView) (p : List ℕ) (turn : ℕ) (awaiting : Awaiting)
    : Type 0 where
  pub is_held : IsHeldWith given p turn awaiting.held.value
  pub waits : IsWaitingCheck given p a awaiting.path awaiting.held.value.check
  pub answered : (q : List ℕ) → IsAmong (operands r awaiting.held.value.check.asked) q →
      (awaiting.path ≡ q → ⊥) → a q ≡ None → ⊥
  pub exact : (q : List ℕ) → (awaiting.path ≡ q → ⊥) →
      told_in awaiting.held.value.facts q ≡ only (operands r awaiting.held.value.check.asked) a q
  pub lacks : told_in awaiting.held.value.facts awaiting.path ≡ None

-- what a slot holds is of its path and turn
abbrev pub Fits : Rules → Ask → GivenView → List ℕ → ℕ → Stage → Type 0
Fits r a given p turn (Due held) = IsDueWith r a given p turn held.value
Fits r a given p turn (Checking awaiting) = IsCheckingWith r a given p turn awaiting
Fits r a given p turn (Waiting begun) = IsWaitingWith r a given p turn begun.value
Fits r a given p turn (Ready work) =
    IsParked given p turn work × AllAnswered r a work.deps ×
    (r.begins p (only (operands r work.deps) a) ≡ true)
Fits r a given p turn Out = Unit {0}
Fits r a given p turn (Decided fact) =
    (fact.value.given ≡ given) × (fact.value.target ≡ p)

-- the schedule has the stage of a slot, and what waits has the numbers of what it waits for
abbrev pub Agrees : Rules → List (List ℕ) → Stage → StageView → Type 0
Agrees r ps (Due held) s = s ≡ AtDue
Agrees r ps (Checking awaiting) s = (n : ℕ) × (s ≡ AtWaiting (n ∷ [])) × (slice_get ps n ≡ Some awaiting.path)
Agrees r ps (Waiting begun) s = (on : List ℕ) × (s ≡ AtWaiting on) × AreNumbers ps on (waited_by r begun.value)
Agrees r ps (Ready work) s = s ≡ AtReady
Agrees r ps Out s = (s ≡ AtOut) ⊎ (s ≡ AtHand)
Agrees r ps (Decided fact) s = s ≡ AtDecided

-- there are as many slots as stages, and each has its own
pub record AreAgreed (r : Rules) (ps : List (List ℕ)) (slots : List Slot) (stages : List StageView) : Type 0 where
  pub one_each : length stages ≡ length slots
  pub each : (k : ℕ) (slot : Slot) (s : StageView) → slice_get slots k ≡ Some slot → slice_get stages k ≡ Some s →
      Agrees r ps slot.stage s

abbrev pub is_stage_ready : Stage → Bool
is_stage_ready (Ready work) = true
is_stage_ready _ = false

abbrev pub is_stage_waiting : Stage → Bool
is_stage_waiting (Checking awaiting) = true
is_stage_waiting (Waiting begun) = true
is_stage_waiting _ = false

abbrev pub is_stage_due : Stage → Bool
is_stage_due (Due held) = true
is_stage_due _ = false

abbrev pub AllFit : Rules → ℕ → GivenView → List (List ℕ) → List Slot → Type 0
AllFit r depth given ps slots = (k : ℕ) (slot : Slot) → slice_get slots k ≡ Some slot →
    Fits r (outcomes_of (entries_from r depth ps slots)) given (path_at ps k) slot.turn slot.stage

-- what a table keeps: each slot fits its path, and the schedule agrees with it
pub record IsTable (r : Rules) (given : GivenView) (ps : List (List ℕ)) (slots : List Slot) (stages : List StageView)
    : Type 0 where
  pub one_each : length slots ≡ length ps
  pub within_limit : length slots ≤ given.limits.targets
  pub few : given.limits.targets ≤ 65536
  pub fits : AllFit r given.limits.targets given ps slots
  pub agreed : AreAgreed r ps slots stages

abbrev pub IsTableOf : GivenView → Table → Type 0
IsTableOf given t = IsTable (rules_for given) given t.targets t.slots.items t.schedule.stages

-- a schedule between two events: each that waits lacks something, none is in hand, and all that is ready is queued
pub record IsResting (s : ScheduleView) : Type 0 where
  pub lacks : EachLacks s.stages
  pub put_back : (k : ℕ) → stage_at s k ≡ Some AtHand → ⊥
  pub queue : IsQueue s
  pub queued : (k : ℕ) → stage_at s k ≡ Some AtReady → 0 < times k s.ready

-- the table of a state that is reached, with nothing left to do but to look at what is due
pub record IsAtRest (given : GivenView) (t : Table) : Type 0 where
  pub reached : IsReached (rules_for given) given.request (table_state given t)
  pub table : IsTableOf given t
  pub resting : IsResting t.schedule

-- what a board keeps: a table at rest, with nothing to look at
pub record IsKept (b : Inside) : Type 0 where
  pub at_rest : IsAtRest b.build b.table
  pub none_due : NoneDue b.table.schedule

-- a running board keeps what it shows; one that has stopped at the limit is of a build that needs too many targets
pub record IsBoard (b : Inside) : Type 0 where
  pub kept : IsNone b.stopped → IsKept b
  pub too_many : b.stopped ≡ Some TooMany → IsTooMany (rules_inside b) b.build.request b.build.limits.targets

abbrev pub is_stage_decided : Stage → Bool
is_stage_decided (Decided fact) = true
is_stage_decided _ = false

-- how many slots are decided
abbrev pub decided_slots : List Slot → ℕ
decided_slots slots = count_by (λ slot. is_stage_decided slot.stage) slots

-- the path has a slot that is decided
pub record IsDecidedSlot (t : Table) (q : List ℕ) : Type 0 where
  pub at : ℕ
  pub slot : Slot
  pub path : slice_get t.targets at ≡ Some q
  pub there : slice_get t.slots.items at ≡ Some slot
  pub decided : is_stage_decided slot.stage ≡ true

-- the target of a number is decided
abbrev pub IsDecidedNumber : Table → ℕ → Type 0
IsDecidedNumber t n = (slot : Slot) × (slice_get t.slots.items n ≡ Some slot) × (is_stage_decided slot.stage ≡ true)

-- the table has seen these numbers
abbrev pub AreSeen : Table → List ℕ → Type 0
AreSeen t ns = (i n : ℕ) → slice_get ns i ≡ Some n → n < length t.schedule.stages

-- the invariant of the schedule holds of the entries of the table
abbrev pub IsStandingTable : GivenView → Table → Type 0
IsStandingTable given t =
    (request : List (List ℕ)) × AreStanding (rules_for given) request (table_entries given t)

-- the fact of a number whose target is decided
abbrev pub IsFactAt : Table → ℕ → Shown FactView → Type 0
IsFactAt t n fact = (slot : Slot) × (slice_get t.slots.items n ≡ Some slot) × (slot.stage ≡ Decided fact)

-- one of these numbers has a fact that gives this outcome of the path
pub record IsToldBy (t : Table) (ns : List ℕ) (q : List ℕ) (o : Outcome) : Type 0 where
  pub k : ℕ
  pub n : ℕ
  pub fact : Shown FactView
  pub number : slice_get ns k ≡ Some n
  pub there : IsFactAt t n fact
  pub target : fact.value.target ≡ q
  pub outcome : fact.value.outcome ≡ o

-- the new facts have that of one number too
abbrev pub GainsOne : Table → ℕ → Facts → Facts → Type 0
GainsOne t n old new = (fact : Shown FactView) × IsFactAt t n fact × AddsFact fact.value old new

-- the new facts have those of the numbers before an index, and nothing else that is new
pub record GainsBelow (t : Table) (ns : List ℕ) (old new : Facts) (i : ℕ) : Type 0 where
  pub asked : new.asked ≡ old.asked
  pub kept : (q : List ℕ) → told_in new q ≡ None → told_in old q ≡ None
  pub origin : (q : List ℕ) (o : Outcome) → told_in new q ≡ Some o → (told_in old q ≡ Some o) ⊎ IsToldBy t ns q o
  pub known : (k n : ℕ) (fact : Shown FactView) → k < i → slice_get ns k ≡ Some n → IsFactAt t n fact →
      told_in new fact.value.target ≡ None → ⊥

-- the new facts have those of all the numbers, and nothing else that is new
abbrev pub Gains : Table → List ℕ → Facts → Facts → Type 0
Gains t ns old new = GainsBelow t ns old new (length ns)

-- one parked job is ready now
pub record IsMadeReadyAt (given : GivenView) (t u : Table) (at : ℕ) : Type 0 where
  pub old : Slot
  pub begun : Box Begun Global
  pub work : Work
  pub there : slice_get t.slots.items at ≡ Some old
  pub was : old.stage ≡ Waiting begun
  pub same : (work.given ≡ given) × (work.target ≡ begun.value.job.target) × (work.turn ≡ begun.value.job.turn) ×
      (work.deps ≡ all_asked begun.value.job begun.value.facts)
  pub targets : u.targets ≡ t.targets
  pub slots : u.slots.items ≡ slice_set t.slots.items at (record old { stage = Ready work })
  pub schedule : u.schedule ≡ with_stage t.schedule at AtReady

-- where the schedule has a target that is due, ready or decided
abbrev pub in_schedule : Stage → StageView
in_schedule (Due held) = AtDue
in_schedule (Ready work) = AtReady
in_schedule (Decided fact) = AtDecided
in_schedule _ = AtHand

-- the check of a slot has the answer that it waited for: it can go on, or its target is ready
pub record IsResumedAt (given : GivenView) (t u : Table) (at : ℕ) : Type 0 where
  pub old : Slot
  pub awaiting : Awaiting
  pub stage : Stage
  pub there : slice_get t.slots.items at ≡ Some old
  pub was : old.stage ≡ Checking awaiting
  pub is_open : (is_stage_due stage ≡ true) ⊎ (is_stage_ready stage ≡ true)
  pub fits : Fits (rules_for given) (outcomes_of (table_entries given t)) given (path_at t.targets at) old.turn stage
  pub deps : stage_deps (rules_for given) (outcomes_at_limit given) (path_at t.targets at) (rounds_of old) stage ≡
      awaiting.held.value.check.asked
  pub targets : u.targets ≡ t.targets
  pub slots : u.slots.items ≡ slice_set t.slots.items at (record old { stage = stage })
  pub schedule : u.schedule ≡ with_stage t.schedule at (in_schedule stage)

-- a check goes on or falls with the answer of a decided target
pub record GoesOnWith (given : GivenView) (t : Table) (place : ℕ) (old new : Check) (stands : Bool) : Type 0 where
  pub fact : Shown FactView
  pub there : IsFactAt t place fact
  pub asked : new.asked ≡ old.asked
  pub goes : stands ≡ true → (p : List ℕ) (a : Ask) (q : List ℕ) → IsWaitingCheck given p a q old →
      a q ≡ Some fact.value.outcome → IsDueCheck given p a new
  pub falls : stands ≡ false → (p : List ℕ) (a : Ask) (q : List ℕ) → IsWaitingCheck given p a q old →
      a q ≡ Some fact.value.outcome → IsBegunBehind given p old.asked a

-- what a check that fell leaves to the script
abbrev pub IsFallen : GivenView → List ℕ → InCheck → Type 0
IsFallen given target held =
    IsUnreadWork given target (found_as held.rule) (record held.facts { asked = held.check.asked })

-- the check of this slot waits for the target of the number `place`, which is decided
pub record IsAnsweredAs (given : GivenView) (t : Table) (at place : ℕ) (slot : Slot) (awaiting : Awaiting)
    : Type 0 where
  pub there : slice_get t.slots.items at ≡ Some slot
  pub was : slot.stage ≡ Checking awaiting
  pub distinct : AreDistinct t.targets
  pub path : slice_get t.targets at ≡ Some (path_at t.targets at)
  pub number : slice_get t.targets place ≡ Some awaiting.path
  pub decided : IsDecidedNumber t place
  pub fits : AllFit (rules_for given) given.limits.targets given t.targets t.slots.items
  pub standing : IsStandingTable given t

abbrev pub IsAnsweredCheck : GivenView → Table → ℕ → ℕ → Type 0
IsAnsweredCheck given t at place = (slot : Slot) × (awaiting : Awaiting) × IsAnsweredAs given t at place slot awaiting

-- the job of this slot, which waited for these numbers, is a work once it holds the outcomes that are known
pub record IsFedAs (given : GivenView) (t : Table) (at : ℕ) (on : List ℕ) (slot : Slot) (begun : Box Begun Global)
    : Type 0 where
  pub there : slice_get t.slots.items at ≡ Some slot
  pub was : slot.stage ≡ Waiting begun
  pub distinct : AreDistinct t.targets
  pub waits : IsWaitingWith (rules_for given) (outcomes_of (table_entries given t)) given (path_at t.targets at) slot.turn
      begun.value
  pub fits : AllFit (rules_for given) given.limits.targets given t.targets t.slots.items
  pub numbered : AreNumbers t.targets on (waited_by (rules_for given) begun.value)
  pub decided : (i n : ℕ) → slice_get on i ≡ Some n → IsDecidedNumber t n
  pub is_work : IsWork (rules_for given) begun.value.job.target begun.value.job.turn
      (all_asked begun.value.job begun.value.facts)
  pub deep : Extends (rules_for given) (outcomes_of (table_entries given t)) (outcome_at (rules_for given) is_work.depth)
  pub few : begun.value.job.turn < 65536

abbrev pub IsFed : GivenView → Table → ℕ → List ℕ → Type 0
IsFed given t at on = (slot : Slot) × (begun : Box Begun Global) × IsFedAs given t at on slot begun

-- the target waited for these numbers, which are decided, and the schedule has just put it in hand
pub record IsAnsweredAt (given : GivenView) (t : Table) (at : ℕ) (on : List ℕ) : Type 0 where
  pub before : ScheduleView
  pub table : IsTable (rules_for given) given t.targets t.slots.items before.stages
  pub standing : IsStandingTable given t
  pub answered : IsAnswered before.stages at on
  pub now : t.schedule ≡ with_stage before at AtHand

-- what went on is due or ready
abbrev pub is_going : StageView → Bool
is_going AtDue = true
is_going AtReady = true
is_going _ = false

-- the target in hand is due or ready now: the table shows the same entries
pub record IsGoneOnAt (given : GivenView) (t u : Table) (at : ℕ) : Type 0 where
  pub table : IsTableOf given u
  pub entries : table_entries given u ≡ table_entries given t
  pub targets : u.targets ≡ t.targets
  pub stage : StageView
  pub going : is_going stage ≡ true
  pub schedule : u.schedule ≡ with_stage t.schedule at stage

-- some targets went on: the table shows the same entries, and nothing more is in hand
pub record IsSettling (given : GivenView) (t u : Table) : Type 0 where
  pub table : IsTableOf given u
  pub entries : table_entries given u ≡ table_entries given t
  pub targets : u.targets ≡ t.targets
  pub ready : u.schedule.ready ≡ t.schedule.ready
  pub in_hand : (k : ℕ) → stage_at u.schedule k ≡ Some AtHand → stage_at t.schedule k ≡ Some AtHand

-- all targets that could go on did
abbrev pub IsSettled : GivenView → Table → Table → Type 0
IsSettled given t u = IsSettling given t u × EachLacks u.schedule.stages

-- a stage in which a target waits, of which settling leaves fewer
abbrev pub is_waiting : StageView → Bool
is_waiting (AtWaiting on) = true
is_waiting _ = false

-- the first stage of a path
abbrev pub IsFirstStage : GivenView → List ℕ → Stage → Type 0
IsFirstStage given p (Due held) =
    ((a : Ask) → IsDueWith (rules_for given) a given p 0 held.value) × (held.value.check.asked ≡ []) ×
    ((rules_for given).has_rule p ≡ true)
IsFirstStage given p (Ready work) =
    IsParked given p 0 work × (work.deps ≡ []) × ((rules_for given).has_rule p ≡ true) ×
    ((a : Ask) → (rules_for given).begins p a ≡ true)
IsFirstStage given p (Decided fact) =
    (fact.value.given ≡ given) × (fact.value.target ≡ p) ×
    ((rules_for given).has_rule p ≡ false) ×
    (((rules_for given).progress p nothing_known).outcome ≡ Some fact.value.outcome)
IsFirstStage given p _ = ⊥

-- where the schedule has a path at first sight: it is due, ready or decided
abbrev pub is_fresh : StageView → Bool
is_fresh AtDue = true
is_fresh AtReady = true
is_fresh AtDecided = true
is_fresh _ = false

-- a new path has a slot behind the others
pub record IsPushed (given : GivenView) (t u : Table) (p : List ℕ) : Type 0 where
  pub new : Slot
  pub first : IsFirstStage given p new.stage
  pub looks : new.looks ≡ 0
  pub turn : new.turn ≡ 0
  pub keys : u.targets ≡ t.targets ++ p ∷ []
  pub slots : u.slots.items ≡ t.slots.items ++ new ∷ []
  pub schedule : u.schedule ≡ with_target t.schedule (in_schedule new.stage)

-- the table shows the entries with these paths entered
pub record AreEnteredInto (given : GivenView) (t u : Table) (ps : List (List ℕ)) : Type 0 where
  pub table : IsTableOf given u
  pub entries : table_entries given u ≡ entered (rules_for given) (table_entries given t) ps
  pub ready : u.schedule.ready ≡ t.schedule.ready
  pub keys_kept : (k : ℕ) (p : List ℕ) → slice_get t.targets k ≡ Some p → slice_get u.targets k ≡ Some p
  pub slots_kept : (k : ℕ) (slot : Slot) → slice_get t.slots.items k ≡ Some slot → slice_get u.slots.items k ≡ Some slot
  pub stages_kept : (k : ℕ) (s : StageView) → stage_at t.schedule k ≡ Some s → stage_at u.schedule k ≡ Some s
  pub fresh : (k : ℕ) (s : StageView) → stage_at u.schedule k ≡ Some s →
      (stage_at t.schedule k ≡ Some s) ⊎ (is_fresh s ≡ true)

abbrev pub IsEnteredInto : GivenView → Table → Table → List ℕ → Type 0
IsEnteredInto given t u p = AreEnteredInto given t u (p ∷ [])

-- entering the paths exceeds the limit
abbrev pub AreTooMany : GivenView → Table → List (List ℕ) → Type 0
AreTooMany given t ps = given.limits.targets < length (entered (rules_for given) (table_entries given t) ps)

abbrev pub IsFull : GivenView → Table → List ℕ → Type 0
IsFull given t p = AreTooMany given t (p ∷ [])

-- what is ready is in the queue, and the rest is as it was
pub record AreEnqueued (t u : Table) : Type 0 where
  pub before : IsQueue t.schedule
  pub after : IsQueue u.schedule
  pub enqueued : IsEnqueued t.schedule u.schedule
  pub targets : u.targets ≡ t.targets
  pub slots : u.slots ≡ t.slots

-- one slot that was out has another stage, and so has the schedule
pub record IsPutBack (t u : Table) (at : ℕ) (old new : Slot) (s : StageView) : Type 0 where
  pub there : slice_get t.slots.items at ≡ Some old
  pub was : old.stage ≡ Out
  pub targets : u.targets ≡ t.targets
  pub slots : u.slots.items ≡ slice_set t.slots.items at new
  pub schedule : u.schedule ≡ with_stage t.schedule at s

-- a target is decided
pub record IsDecidedAt (t u : Table) (at : ℕ) (fact : Shown FactView) : Type 0 where
  pub old : Slot
  pub put_back : IsPutBack t u at old (record old { stage = Decided fact }) AtDecided

-- a job is parked at its next turn, and waits for these numbers
pub record IsParkedAt (t u : Table) (at : ℕ) (begun : Box Begun Global) (on : List ℕ) : Type 0 where
  pub old : Slot
  pub put_back : IsPutBack t u at old (record old { turn = old.turn + 1; stage = Waiting begun }) (AtWaiting on)

-- the check of a target that was taken out for a look waits for the target of the number `place`
pub record IsAskedAt (t u : Table) (at : ℕ) (awaiting : Awaiting) (place : ℕ) : Type 0 where
  pub old : Slot
  pub put_back : IsPutBack t u at old (record old { looks = old.looks + 1; stage = Checking awaiting })
      (AtWaiting (place ∷ []))

-- the slot is out, and the schedule has it out or in hand
abbrev pub IsOutThere : Table → ℕ → Type 0
IsOutThere t at =
    IsOpen t.schedule at × ((slot : Slot) × (slice_get t.slots.items at ≡ Some slot) × (slot.stage ≡ Out) ×
    (rounds_of slot < 65536) × (at < 65536))

-- the state after the target of a number is handed in, or is looked at
abbrev pub state_after : GivenView → Phase → Table → ℕ → State
state_after given phase t at =
    handed_in (rules_for given) phase (table_state given t) (entry_of (table_entries given t) (path_at t.targets at))

-- the table is at rest, and the end is that of the job that is out at the number
pub record MayTakeIn (given : GivenView) (t : Table) (at : ℕ) (end : End) : Type 0 where
  pub at_rest : IsAtRest given t
  pub slot : Slot
  pub there : slice_get t.slots.items at ≡ Some slot
  pub is_out : slot.stage ≡ Out
  pub is_end : IsEndAt given (path_at t.targets at) slot.turn end

-- the entry of a target that was out, once this fact decides it
abbrev pub concluded_entry : GivenView → List ℕ → Slot → FactView → Entry
concluded_entry given p slot fact = record {
  path = p;
  looks = slot.looks;
  turn = slot.turn;
  deps = ((rules_for given).progress p (outcomes_at_limit given)).deps;
  outcome = Some fact.outcome;
  is_out = false;
}

-- the target at the number is out, and no other is in hand; with this fact of it, the invariant of the schedule holds of
-- the entries
pub record MayConclude (given : GivenView) (t : Table) (at : ℕ) (fact : FactView) : Type 0 where
  pub table : IsTableOf given t
  pub distinct : AreDistinct t.targets
  pub is_out : IsOutThere t at
  pub alone : (k : ℕ) → stage_at t.schedule k ≡ Some AtHand → at ≡ k
  pub of_build : (fact.given ≡ given) × (fact.target ≡ path_at t.targets at)
  pub request : List (List ℕ)
  pub standing : (slot : Slot) → slice_get t.slots.items at ≡ Some slot →
      AreStanding (rules_for given) request
      (put (table_entries given t) (concluded_entry given (path_at t.targets at) slot fact))

-- the target is decided by the fact, and what waited for it went on
pub record IsConcludedAt (given : GivenView) (t u : Table) (at : ℕ) (fact : FactView) : Type 0 where
  pub table : IsTableOf given u
  pub slot : Slot
  pub there : slice_get t.slots.items at ≡ Some slot
  pub entries : table_entries given u ≡
      put (table_entries given t) (concluded_entry given (path_at t.targets at) slot fact)
  pub ready : u.schedule.ready ≡ t.schedule.ready
  pub targets : u.targets ≡ t.targets
  pub lacks : EachLacks u.schedule.stages
  pub put_back : (k : ℕ) → stage_at u.schedule k ≡ Some AtHand → ⊥

-- the table shows the entries of this state; each target that waits lacks something, and none is in hand
pub record IsPutBackThere (given : GivenView) (after : State) (t u : Table) : Type 0 where
  pub table : IsTableOf given u
  pub entries : table_entries given u ≡ after.entries
  pub ready : u.schedule.ready ≡ t.schedule.ready
  pub keys_kept : (k : ℕ) (p : List ℕ) → slice_get t.targets k ≡ Some p → slice_get u.targets k ≡ Some p
  pub lacks : EachLacks u.schedule.stages
  pub put_back : (k : ℕ) → stage_at u.schedule k ≡ Some AtHand → ⊥

-- the table shows this state, with nothing left to do but to look
pub record IsTakenIn (given : GivenView) (after : State) (u : Table) : Type 0 where
  pub table : IsTableOf given u
  pub resting : IsResting u.schedule
  pub state : table_state given u ≡ after

-- the first number that is due was drawn from the table at rest, and is in hand
pub record IsDrawnFrom (given : GivenView) (whole t : Table) (at : ℕ) : Type 0 where
  pub at_rest : IsAtRest given whole
  pub first : IsFirstDue whole.schedule at
  pub targets : t.targets ≡ whole.targets
  pub slots : t.slots ≡ whole.slots
  pub schedule : t.schedule ≡ with_stage whole.schedule at AtHand

abbrev pub IsDrawn : GivenView → Table → ℕ → Type 0
IsDrawn given t at = (whole : Table) × IsDrawnFrom given whole t at

-- the state after the first look that is due
abbrev pub state_looked : GivenView → Table → State
state_looked given t = looked_once (rules_for given) (table_state given t)

-- the check of the target at the number can go on
abbrev pub IsDueThere : Table → ℕ → Type 0
IsDueThere t at =
    (slot : Slot) × (held : Box InCheck Global) × (slice_get t.slots.items at ≡ Some slot) × (slot.stage ≡ Due held)

-- the check at the number is taken out of the table
pub record IsTakenOut (t u : Table) (at : ℕ) (held : Box InCheck Global) : Type 0 where
  pub old : Slot
  pub there : slice_get t.slots.items at ≡ Some old
  pub was : old.stage ≡ Due held
  pub targets : u.targets ≡ t.targets
  pub slots : u.slots.items ≡ slice_set t.slots.items at (record old { stage = Out })
  pub schedule : u.schedule ≡ t.schedule

-- the table is one from which a check is taken out for a look, and the check is due
pub record MayLook (given : GivenView) (t : Table) (at : ℕ) (held : Box InCheck Global) : Type 0 where
  pub whole : Table
  pub drawn : Table
  pub is_drawn : IsDrawnFrom given whole drawn at
  pub taken : IsTakenOut drawn t at held

-- the table is at rest after one look
pub record IsLookedOnce (given : GivenView) (t u : Table) : Type 0 where
  pub at_rest : IsAtRest given u
  pub state : table_state given u ≡ state_looked given t

-- the table is at rest, shows this state after some looks, and has nothing more to look at
pub record IsMovedOn (given : GivenView) (after : State) (u : Table) : Type 0 where
  pub at_rest : IsAtRest given u
  pub looks : ℕ
  pub state : table_state given u ≡ looked (rules_for given) looks after
  pub none_due : NoneDue u.schedule

-- looks alone led from the state of one table to that of the other, which is at rest
pub record IsLookedOn (given : GivenView) (t u : Table) : Type 0 where
  pub at_rest : IsAtRest given u
  pub looks : ℕ
  pub state : table_state given u ≡ looked (rules_for given) looks (table_state given t)

-- the job of a target is out at this number, at its turn
pub record IsOutSlotAt (t : Table) (target : List ℕ) (turn at : ℕ) : Type 0 where
  pub slot : Slot
  pub path : slice_get t.targets at ≡ Some target
  pub there : slice_get t.slots.items at ≡ Some slot
  pub is_out : slot.stage ≡ Out
  pub at_turn : slot.turn ≡ turn

-- the paths that aren't sources
abbrev pub targets_in : Rules → List (List ℕ) → List (List ℕ)
targets_in r paths = filter (λ p. not (r.is_source p)) paths

-- the table shows the opening, with nothing left to do but to look
abbrev pub IsFirstTable : GivenView → Table → Type 0
IsFirstTable given t = IsTakenIn given (opening (rules_for given) given.request) t
