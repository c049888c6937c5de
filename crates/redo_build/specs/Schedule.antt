-- The states of a build and what can happen next, for every order in which scripts are taken and handed in.
use Rattle.std.specs.Prelude.{◌≡◌, ℕ, ◌+◌, ◌<◌, Bool, true, false, not, ◌&&◌, List, [], ◌∷◌, ◌++◌, Option, Some, None}
use Rattle.std.specs.Prelude.{is_some, is_none, if◌then◌else◌, length, filter, remove, slice_get, option_and_then}
use Rattle.std.specs.Prelude.{bytes_eq}
use Rattle.std.specs.List.{list_any}
use Rattle.redo_record.specs.Paths.{is_among}
use Rattle.redo_record.specs.Progress.{Progress}
use Rattle.redo_build.specs.Rules.{Ask, Rules, operands}
use Rattle.redo_build.specs.Outcomes.{requested_targets}
use Rattle.redo_record.specs.declared.deps.Dep.{Dep}
use Rattle.redo_record.specs.declared.outcome.Outcome.{Outcome}

-- a target that has been seen: how often its check and its script have stopped, what it has asked for so far, its
-- outcome once it is decided, and whether its job is out
pub record Entry : Type 0 where
  pub path : List ℕ
  pub looks : ℕ
  pub turn : ℕ
  pub deps : List Dep
  pub outcome : Option Outcome
  pub is_out : Bool

-- the entries in order of first sight, and the paths that may be taken. An entry waits if it isn't decided, ready or
-- out
pub record State : Type 0 where
  pub entries : List Entry
  pub ready : List (List ℕ)

abbrev pub paths_of : List Entry → List (List ℕ)
paths_of [] = []
paths_of (e ∷ es) = e.path ∷ paths_of es

abbrev pub entry_of : List Entry → List ℕ → Option Entry
entry_of [] p = None
entry_of (e ∷ es) p = if bytes_eq e.path p then Some e else entry_of es p

abbrev pub outcome_of : Option Entry → Option Outcome
outcome_of None = None
outcome_of (Some e) = e.outcome

-- the outcomes decided so far
abbrev pub outcomes_of : List Entry → Ask
outcomes_of es p = outcome_of (entry_of es p)

-- the answers to these paths alone
abbrev pub only : List (List ℕ) → Ask → Ask
only ps a q = if is_among ps q then a q else None

abbrev pub nothing_known : Ask
nothing_known q = None

-- the entry of a path at first sight: without a rule it is decided at once
abbrev pub new_entry : Rules → List ℕ → Entry
new_entry r p =
    if r.has_rule p
    then record { path = p; looks = 0; turn = 0; deps = []; outcome = None; is_out = false }
    else record {
      path = p;
      looks = 0;
      turn = 0;
      deps = (r.progress p nothing_known).deps;
      outcome = (r.progress p nothing_known).outcome;
      is_out = false;
    }

-- the entries, followed by new ones for the paths that had none
abbrev pub entered : Rules → List Entry → List (List ℕ) → List Entry
entered r es [] = es
entered r es (p ∷ ps) = entered r (if is_among (paths_of es) p then es else es ++ new_entry r p ∷ []) ps

-- the entries, with the one of the same path replaced
abbrev pub put : List Entry → Entry → List Entry
put [] e = []
put (x ∷ xs) e = if bytes_eq x.path e.path then e ∷ xs else x ∷ put xs e

-- every path that the entry asked for is decided
abbrev pub lacks_none : Rules → List Entry → Entry → Bool
lacks_none r es e = not (list_any (λ q. is_none (outcomes_of es q)) (operands r e.deps))

-- the answers to what the entry asked for. At turn 0 they are those of its check
abbrev pub known_to : Rules → List Entry → Entry → Ask
known_to r es e = only (operands r e.deps) (outcomes_of es)

-- the entry is undecided, lacks no answer, and is neither ready nor out
abbrev pub is_able_to_go_on : Rules → State → Entry → Bool
is_able_to_go_on r s e = is_none e.outcome && lacks_none r s.entries e && not e.is_out && not (is_among s.ready e.path)

-- its script can begin or go on
abbrev pub may_run : Rules → State → Entry → Bool
may_run r s e = is_able_to_go_on r s e && r.begins e.path (known_to r s.entries e)

-- its script isn't begun, and its check can begin or go on
abbrev pub is_due : Rules → State → Entry → Bool
is_due r s e = is_able_to_go_on r s e && not (r.begins e.path (known_to r s.entries e))

-- what may run now becomes ready behind the others, in order of first sight
abbrev pub enqueued : Rules → State → State
enqueued r s = record s { ready = s.ready ++ paths_of (filter (may_run r s) s.entries) }

-- the first state: the requested targets are entered, and those that may run are ready
abbrev pub opening : Rules → List (List ℕ) → State
opening r request = enqueued r (record { entries = entered r [] (requested_targets r request); ready = [] })

pub data Event : Type 0 where
  Take : (which : ℕ) → Event
  Hand_in : (target : List ℕ) (turn : ℕ) → Event
  -- made by the board itself: the check of a target goes on
  Look : (target : List ℕ) → Event

-- the part of a target that goes on: its check or its script
pub data Phase : Type 0 where
  Check : Phase
  Script : Phase

-- the entry, with its job out
abbrev pub sent_out : Entry → Entry
sent_out e = record e { is_out = true }

abbrev pub taken : State → Option Entry → ℕ → State
taken s None which = s
taken s (Some e) which = record { entries = put s.entries (sent_out e); ready = remove s.ready which }

-- how far an entry comes with the answers to what it asked for
abbrev pub advanced : Rules → List Entry → Entry → Progress
advanced r es e = r.progress e.path (known_to r es e)

-- how often its check has stopped, after this phase came as far as `now`
abbrev pub looks_after : Phase → Entry → Progress → ℕ
looks_after Check e now = if is_some now.outcome then e.looks else e.looks + 1
looks_after Script e now = e.looks

-- how often its script has stopped, after this phase came as far as `now`
abbrev pub turn_after : Phase → Entry → Progress → ℕ
turn_after Check e now = e.turn
turn_after Script e now = if is_some now.outcome then e.turn else e.turn + 1

-- the entry after this phase came as far as `now`
abbrev pub moved_on : Phase → Entry → Progress → Entry
moved_on phase e now =
    record {
      path = e.path;
      looks = looks_after phase e now;
      turn = turn_after phase e now;
      deps = now.deps;
      outcome = now.outcome;
      is_out = false;
    }

-- the state after that: what the entry now asks for is entered, and what may run becomes ready
abbrev pub handed_in : Rules → Phase → State → Option Entry → State
handed_in r phase s None = s
handed_in r phase s (Some e) =
    let now = advanced r s.entries e in
    enqueued r (record {
      entries = put (entered r s.entries (operands r now.deps)) (moved_on phase e now);
      ready = s.ready;
    })

abbrev pub happens : Rules → State → Event → State
happens r s (Take which) = taken s (option_and_then (entry_of s.entries) (slice_get s.ready which)) which
happens r s (Hand_in target turn) = handed_in r Script s (entry_of s.entries target)
happens r s (Look target) = handed_in r Check s (entry_of s.entries target)

-- the target is out at that turn
pub record IsOutAt (s : State) (target : List ℕ) (turn : ℕ) : Type 0 where
  pub entry : Entry
  pub at : entry_of s.entries target ≡ Some entry
  pub is_out : entry.is_out ≡ true
  pub at_turn : entry.turn ≡ turn

-- the check of the target can begin or go on
pub record IsDueAt (r : Rules) (s : State) (target : List ℕ) : Type 0 where
  pub entry : Entry
  pub at : entry_of s.entries target ≡ Some entry
  pub due : is_due r s entry ≡ true

-- the event may happen now
abbrev pub IsOpen : Rules → State → Event → Type 0
IsOpen r s (Take which) = which < length s.ready
IsOpen r s (Hand_in target turn) = IsOutAt s target turn
IsOpen r s (Look target) = IsDueAt r s target

-- the state after these events
abbrev pub run : Rules → List Event → State → State
run r [] s = s
run r (e ∷ es) s = run r es (happens r s e)

-- each of these events is open when it happens
abbrev pub AllOpen : Rules → State → List Event → Type 0
AllOpen r s [] = Unit {0}
AllOpen r s (e ∷ es) = IsOpen r s e × AllOpen r (happens r s e) es

-- open events lead from the opening to this state
pub record IsReached (r : Rules) (request : List (List ℕ)) (s : State) : Type 0 where
  pub events : List Event
  pub all_open : AllOpen r (opening r request) events
  pub ends : s ≡ run r events (opening r request)

-- how many jobs are out
abbrev pub out_count : State → ℕ
out_count s = length (filter (λ e. e.is_out) s.entries)

-- nothing is ready and nothing is out
abbrev pub IsQuiet : State → Type 0
IsQuiet s = (s.ready ≡ []) × (out_count s ≡ 0)
