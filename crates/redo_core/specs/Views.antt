-- What contracts see of facts, works, pieces and boards.
use Rattle.std.specs.Prelude.{◌≡◌, ℕ, Bool, List, length, Option, Some, None, IsNone, slice_get, is_some, if◌then◌else◌}
use Rattle.std.specs.Prelude.{bytes_eq, count_by}
use Rattle.std.specs.Map.{lookup}
use Rattle.redo_record.specs.Progress.{Progress}
use Rattle.redo_build.specs.Rules.{Ask, Rules, operands}
use Rattle.redo_build.specs.Schedule.{Entry, State, Event, entry_of, outcomes_of, only, opening, happens}
use Rattle.redo_build.specs.Schedule.{out_count}
use Rattle.redo_build.specs.Schedule.Event.{Hand_in}
use Rattle.redo_build.specs.Looking.{IsLookedOut}
use Rattle.redo_record.specs.declared.deps.Dep.{Dep}
use Rattle.redo_record.specs.declared.outcome.Outcome.{Outcome}
use Rattle.redo_step.specs.Limits.{LimitsView}
use Rattle.redo_tree.specs.Tree.{Tree}
use Rattle.redo_rules.specs.Build.{GivenView, rules_for}
use Rattle.redo_rules.specs.Results.{IsGiven}
use Rattle.redo_core.specs.declared.board.Stop.{Stop}

-- a decided target of a build with its outcome, its record and whether its script was begun
pub record FactView : Type 0 where
  pub given : GivenView
  pub target : List ℕ
  pub outcome : Outcome
  pub deps : List Dep
  pub begun : Bool

-- a job with what it knows
pub record WorkView : Type 0 where
  pub given : GivenView
  pub target : List ℕ
  pub turn : ℕ
  pub deps : List Dep
  -- the outcomes that it holds
  pub known : List (List ℕ × Outcome)

-- the answers that a list of paths with their outcomes gives
abbrev pub told_by : List (List ℕ × Outcome) → Ask
told_by known p = lookup (bytes_eq p) known

-- how far a job came
pub record PieceView : Type 0 where
  pub given : GivenView
  pub target : List ℕ
  pub turn : ℕ
  pub progress : Progress

pub record BoardView : Type 0 where
  pub given : GivenView
  pub state : State
  pub stopped : Option Stop

abbrev pub rules_on : BoardView → Rules
rules_on b = rules_for b.given

-- what is requested
abbrev pub request_on : BoardView → List (List ℕ)
request_on b = b.given.request

-- the most targets that a build may need
abbrev pub limit_on : BoardView → ℕ
limit_on b = b.given.limits.targets

-- how many targets may be taken
abbrev pub ready_count : BoardView → ℕ
ready_count b = if is_some b.stopped then 0 else length b.state.ready

-- how many jobs are out
abbrev pub jobs_out : BoardView → ℕ
jobs_out b = if is_some b.stopped then 0 else out_count b.state

-- how many targets have been seen
abbrev pub seen_count : BoardView → ℕ
seen_count b = if is_some b.stopped then 0 else length b.state.entries

-- how many of them are decided
abbrev pub decided_count : BoardView → ℕ
decided_count b = if is_some b.stopped then 0 else count_by (λ e. is_some e.outcome) b.state.entries

-- the board of a build that is given this, before the first event
abbrev pub opened : GivenView → BoardView
opened given = record { given = given; state = opening (rules_for given) given.request; stopped = None }

-- the first board, after looks until no check can go on
pub record IsLookedAhead (first board : BoardView) : Type 0 where
  pub given : board.given ≡ first.given
  pub stopped : board.stopped ≡ first.stopped
  pub looked : IsLookedOut (rules_on first) first.state board.state

-- the board of a build that is given this, before the first take
abbrev pub IsFirstBoard : GivenView → BoardView → Type 0
IsFirstBoard given board = IsLookedAhead (opened given) board

-- the board of the build of this tree, this request and these limits, before the first take
pub record IsOpened (tree : Tree) (request : List (List ℕ)) (limits : LimitsView) (b : BoardView) : Type 0 where
  pub given : IsGiven tree request limits b.given
  pub is : IsFirstBoard b.given b

-- the board after an event
abbrev pub after : BoardView → Event → BoardView
after b event = record b { state = happens (rules_on b) b.state event }

-- the board after a hand-in, and after looks until no check can go on
abbrev pub IsHandedIn : BoardView → List ℕ → ℕ → BoardView → Type 0
IsHandedIn old target turn new = IsLookedAhead (after old (Hand_in target turn)) new

abbrev pub IsQuietBoard : BoardView → Type 0
IsQuietBoard b = IsNone b.stopped × (ready_count b ≡ 0) × (jobs_out b ≡ 0)

-- the piece and the board are of the same build
abbrev pub Belongs : BoardView → PieceView → Type 0
Belongs b piece = piece.given ≡ b.given

-- the work is that of the ready target at this index, at its turn, and holds exactly the decided outcomes of what it
-- asked for
pub record IsWorkTaken (b : BoardView) (which : ℕ) (w : WorkView) : Type 0 where
  pub given : w.given ≡ b.given
  pub target : slice_get b.state.ready which ≡ Some w.target
  pub turn : (e : Entry) → entry_of b.state.entries w.target ≡ Some e → (w.turn ≡ e.turn) × (w.deps ≡ e.deps)
  pub known : (q : List ℕ) → told_by w.known q ≡ only (operands (rules_on b) w.deps) (outcomes_of b.state.entries) q
