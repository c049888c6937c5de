-- What contracts see of the machine.
use Rattle.std.specs.Prelude.{◌≡◌, ℕ, ◌+◌, ◌<◌, length, List, ◌∷◌, drop, Option, None, Some, option_map, Result}
use Rattle.std.specs.Prelude.{Ok, Err}
use Rattle.redo_script.specs.Syntax.{Script, Word, Condition, finish, choice, loop}
use Rattle.redo_step.specs.declared.machine.Effects.{Effects}
use Rattle.redo_step.specs.declared.halt.Halt.{Halt}
use Rattle.redo_step.specs.declared.halt.Halt.TheVariants as stops
use Rattle.redo_step.specs.declared.wait.WaitingChange.{WaitingChange}
use Rattle.redo_step.specs.declared.machine.RunEnd.{RunEnd}
use Rattle.redo_step.specs.declared.machine.RunEnd.TheVariants as progress
use Rattle.redo_step.specs.declared.machine.Turns.{Turns}
use Rattle.redo_step.specs.Setting.{Setting, with_value}
pub use Rattle.redo_step.specs.Runs.{end_of}
use Rattle.redo_step.specs.Runs.{State, End, stopped, Run, goes, ends}
use Rattle.redo_record.specs.Answers.{Ask}
use Rattle.redo_step.specs.declared.place.Branch.{Branch}
use Rattle.redo_step.specs.declared.place.Branch.TheVariants.{First, Second}
use Rattle.redo_step.specs.declared.place.StopPlace.{Before, Within', InTurn'}
use Rattle.redo_script.specs.declared.ast.Stmt.{Stmt}
use Rattle.redo_script.specs.View.{before, script_of}
use Rattle.redo_step.specs.Place.{Rest, all_of, and_then, turns_of, skip, inside, in_turn, left_at}
use Rattle.redo_step.specs.inside.Stands.{stands_at}
use Rattle.redo_step.specs.Reach.{Reaches}
use Rattle.redo_step.specs.inside.Kept.{IsKept}

-- what a script has done so far
abbrev pub state_of : Effects → State
state_of e = record { output = e.output.items; third = option_map (λ v. v.items) e.third; entries = e.deps }

-- how the run ends if a command halted so; lack of memory isn't an end
abbrev pub end_by : Halt → Option End
end_by (stops.Ended e) = Some (end_of e)
end_by (stops.Lacks ps) = Some (stopped ps.items)
end_by (stops.Waits ps w) = Some (stopped ps.items)
end_by stops.Memory = None

-- the redo-ifchange that a command keeps, if it waits
abbrev pub kept_by : {X : Type 0} → Result X Halt → Option WaitingChange
kept_by (Err (stops.Waits ps w)) = Some w
kept_by result = None

-- what a part of a command gave, seen by a view, or how it ends the run; none if memory ran out
abbrev pub given_by : {X Y : Type 0} → (X → Y) → Result X Halt → Option (Result Y End)
given_by view (Ok x) = Some (Ok (view x))
given_by view (Err stop) = option_map Err (end_by stop)

-- what a command that left this state came to; none if memory ran out
abbrev pub run_by : {X : Type 0} → Result X Halt → State → Option Run
run_by (Ok x) new = Some (goes new)
run_by (Err stop) new = option_map (λ e. ends e new) (end_by stop)

-- it is what is meant, unless memory ran out
abbrev pub IsMeant : {Y : Type 0} → Option Y → Y → Type 0
IsMeant None meant = Unit {0}
IsMeant (Some y) meant = meant ≡ y

-- A part of these statements, done from the old state, comes to the rest, or to an end, or stops at a place among the
-- statements.
abbrev pub Comes : Setting → Ask → (whole : Script) → (part rest : Rest) → State → RunEnd → State → Type 0
Comes setting ask whole part rest old progress.Finished new = Reaches setting ask part old rest new
Comes setting ask whole part rest old (progress.Ended e) new = part ask old ≡ ends (end_of e) new
Comes setting ask whole part rest old (progress.Stopped ps place kept) new =
    Reaches setting ask part old (left_at place setting whole) new ×
    (left_at place setting whole ask new ≡ ends (stopped ps.items) new) ×
    IsKept (stands_at place setting whole) new kept

-- how the statements around the one at this index have run, if that one halted so
abbrev pub IsStopBefore : Halt → ℕ → RunEnd → Type 0
IsStopBefore (stops.Ended e) index p = p ≡ progress.Ended e
IsStopBefore (stops.Lacks ps) index p = p ≡ progress.Stopped ps (Before index) None
IsStopBefore (stops.Waits ps w) index p = p ≡ progress.Stopped ps (Before index) (Some w)
IsStopBefore stops.Memory index p = ⊥

-- The same progress, except that a place is one level deeper.
abbrev pub IsWithin : RunEnd → ℕ → Branch → RunEnd → Type 0
IsWithin progress.Finished index branch outer = outer ≡ progress.Finished
IsWithin (progress.Ended e) index branch outer = outer ≡ progress.Ended e
IsWithin (progress.Stopped ps place kept) index branch outer =
    (p : _) × (outer ≡ progress.Stopped ps (Within' index branch p place) kept)

-- The same progress, except that a place is in a turn of the loop.
abbrev pub IsInTurn : RunEnd → ℕ → List (List ℕ) → ℕ → RunEnd → Type 0
IsInTurn progress.Finished index values turn outer = outer ≡ progress.Finished
IsInTurn (progress.Ended e) index values turn outer = outer ≡ progress.Ended e
IsInTurn (progress.Stopped ps place kept) index values turn outer =
    (p : _) × (outer ≡ progress.Stopped ps (InTurn' index values turn p place) kept)

-- A statement comes to this progress, in any list that has it at this index.
pub record IsPassed (setting : Setting) (ask : Ask) (stmt : Stmt) (index : ℕ) (old : State) (progress : RunEnd)
    (new : State) : Type 0 where
  pub comes : (whole rest : Script) → skip index whole ≡ before stmt rest →
      Comes setting ask whole (all_of setting (before stmt rest)) (all_of setting rest) old progress new

-- the turns of a loop from `first` on
abbrev pub turns_from : Setting → Turns → ℕ → Rest
turns_from setting turns first =
    turns_of setting turns.name.now (script_of turns.body.now) (drop first turns.values.now)

-- The turns of a loop from `first` on come to this progress, in any list that has the loop at its index.
pub record AreRun (setting : Setting) (ask : Ask) (turns : Turns) (first : ℕ) (old : State) (progress : RunEnd)
    (new : State) : Type 0 where
  pub comes : (whole rest : Script) (line : ℕ) (words : List Word) →
      skip turns.index whole ≡ loop line turns.name.now words (script_of turns.body.now) rest →
      Comes setting ask whole (and_then (turns_from setting turns first) (all_of setting rest)) (all_of setting rest)
      old progress new

-- the setting of a turn: the loop's name has the value of this turn
pub record IsTurn (setting : Setting) (turns : Turns) (turn : ℕ) (inner : Setting) : Type 0 where
  pub value : List ℕ
  pub here : drop turn turns.values.now ≡ value ∷ drop (turn + 1) turns.values.now
  pub binds : inner ≡ with_value setting turns.name.now value

-- this one of the two branches
abbrev pub picked : Branch → Script → Script → Script
picked First a b = a
picked Second a b = b

-- the statement at this index is a choice, and this is its branch
pub record HasBranch (stmts : List Stmt) (index : ℕ) (branch : Branch) (part : List Stmt) : Type 0 where
  pub line : ℕ
  pub condition : Condition
  pub first : Script
  pub second : Script
  pub within : index < length stmts
  pub here : skip index (script_of stmts) ≡ choice line condition first second (skip (index + 1) (script_of stmts))
  pub part_is : script_of part ≡ picked branch first second

-- nothing is left inside the statement at this index
pub record HasNoBranch (stmts : List Stmt) (index : ℕ) : Type 0 where
  pub nothing : (branch : Branch) (left : Setting → Script → Rest) (setting : Setting) →
      inside branch left setting (skip index (script_of stmts)) ≡ all_of setting finish

-- the statement at this index is a loop, and these are its turns
pub record HasTurns (stmts : List Stmt) (index : ℕ) (turns : Turns) : Type 0 where
  pub line : ℕ
  pub words : List Word
  pub same_index : turns.index ≡ index
  pub within : index < length stmts
  pub here : skip index (script_of stmts) ≡
      loop line turns.name.now words (script_of turns.body.now) (skip (index + 1) (script_of stmts))

-- nothing is left inside the statement at this index, in this turn for these values
pub record HasNoTurn (stmts : List Stmt) (index : ℕ) (values : List (List ℕ)) (turn : ℕ) : Type 0 where
  pub nothing : (left : Setting → Script → Rest) (setting : Setting) →
      in_turn (drop turn values) left setting (skip index (script_of stmts)) ≡ all_of setting finish
