-- What contracts see of a walk to the statement that ends a script.
use Rattle.std.specs.Prelude.{◌≡◌, ℕ, ◌+◌, ◌++◌, ◌∷◌, List}
use Rattle.redo_script.specs.Syntax.{Script, finish}
use Rattle.redo_script.specs.declared.ast.Stmt.{Stmt}
use Rattle.redo_script.specs.View.{script_of, before}
use Rattle.redo_record.specs.Answers.{Ask}
use Rattle.redo_record.specs.Paths.{Path}
use Rattle.redo_record.specs.declared.deps.Dep.{Dep}
use Rattle.redo_step.specs.declared.ends.EndPlace.{EndPlace}
use Rattle.redo_step.specs.declared.halt.Halt.{Halt}
use Rattle.redo_step.specs.declared.halt.Halt.TheVariants as stops
use Rattle.redo_step.specs.declared.walk.Round.{Round}
use Rattle.redo_step.specs.declared.walk.Walked.{Walked}
use Rattle.redo_step.specs.declared.walk.Walked.TheVariants as walks
use Rattle.redo_step.specs.Setting.{Setting, with_value}
use Rattle.redo_step.specs.Runs.{State, end_of, stopped, Run, goes, ends}
use Rattle.redo_step.specs.Statements.{run, turns}
use Rattle.redo_step.specs.Operands.{Operand}
use Rattle.redo_step.specs.Ends.{Blames, EndsAt}

-- a run stops here for want of answers
abbrev pub Stops : Run → State → Type 0
Stops run t = (ps : List Path) × (run ≡ ends (stopped ps) t)

-- what the run of these statements came to
abbrev pub Walks : Setting → Ask → Script → State → Walked → State → Type 0
Walks setting ask script s walks.Past t = run setting ask script s ≡ goes t
Walks setting ask script s (walks.Ended place) t = EndsAt setting ask script s place
Walks setting ask script s walks.Stopped t = Stops (run setting ask script s) t

-- what the run of a statement came to, whatever follows it
abbrev pub Passes : Setting → Ask → Stmt → State → Walked → State → Type 0
Passes setting ask stmt s walks.Past t = run setting ask (before stmt finish) s ≡ goes t
Passes setting ask stmt s (walks.Ended place) t = (rest : Script) → EndsAt setting ask (before stmt rest) s place
Passes setting ask stmt s walks.Stopped t = (rest : Script) → Stops (run setting ask (before stmt rest) s) t

-- the turns of a loop, for these values
abbrev pub round_turns : Setting → Ask → Round → List (List ℕ) → State → Run
round_turns setting ask round values s =
    turns (λ value. run (with_value setting round.name.now value) ask (script_of round.body.now)) values s

-- a turn of a loop ends at this place of its body
pub record EndsInTurn (setting : Setting) (ask : Ask) (round : Round) (s : State) (place : EndPlace) : Type 0 where
  pub front : List (List ℕ)
  pub back : List (List ℕ)
  pub value : List ℕ
  pub splits : round.values.now ≡ front ++ value ∷ back
  pub between : State
  pub goes_on : round_turns setting ask round front s ≡ goes between
  pub ends_at : EndsAt (with_value setting round.name.now value) ask (script_of round.body.now) between place

-- what the turns of a loop came to
abbrev pub WalksTurns : Setting → Ask → Round → State → Walked → State → Type 0
WalksTurns setting ask round s walks.Past t = round_turns setting ask round round.values.now s ≡ goes t
WalksTurns setting ask round s (walks.Ended place) t = EndsInTurn setting ask round s place
WalksTurns setting ask round s walks.Stopped t = Stops (round_turns setting ask round round.values.now s) t

-- what became of a halt: a place with the operand at fault, or a stop
abbrev pub IsHalted : Setting → Ask → ℕ → List Dep → List Operand → Halt → Walked → Type 0
IsHalted setting ask line es os (stops.Ended end) walked =
    (place : EndPlace) × (walked ≡ walks.Ended place) × (place.statement ≡ 0) × (place.end ≡ end) ×
    Blames setting ask line es (end_of end) os place.fault
IsHalted setting ask line es os (stops.Lacks ps) walked = walked ≡ walks.Stopped
IsHalted setting ask line es os (stops.Waits ps waiting) walked = walked ≡ walks.Stopped
IsHalted setting ask line es os stops.Memory walked = ⊥

-- the same, with a statement's number higher by this
abbrev pub IsFurther : Walked → ℕ → Walked → Type 0
IsFurther (walks.Ended place) by walked =
    walked ≡ walks.Ended (record place { statement = by + place.statement })
IsFurther walks.Past by walked = walked ≡ walks.Past
IsFurther walks.Stopped by walked = walked ≡ walks.Stopped
