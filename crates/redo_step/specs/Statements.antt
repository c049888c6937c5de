-- What a script does, as a function of the answers to what it asks for.
use Rattle.std.specs.Prelude.{ℕ, zero, suc, Bool, true, false, List, [], ◌∷◌, Option, Some, None, Result, Ok, Err}
use Rattle.redo_script.specs.Syntax.{Command, write, test, change, create, always, always_true, always_false, exit}
use Rattle.redo_script.specs.Syntax.{Condition, if_test, if_true, if_false, Script, finish, simple, choice, loop}
use Rattle.redo_record.specs.declared.outcome.Why.{Why}
use Rattle.redo_record.specs.declared.outcome.Why.TheVariants as why
use Rattle.redo_record.specs.Answers.{Ask}
use Rattle.redo_step.specs.Runs.{End, Run, State, ends, exited, faulted, goes, start, stopped}
use Rattle.redo_step.specs.Setting.{Setting, with_value}
use Rattle.redo_step.specs.Declaring.{changed, created, free_operands, in_any_case}
use Rattle.redo_step.specs.Words.{operands_of, texts_of}
use Rattle.redo_step.specs.Files.{tested}
use Rattle.redo_step.specs.Outputs.{written}

-- a test as a command: it ends the script with status 1 if it doesn't hold
abbrev pub with_status : Result Bool End → State → Run
with_status (Err e) s = ends e s
with_status (Ok true) s = goes s
with_status (Ok false) s = ends (exited 1) s

-- a command that writes: it goes on from the state that it made
abbrev pub with_state : Result State End → State → Run
with_state (Err e) s = ends e s
with_state (Ok s') s = goes s'

-- what a simple command does
abbrev pub command_run : Setting → Ask → ℕ → Command → State → Run
command_run setting ask line (write w r) s = with_state (written setting ask line w r s) s
command_run setting ask line (test t) s = with_status (tested setting ask line t s) s
command_run setting ask line (change ws) s = changed setting ask line (operands_of setting line ws) s
command_run setting ask line (create ws) s = created (free_operands setting line ws) s
command_run setting ask line always s = in_any_case s
command_run setting ask line always_true s = goes s
command_run setting ask line always_false s = ends (exited 1) s
command_run setting ask line (exit n) s = ends (exited n) s

-- whether the condition of an if holds
abbrev pub condition_result : Setting → Ask → ℕ → Condition → State → Result Bool End
condition_result setting ask line (if_test t) s = tested setting ask line t s
condition_result setting ask line if_true s = Ok true
condition_result setting ask line if_false s = Ok false

-- a run, and what follows it if it goes on
abbrev pub then_run : Run → (State → Run) → Run
then_run (goes s) next = next s
then_run (ends e s) next = ends e s

-- the branch that a condition chooses
abbrev pub chosen : Result Bool End → (State → Run) → (State → Run) → State → Run
chosen (Err e) first second s = ends e s
chosen (Ok true) first second s = first s
chosen (Ok false) first second s = second s

-- the turns of a loop, one for each of these values, in order
abbrev pub turns : (List ℕ → State → Run) → List (List ℕ) → State → Run
turns turn [] s = goes s
turns turn (value ∷ values) s = then_run (turn value s) (turns turn values)

-- the turns for the values of a loop's words
abbrev pub looped : Result (List (List ℕ)) End → (List ℕ → State → Run) → State → Run
looped (Err e) turn s = ends e s
looped (Ok values) turn s = turns turn values s

-- what the statements do in order, from this state
unfoldable pub run : Setting → Ask → Script → State → Run
run setting ask finish s = goes s
run setting ask (simple line c rest) s = then_run (command_run setting ask line c s) (run setting ask rest)
run setting ask (choice line c first second rest) s =
    then_run (chosen (condition_result setting ask line c s) (run setting ask first) (run setting ask second) s)
    (run setting ask rest)
run setting ask (loop line name ws body rest) s =
    then_run (looped (texts_of setting line ws) (λ value. run (with_value setting name value) ask body) s)
    (run setting ask rest)

-- the meaning of a whole script
unfoldable pub meaning : Setting → Ask → Script → Run
meaning setting ask script = run setting ask script start

-- what a script made of its target
pub data Made : Type 0 where
  made : Option (List ℕ) → Made
  not_made : Why → Made

-- what a script with status 0 made: standard output counts if it has a byte, $3 if it was created
abbrev pub by_outputs : List ℕ → Option (List ℕ) → Made
by_outputs [] third = made third
by_outputs (b ∷ bs) None = made (Some (b ∷ bs))
by_outputs (b ∷ bs) (Some third) = not_made why.BothOutputs

-- what a run made of its target; none if the run lacks answers
abbrev pub result_of : Run → Option Made
result_of (goes s) = Some (by_outputs s.output s.third)
result_of (ends (exited zero) s) = Some (by_outputs s.output s.third)
result_of (ends (exited (suc n)) s) = Some (not_made (why.Exit (suc n)))
result_of (ends (faulted w) s) = Some (not_made w)
result_of (ends (stopped ps) s) = None
