-- Where a run of a script ends before its last statement, and by which operand.
use Rattle.std.specs.Prelude.{◌≡◌, ℕ, ◌+◌, ◌<◌, length, true, false, List, ◌∷◌, ◌++◌, Option, Some, None}
use Rattle.std.specs.Prelude.{Result, Ok, Err, slice_get}
use Rattle.redo_script.specs.Syntax.{Word, Command, Condition, Script, finish, simple, choice, loop}
use Rattle.redo_record.specs.Answers.{Ask}
use Rattle.redo_record.specs.declared.deps.Dep.{Dep}
use Rattle.redo_step.specs.declared.ends.EndPlace.{EndPlace}
use Rattle.redo_step.specs.declared.ends.AtFault.{AtFault}
use Rattle.redo_step.specs.Setting.{Setting, with_value}
use Rattle.redo_step.specs.Runs.{State, End, end_of, Run, goes, ends, exited, faulted, stopped}
use Rattle.redo_step.specs.Words.{texts_of}
use Rattle.redo_step.specs.Statements.{command_run, condition_result, run, turns}
use Rattle.redo_step.specs.Place.{behind_first}
use Rattle.redo_step.specs.Operands.{Operand, all_as, command_operands, condition_operands, operand_check, shown_in}
use Rattle.redo_step.specs.declared.operands.Role.TheVariants.{Text}

-- the number of statements in a script
abbrev pub size : Script → ℕ
size finish = 0
size (simple line c rest) = 1 + size rest
size (choice line c first second rest) = 1 + size first + size second + size rest
size (loop line name ws body rest) = 1 + size body + size rest

-- the first statement alone
abbrev pub first_alone : Script → Script
first_alone finish = finish
first_alone (simple line c rest) = simple line c finish
first_alone (choice line c first second rest) = choice line c first second finish
first_alone (loop line name ws body rest) = loop line name ws body finish

-- what a statement does before anything inside it
pub data Act : Type 0 where
  command : Command → Act
  condition : Condition → Act
  words : List Word → Act

-- an act in its setting, on its line, from a state
pub record Moment : Type 0 where
  pub setting : Setting
  pub line : ℕ
  pub act : Act
  pub state : State

-- the moment of an act
abbrev pub moment_of : Setting → ℕ → Act → State → Moment
moment_of setting line act s = record { setting = setting; line = line; act = act; state = s }

-- a run that only finds a value
abbrev pub finding : {A : Type 0} → Result A End → State → Run
finding (Ok x) s = goes s
finding (Err e) s = ends e s

-- what an act does
abbrev pub act_run : Setting → Ask → ℕ → Act → State → Run
act_run setting ask line (command c) s = command_run setting ask line c s
act_run setting ask line (condition c) s = finding (condition_result setting ask line c s) s
act_run setting ask line (words ws) s = finding (texts_of setting line ws) s

-- what is done in a moment
abbrev pub moment_run : Ask → Moment → Run
moment_run ask m = act_run m.setting ask m.line m.act m.state

-- A run of these statements from this state comes to the act of the statement with this number. Numbers count from 0,
-- in the order in which statements begin in the text: an if comes before its branches, a loop before its body.
pub data ComesTo (ask : Ask) : Setting → Script → State → ℕ → Moment → Type 0 where
  to_command : {setting : Setting} {line : ℕ} {c : Command} {rest : Script} {s : State} →
      ComesTo ask setting (simple line c rest) s 0 (moment_of setting line (command c) s)
  to_condition : {setting : Setting} {line : ℕ} {c : Condition} {first second rest : Script} {s : State} →
      ComesTo ask setting (choice line c first second rest) s 0 (moment_of setting line (condition c) s)
  in_first : {setting : Setting} {line : ℕ} {c : Condition} {first second rest : Script} {s : State} {n : ℕ}
      {m : Moment} →
      condition_result setting ask line c s ≡ Ok true → ComesTo ask setting first s n m →
      ComesTo ask setting (choice line c first second rest) s (1 + n) m
  in_second : {setting : Setting} {line : ℕ} {c : Condition} {first second rest : Script} {s : State} {n : ℕ}
      {m : Moment} →
      condition_result setting ask line c s ≡ Ok false → ComesTo ask setting second s n m →
      ComesTo ask setting (choice line c first second rest) s (1 + size first + n) m
  to_words : {setting : Setting} {line : ℕ} {name : List ℕ} {ws : List Word} {body rest : Script} {s : State} →
      ComesTo ask setting (loop line name ws body rest) s 0 (moment_of setting line (words ws) s)
  in_turn : {setting : Setting} {line : ℕ} {name value : List ℕ} {ws : List Word} {body rest : Script} {s t : State}
      {n : ℕ} {m : Moment} (before after : List (List ℕ)) →
      texts_of setting line ws ≡ Ok (before ++ value ∷ after) →
      turns (λ v. run (with_value setting name v) ask body) before s ≡ goes t →
      ComesTo ask (with_value setting name value) body t n m →
      ComesTo ask setting (loop line name ws body rest) s (1 + n) m
  behind : {setting : Setting} {script : Script} {s t : State} {n : ℕ} {m : Moment} →
      run setting ask (first_alone script) s ≡ goes t → ComesTo ask setting (behind_first script) t n m →
      ComesTo ask setting script s (size (first_alone script) + n) m

-- the operands of an act, from 0: the words behind a command's name, then that of its redirection
abbrev pub act_operands : Act → List Operand
act_operands (command c) = command_operands c
act_operands (condition c) = condition_operands c
act_operands (words ws) = all_as Text ws

-- none of the first n of these is so
abbrev pub NoneWithin : {A : Type 0} → (A → Type 0) → List A → ℕ → Type 0
NoneWithin {A} P xs n = (k : ℕ) → k < n → (x : A) → slice_get xs k ≡ Some x → ¬ P x

-- this is the first of these that is so, and this is its index
pub record IsFirst {A : Type 0} (P : A → Type 0) (xs : List A) (index : ℕ) (x : A) : Type 0 where
  pub here : slice_get xs index ≡ Some x
  pub is_so : P x
  pub none_before : NoneWithin P xs index

-- the operand by itself brings about this end
abbrev pub Brings : Setting → Ask → ℕ → List Dep → End → Operand → Type 0
Brings setting ask line es e o = operand_check setting ask line es o ≡ Err e

-- The operand at fault is the first of these that brings about the end by itself, with what it stands for. If none is
-- named, none does.
abbrev pub Blames : Setting → Ask → ℕ → List Dep → End → List Operand → Option AtFault → Type 0
Blames setting ask line es e os None = NoneWithin (Brings setting ask line es e) os (length os)
Blames setting ask line es e os (Some fault) =
    (o : Operand) × IsFirst (Brings setting ask line es e) os fault.operand o ×
    (fault.value ≡ shown_in setting o.word)

-- A run of these statements from this state ends at this place.
pub record EndsAt (setting : Setting) (ask : Ask) (script : Script) (s : State) (place : EndPlace) : Type 0 where
  pub moment : Moment
  pub state : State
  pub comes : ComesTo ask setting script s place.statement moment
  pub ending : moment_run ask moment ≡ ends (end_of place.end) state
  pub blames : Blames moment.setting ask moment.line state.entries (end_of place.end) (act_operands moment.act)
      place.fault

-- the run comes to the end of its script, or lacks answers
abbrev pub HasNoEnd : Run → Type 0
HasNoEnd (goes s) = Unit {0}
HasNoEnd (ends (exited n) s) = ⊥
HasNoEnd (ends (faulted w) s) = ⊥
HasNoEnd (ends (stopped ps) s) = Unit {0}
