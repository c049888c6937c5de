-- The redo-ifchange that a script waits at, with its operands.
use Rattle.std.specs.Prelude.{◌≡◌, ℕ, List, Option, None, Some, Result, Ok}
use Rattle.redo_script.specs.Syntax.{Word, Command, change, Script, simple}
use Rattle.redo_script.specs.declared.fault.ScriptFault.{ScriptFault}
use Rattle.redo_record.specs.declared.deps.DepKind.TheVariants as kinds
use Rattle.redo_step.specs.declared.place.StopPlace.{StopPlace}
use Rattle.redo_step.specs.declared.wait.WaitingChange.{WaitingChange}
use Rattle.redo_record.specs.Paths.{Path}
use Rattle.redo_step.specs.Setting.{Setting}
use Rattle.redo_step.specs.Runs.{State}
use Rattle.redo_step.specs.Words.{operands_of}
use Rattle.redo_step.specs.Declaring.{declaring}
use Rattle.redo_step.specs.inside.Stands.{Standing, stands_at}
use Rattle.redo_step.specs.inside.Waiting.{targets_in}

-- This waits for the operands that the command's words name, and they are declared.
pub record HasOperands (setting : Setting) (line : ℕ) (command : Command) (state : State) (waiting : WaitingChange) :
    Type 0 where
  pub words : List Word
  pub operands : List Path
  pub same_line : waiting.line ≡ line
  pub same_command : command ≡ change words
  pub names : operands_of setting line words ≡ Ok operands
  pub waits_for : waiting.targets.items ≡ targets_in setting operands
  pub declared : declaring state kinds.Change operands ≡ state

-- the redo-ifchange is the first of these statements
pub record IsFirst (setting : Setting) (script : Script) (state : State) (waiting : WaitingChange) : Type 0 where
  pub line : ℕ
  pub command : Command
  pub rest : Script
  pub here : script ≡ simple line command rest
  pub has : HasOperands setting line command state waiting

-- the redo-ifchange that is kept, if any, is the first of these statements
abbrev pub IsKept : Standing → State → Option WaitingChange → Type 0
IsKept here state None = Unit {0}
IsKept here state (Some waiting) = IsFirst here.setting here.script state waiting

-- the redo-ifchange that is kept, if any, is the statement at this place of the script
abbrev pub IsKeptIn : Setting → Result Script ScriptFault → StopPlace → State → Option WaitingChange → Type 0
IsKeptIn setting whole place state kept =
    (script : Script) → whole ≡ Ok script → IsKept (stands_at place setting script) state kept
