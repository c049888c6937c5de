-- How far a script has come.
use Rattle.std.specs.Prelude.{◌≡◌, true, Some, None, List}
use Rattle.redo_script.specs.Syntax.{Script}
use Rattle.redo_record.specs.declared.deps.DepKind.TheVariants as kinds
use Rattle.redo_record.specs.declared.outcome.Outcome.{Outcome}
use Rattle.redo_record.specs.Paths.{Path}
use Rattle.redo_step.specs.Setting.{Setting}
use Rattle.redo_step.specs.Runs.{State, start}
use Rattle.redo_step.specs.Place.{Rest, all_of}
use Rattle.redo_record.specs.Answers.{Ask}
use Rattle.redo_record.specs.Entries.{is_entered, Extends}
use Rattle.redo_record.specs.declared.deps.Dep.{Dep}

-- `later` keeps each answer of `ask` to an operand of redo-ifchange among the entries. A source has its bytes, whatever
-- the answers say.
pub record Keeps (setting : Setting) (entries : List Dep) (ask later : Ask) : Type 0 where
  pub same : (p : Path) (a : Outcome) → setting.source p ≡ None → is_entered entries kinds.Change p ≡ true →
      ask p ≡ Some a → later p ≡ Some a

-- What is to be done from the old state comes to the rest and the new state: with these answers, and with any that keep
-- them for what is then declared.
pub record Reaches (setting : Setting) (ask : Ask) (all : Rest) (old : State) (rest : Rest) (new : State) : Type 0 where
  pub extends : Extends old.entries new.entries
  pub same : (later : Ask) → Keeps setting new.entries ask later → all later old ≡ rest later new

-- A job fits these answers if the run of the whole script comes to what the job has left.
abbrev pub Fits : Setting → Ask → Script → Rest → State → Type 0
Fits setting ask whole rest state = Reaches setting ask (all_of setting whole) start rest state
