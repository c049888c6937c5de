-- What a run with some answers says of runs with others.
use Rattle.std.specs.Prelude.{◌≡◌, true, false, List}
use Rattle.redo_record.specs.declared.deps.DepKind.TheVariants as kinds
use Rattle.redo_record.specs.Paths.{Path}
use Rattle.redo_step.specs.Setting.{Setting}
use Rattle.redo_step.specs.Runs.{State, End, exited, faulted, stopped, Run, goes, ends, end_state}
use Rattle.redo_step.specs.Declaring.{lacks}
use Rattle.redo_record.specs.Answers.{Ask}
use Rattle.redo_record.specs.Entries.{is_entered, Extends}
use Rattle.redo_record.specs.declared.deps.Dep.{Dep}

-- each operand of redo-ifchange among the entries is a source or has an answer
pub record AreKnown (setting : Setting) (ask : Ask) (entries : List Dep) : Type 0 where
  pub known : (p : Path) → is_entered entries kinds.Change p ≡ true → lacks setting ask p ≡ false

-- A script stopped in this state with the answers `ask`. With `later` it comes at least as far, and no further while an
-- operand lacks its answer.
pub record Awaits (setting : Setting) (ask later : Ask) (s : State) (run : Run) : Type 0 where
  pub lacking : (p : Path) × (is_entered s.entries kinds.Change p ≡ true) × (lacks setting ask p ≡ true)
  pub extends : Extends s.entries (end_state run).entries
  pub stays : (p : Path) → is_entered s.entries kinds.Change p ≡ true → lacks setting later p ≡ true →
      (ps : List Path) × (run ≡ ends (stopped ps) s)

-- a run that ended is the same with the other answers; for one that stopped see above
abbrev pub Ends : Setting → Ask → Ask → End → State → Run → Type 0
Ends setting ask later (exited n) s run = (run ≡ ends (exited n) s) × AreKnown setting ask s.entries
Ends setting ask later (faulted w) s run = (run ≡ ends (faulted w) s) × AreKnown setting ask s.entries
Ends setting ask later (stopped ps) s run = Awaits setting ask later s run

-- The first run, with `ask`, is a beginning of the second, with `later`: they are the same unless the first stopped.
abbrev pub Begins : Setting → Ask → Ask → Run → Run → Type 0
Begins setting ask later (goes s) run = (run ≡ goes s) × AreKnown setting ask s.entries
Begins setting ask later (ends e s) run = Ends setting ask later e s run
