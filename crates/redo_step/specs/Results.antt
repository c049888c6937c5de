-- What becomes of a target by its script, and its record.
use Rattle.std.specs.Prelude.{List, Result, Ok, Err, option_map}
use Rattle.redo_script.specs.declared.fault.ScriptFault.{ScriptFault}
use Rattle.redo_script.specs.Syntax.{Script}
use Rattle.redo_record.specs.declared.deps.Dep.{Dep}
use Rattle.redo_record.specs.declared.outcome.Outcome.{Outcome}
use Rattle.redo_record.specs.declared.outcome.Outcome.TheVariants.{Built, Failed}
use Rattle.redo_record.specs.declared.outcome.Why.TheVariants as why
use Rattle.redo_step.specs.Setting.{Setting}
use Rattle.redo_step.specs.Runs.{Run, end_state}
use Rattle.redo_step.specs.Statements.{meaning, result_of, Made, made, not_made}
use Rattle.redo_record.specs.Answers.{Ask}
use Rattle.redo_record.specs.Progress.{Progress, at_once}
use Rattle.redo_record.specs.Entries.{with_all}

-- the outcome of the target
abbrev pub outcome_of : Made → Outcome
outcome_of (made bytes) = Built bytes
outcome_of (not_made w) = Failed w

-- how far a run came; its record has the entries of the search, then its own
abbrev pub after_run : List Dep → Run → Progress
after_run deps run =
    record { outcome = option_map outcome_of (result_of run); deps = with_all deps (end_state run).entries }

-- how far a target comes by its script, or by the fault of its text
abbrev pub by_script : Setting → List Dep → Result Script ScriptFault → Ask → Progress
by_script setting deps (Err fault) ask = at_once (Failed (why.Script fault)) deps
by_script setting deps (Ok script) ask = after_run deps (meaning setting ask script)
