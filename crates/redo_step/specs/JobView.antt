-- What contracts see of a job.
use Rattle.std.specs.Prelude.{ℕ, List, Result, Ok, Err}
use Rattle.redo_script.specs.declared.fault.ScriptFault.{ScriptFault}
use Rattle.redo_script.specs.Syntax.{Script}
use Rattle.redo_tree.specs.Tree.{Tree}
use Rattle.redo_which.specs.Rule.{Arguments}
use Rattle.redo_record.specs.declared.deps.Dep.{Dep}
use Rattle.redo_step.specs.declared.parsed.Parsed.{Parsed}
use Rattle.redo_step.specs.declared.place.StopPlace.{StopPlace}
use Rattle.redo_record.specs.Paths.{Path}
use Rattle.redo_step.specs.Setting.{Setting, setting_of}
use Rattle.redo_step.specs.Runs.{State}
use Rattle.redo_record.specs.Answers.{Ask}
use Rattle.redo_step.specs.Parsed.{parsed_of}
use Rattle.redo_step.specs.Place.{left_at}
use Rattle.redo_step.specs.Reach.{Fits}
use Rattle.redo_record.specs.Progress.{Progress}
use Rattle.redo_record.specs.Entries.{search_deps, with_all}
use Rattle.redo_step.specs.Results.{by_script}
use Rattle.redo_step.specs.Limits.{LimitsView}

-- a script for a target, where it stopped, what it has done, and how often it has stopped
pub record JobView : Type 0 where
  pub tree : Tree
  pub target : Path
  pub do_file : Path
  pub missing : List Path
  pub arguments : Arguments
  pub limits : LimitsView
  pub parsed : Parsed
  pub place : StopPlace
  pub state : State
  pub turn : ℕ

-- the setting of its script
abbrev pub job_setting : JobView → Setting
job_setting job = setting_of job.tree job.limits.file_bytes job.target job.arguments

-- the whole script, or the fault of its text
abbrev pub whole_of : JobView → Result Script ScriptFault
whole_of job = parsed_of job.parsed

-- the record of the search for its rule
abbrev pub found_deps : JobView → List Dep
found_deps job = search_deps job.missing job.do_file

-- how far the target comes by the whole script, given these answers
abbrev pub progress_of : JobView → Ask → Progress
progress_of job ask = by_script (job_setting job) (found_deps job) (whole_of job) ask

-- What is left of a script fits if the run of the whole script comes to it.
abbrev pub FitsWhole : Setting → Ask → Result Script ScriptFault → StopPlace → State → Type 0
FitsWhole setting ask (Err fault) place state = Unit {0}
FitsWhole setting ask (Ok script) place state = Fits setting ask script (left_at place setting script) state

-- a job fits these answers
abbrev pub IsFit : JobView → Ask → Type 0
IsFit job ask = FitsWhole (job_setting job) ask (whole_of job) job.place job.state

-- the record so far
abbrev pub record_so_far : JobView → List Dep
record_so_far job = with_all (found_deps job) job.state.entries
