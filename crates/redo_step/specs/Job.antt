-- A job that is begun, and what an advance promises.
use Rattle.std.specs.Prelude.{◌≡◌, ℕ, ◌+◌, List, Some, None, Ok}
use Rattle.redo_script.specs.Syntax.{Script}
use Rattle.redo_tree.specs.Tree.{Tree}
use Rattle.redo_which.specs.declared.Rule.{Rule}
use Rattle.redo_which.specs.Views.{arguments_view}
use Rattle.redo_step.specs.declared.parsed.Parsed.{Parsed}
use Rattle.redo_step.specs.declared.place.StopPlace.{StopPlace, Before}
use Rattle.redo_step.specs.declared.job.Done.{Done}
use Rattle.redo_step.specs.declared.job.Step.{Step}
use Rattle.redo_step.specs.declared.job.Step.TheVariants as steps
use Rattle.redo_record.specs.Paths.{Path}
use Rattle.redo_record.specs.Answers.{Ask}
use Rattle.redo_step.specs.Runs.{State, start, stopped, ends}
use Rattle.redo_step.specs.Statements.{meaning}
use Rattle.redo_step.specs.Reach.{Keeps}
use Rattle.redo_step.specs.JobView.{JobView, job_setting, whole_of, progress_of, IsFit, record_so_far}
use Rattle.redo_step.specs.Limits.{LimitsView}

-- a job that has just begun
abbrev pub begun : Tree → Path → Rule → Parsed → LimitsView → JobView
begun tree target rule parsed limits = record {
  tree = tree;
  target = target;
  do_file = rule.do_file;
  missing = rule.missing;
  arguments = arguments_view rule.args;
  limits = limits;
  parsed = parsed;
  place = Before 0;
  state = start;
  turn = 0;
}

-- the same job, further on
abbrev pub with_rest : JobView → StopPlace → State → ℕ → JobView
with_rest job place state turn = record job { place = place; state = state; turn = turn }

-- The script has ended: the target's outcome and its record are those of the whole script.
abbrev pub EndsAs : Ask → JobView → Done → Type 0
EndsAs ask job done = progress_of job ask ≡ record { outcome = Some done.outcome; deps = done.deps }

-- The script lacks answers: the run of the whole script stops for want of exactly these, in the state that the job now
-- has. The job is the same, one turn later, and fits any answers that keep the known ones.
pub record AsksFor (ask : Ask) (job later : JobView) (paths : List Path) : Type 0 where
  pub script : Script
  pub whole : whole_of job ≡ Ok script
  pub lacks : meaning (job_setting job) ask script ≡ ends (stopped paths) later.state
  pub same : later ≡ with_rest job later.place later.state (job.turn + 1)
  pub fits : (ask' : Ask) → Keeps (job_setting job) later.state.entries ask ask' → IsFit later ask'
  pub progress : progress_of job ask ≡ record { outcome = None; deps = record_so_far later }

-- what an advance came to
abbrev pub Advances : Ask → JobView → Step → Type 0
Advances ask job (steps.Ended done) = EndsAs ask job done
Advances ask job (steps.Asks later paths) = AsksFor ask job later paths.items
