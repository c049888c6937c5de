-- The script of a work, read or not.
use Rattle.std.specs.Prelude.{◌≡◌, ℕ, List, []}
use Rattle.redo_record.specs.declared.outcome.Outcome.{Outcome}
use Rattle.redo_which.specs.Rule.{Found}
use Rattle.redo_step.specs.JobView.{JobView}
use Rattle.redo_record.specs.declared.deps.Dep.{Dep}
use Rattle.redo_rules.specs.Build.{GivenView}
use Rattle.redo_core.specs.inside.Works.{IsUnreadWork, IsWorkWith, all_asked, found_as, job_deps, known_in}
use Rattle.redo_core.specs.declared.facts.Facts.{Facts}
use Rattle.redo_core.specs.declared.work.ScriptStage.{ScriptStage}
use Rattle.redo_core.specs.declared.work.ScriptStage.TheVariants.{Unread, Begun}

abbrev pub script_target : ScriptStage → List ℕ
script_target (Unread unread) = unread.value.target
script_target (Begun begun) = begun.value.job.target

abbrev pub script_turn : ScriptStage → ℕ
script_turn (Unread unread) = 0
script_turn (Begun begun) = begun.value.job.turn

-- what was asked for: until the script first stops, by the check alone
abbrev pub script_deps : ScriptStage → List Dep
script_deps (Unread unread) = unread.value.facts.asked
script_deps (Begun begun) = all_asked begun.value.job begun.value.facts

abbrev pub script_known : ScriptStage → List (List ℕ × Outcome)
script_known (Unread unread) = known_in unread.value.facts
script_known (Begun begun) = known_in begun.value.facts

-- an unread script has the rule that the search finds; either has the outcomes of all that was asked for
abbrev pub IsScriptOf : GivenView → ScriptStage → Type 0
IsScriptOf given (Unread unread) =
    IsUnreadWork given unread.value.target (found_as unread.value.rule) unread.value.facts
IsScriptOf given (Begun begun) = IsWorkWith given begun.value.job begun.value.facts

-- the job of a target before its first statement; with what its check has learned it is a work
pub record IsFirstJob (given : GivenView) (target : List ℕ) (job : JobView) : Type 0 where
  pub of_target : job.target ≡ target
  pub at_first : job.turn ≡ 0
  pub none_recorded : job_deps job ≡ []
  pub is_work : (found : Found) (facts : Facts) → IsUnreadWork given target found facts → IsWorkWith given job facts
