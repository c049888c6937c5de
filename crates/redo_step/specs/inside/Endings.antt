-- What the parts of an advance make of an ended script.
use Rattle.std.specs.Prelude.{◌≡◌, ℕ, List, [], Option, Some, option_map}
use Rattle.std.specs.declared.vec.Vec.{Vec}
use Rattle.std.specs.declared.alloc.Global.{Global}
use Rattle.redo_script.specs.declared.fault.ScriptFault.{ScriptFault}
use Rattle.redo_record.specs.declared.deps.Dep.{Dep}
use Rattle.redo_step.specs.declared.job.Step.{Step}
use Rattle.redo_step.specs.declared.job.Step.TheVariants as steps
use Rattle.redo_record.specs.declared.outcome.Outcome.TheVariants.{Failed}
use Rattle.redo_record.specs.declared.outcome.Why.TheVariants as why
use Rattle.redo_step.specs.Runs.{End, Run, ends}
use Rattle.redo_step.specs.Statements.{Made, by_outputs}
use Rattle.redo_record.specs.Progress.{at_once}
use Rattle.redo_step.specs.Results.{after_run}

-- a step that ended with the fault of its script's text
abbrev pub IsRefused : List Dep → ScriptFault → Step → Type 0
IsRefused deps fault (steps.Ended done) =
    record { outcome = Some done.outcome; deps = done.deps } ≡ at_once (Failed (why.Script fault)) deps
IsRefused deps fault (steps.Asks job paths) = ⊥

-- a step that ended as this run
abbrev pub IsEnded : List Dep → Run → Step → Type 0
IsEnded deps run (steps.Ended done) = record { outcome = Some done.outcome; deps = done.deps } ≡ after_run deps run
IsEnded deps run (steps.Asks job paths) = ⊥

-- what a script with status 0 made, by its outputs
abbrev pub by_both : Vec ℕ Global → Option (Vec ℕ Global) → Made
by_both output third = by_outputs output.items (option_map (λ v. v.items) third)

-- a run that ended so, with these outputs
abbrev pub after_end : End → Vec ℕ Global → Option (Vec ℕ Global) → Run
after_end e output third =
    ends e (record { output = output.items; third = option_map (λ v. v.items) third; entries = [] })
