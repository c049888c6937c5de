-- The begun scripts that have a reason.
use Rattle.std.specs.Prelude.{ℕ, List, Option, filter_map, option_map}
use Rattle.redo_report.specs.declared.report.Row.{Row}
use Rattle.redo_past.specs.Past.{PastView}
use Rattle.redo_rules.specs.Build.{last_run_of}
use Rattle.redo_why.specs.Reasons.{Reason, reason_of}
use Rattle.redo_explain.specs.inside.Told.{sources_in, told_by}

-- a target with its reason, if it has one
abbrev pub begun_at : (List ℕ → Option Reason) → List ℕ → Option (List ℕ × Reason)
begun_at reason target = option_map (λ why. (target, why)) (reason target)

-- the reason of a target, by the past, the requested paths and the rows
abbrev pub reason_in : PastView → List (List ℕ) → List Row → List ℕ → Option Reason
reason_in past requested rows target = reason_of (sources_in past) (last_run_of past) requested (told_by rows) target

-- those of these targets that have a reason, with it
abbrev pub begun_in : PastView → List (List ℕ) → List Row → List (List ℕ) → List (List ℕ × Reason)
begun_in past requested rows targets = filter_map (begun_at (reason_in past requested rows)) targets
