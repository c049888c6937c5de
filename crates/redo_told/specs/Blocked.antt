-- What blocks a target.
use Rattle.std.specs.Prelude.{Bool, true, false, ℕ, List, [], Some, filter, if◌then◌else◌, map}
use Rattle.std.specs.Arc.{arc_value}
use Rattle.redo_record.specs.Answers.{is_failure}
use Rattle.redo_record.specs.Progress.{changes}
use Rattle.redo_record.specs.declared.outcome.Outcome.{Outcome}
use Rattle.redo_record.specs.declared.outcome.Outcome.TheVariants as outcomes
use Rattle.redo_record.specs.declared.outcome.Why.TheVariants as whys
use Rattle.redo_report.specs.declared.report.Row.{Row}

-- a row's target failed or is cyclic
abbrev pub has_failed : Row → Bool
has_failed row = is_failure (Some row.outcome)

-- the paths of the rows whose targets failed or are cyclic
abbrev pub failed_paths : List Row → List (List ℕ)
failed_paths rows = map (λ row. row.path) (filter has_failed rows)

-- a target failed because something that it needs did
abbrev pub is_blocked : Outcome → Bool
is_blocked (outcomes.Failed (whys.Depends line)) = true
is_blocked _ = false

-- the paths that block a row's target, if it failed because of them: those of its record's change entries that failed
abbrev pub blockers : (List ℕ → Bool) → Row → List (List ℕ)
blockers failed row = if is_blocked row.outcome then filter failed (changes (arc_value row.deps)) else []
