-- Whether a run went well.
use Rattle.std.specs.Prelude.{◌≡◌, ◌↔◌, Bool, true, false, not, ◌&&◌, ℕ, List}
use Rattle.redo_build.specs.Outcomes.{final_outcome}
use Rattle.redo_record.specs.Paths.{IsAmong, is_among}
use Rattle.redo_build.specs.Rules.{Rules}
use Rattle.redo_rules.specs.Build.{GivenView, rules_for}
use Rattle.redo_report.specs.declared.report.Row.{Row}
use Rattle.redo_run.specs.declared.exit.Exit.{Exit}
use Rattle.redo_run.specs.declared.exit.Exit.TheVariants.{Good}
use Rattle.redo_record.specs.declared.outcome.Outcome.{Outcome}
use Rattle.redo_record.specs.declared.outcome.Outcome.TheVariants.{Source, Built, Failed, Cyclic}

-- the outcome is source or built
abbrev pub is_made : Outcome → Bool
is_made Source = true
is_made (Built bytes) = true
is_made (Failed why) = false
is_made Cyclic = false

-- every requested path is a source or built
abbrev pub AllAreMade : Rules → ℕ → List (List ℕ) → Type 0
AllAreMade r limit request = (p : List ℕ) → IsAmong request p → is_made (final_outcome r limit p) ≡ true

-- a run is good exactly if every requested path is a source or built
abbrev pub IsExit : Rules → ℕ → List (List ℕ) → Exit → Type 0
IsExit r limit request exit = (exit ≡ Good) ↔ AllAreMade r limit request

-- the same for a build that is given this
abbrev pub IsExitOf : GivenView → Exit → Type 0
IsExitOf given exit = IsExit (rules_for given) given.limits.targets given.request exit

-- the row is of one of these paths, and is neither source nor built
abbrev pub fails : List (List ℕ) → Row → Bool
fails paths row = not (is_made row.outcome) && is_among paths row.path
