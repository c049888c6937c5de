-- What is known of paths during a build.
use Rattle.std.specs.Prelude.{ℕ, Bool, true, false, List, Option, Some, None}
use Rattle.redo_record.specs.declared.outcome.Outcome.{Outcome}
use Rattle.redo_record.specs.declared.outcome.Outcome.TheVariants as outcomes
use Rattle.redo_record.specs.Paths.{Path}

-- what is known of each path that is no source, if anything is
abbrev pub Ask : Type 0
Ask = Path → Option Outcome

-- the file that a path was built with, if any
abbrev pub file_in : Outcome → Option (List ℕ)
file_in outcomes.Source = None
file_in (outcomes.Built file) = file
file_in (outcomes.Failed w) = None
file_in outcomes.Cyclic = None

-- whether an answer is that of a failed or cyclic target
abbrev pub is_failure : Option Outcome → Bool
is_failure None = false
is_failure (Some outcomes.Source) = false
is_failure (Some (outcomes.Built file)) = false
is_failure (Some (outcomes.Failed w)) = true
is_failure (Some outcomes.Cyclic) = true
