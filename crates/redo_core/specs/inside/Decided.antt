-- What is known of a decided target of a build.
use Rattle.std.specs.Prelude.{ℕ, Bool, List}
use Rattle.redo_record.specs.declared.deps.Dep.{Dep}
use Rattle.redo_record.specs.declared.outcome.Outcome.{Outcome}
use Rattle.redo_build.specs.inside.Turns.{IsFact}
use Rattle.redo_rules.specs.Build.{GivenView, rules_for}

-- by the build, the target comes to this outcome and this record, and its script is begun or not
abbrev pub IsDecided : GivenView → List ℕ → Outcome → List Dep → Bool → Type 0
IsDecided given target outcome deps begun =
    (asked : List Dep) × IsFact (rules_for given) target outcome asked deps begun
