-- How far a piece says that its job came.
use Rattle.std.specs.Prelude.{◌≡◌, ℕ, List, Some, None}
use Rattle.redo_step.specs.JobView.{record_so_far}
use Rattle.redo_record.specs.Entries.{with_all}
use Rattle.redo_record.specs.Progress.{Progress}
use Rattle.redo_rules.specs.Build.{GivenView, rules_for}
use Rattle.redo_build.specs.inside.Turns.{IsPiece}
use Rattle.redo_core.specs.inside.Works.{IsStopped, waited_by}
use Rattle.redo_core.specs.declared.work.End.{End}
use Rattle.redo_core.specs.declared.work.End.TheVariants.{Ended, Stopped}

abbrev pub end_progress : End → Progress
end_progress (Ended fact asked) = record { outcome = Some fact.outcome; deps = with_all asked fact.deps }
end_progress (Stopped begun paths) =
    record { outcome = None; deps = with_all begun.value.facts.asked (record_so_far begun.value.job) }

-- what an end holds is of its target, and the paths are those that its script waits for
abbrev pub IsEndOf : GivenView → ℕ → ℕ → List ℕ → ℕ → End → Type 0
IsEndOf given depth looks target turn (Ended fact asked) =
    (fact.given ≡ given) × (fact.target ≡ target)
IsEndOf given depth looks target turn (Stopped begun paths) =
    IsStopped given depth looks target turn begun.value.job begun.value.facts ×
    (paths.items ≡ waited_by (rules_for given) begun.value)

-- the end says how far the script of a target comes at a turn, and holds what is left of it
pub record IsEndAt (given : GivenView) (target : List ℕ) (turn : ℕ) (end : End) : Type 0 where
  pub is_piece : IsPiece (rules_for given) target turn (end_progress end)
  pub is_end : IsEndOf given is_piece.depth is_piece.looks target turn end
