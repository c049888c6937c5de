-- What a run that keeps targets comes to, beside a run over the sources alone.
use Rattle.std.specs.Prelude.{◌≡◌, ◌≤◌, ℕ, List, All, bytes_eq, filter, length, map, not}
use Rattle.std.specs.Arc.{arc_value}
use Rattle.redo_build.specs.Outcomes.{needed_at}
use Rattle.redo_record.specs.Paths.{IsAmong}
use Rattle.redo_record.specs.declared.deps.Dep.{Dep}
use Rattle.redo_record.specs.declared.outcome.Outcome.{Outcome}
use Rattle.redo_report.specs.declared.report.Report.{Report}
use Rattle.redo_report.specs.declared.report.Row.{Row}
use Rattle.redo_rules.specs.Build.{GivenView, plain_rules_for}
use Rattle.redo_rules.specs.Results.{IsGiven, IsResult, IsResultOn}
use Rattle.redo_rules.specs.TreeSources.{HasHonestBook, IsTrueOfTrees}
use Rattle.redo_skip.specs.Truth.{NoneCyclic}
use Rattle.redo_step.specs.Limits.{LimitsView}
use Rattle.redo_tree.specs.Tree.{Tree}
use Rattle.redo_which.specs.Candidates.{book_path}

-- keeping is safe: without the book, no more targets are needed than the limit allows, and none is cyclic; and the book
-- is honest
pub record KeepsSafely (given : GivenView) : Type 0 where
  pub within : length (needed_at (plain_rules_for given) given.request given.limits.targets) ≤ given.limits.targets
  pub none_cyclic : NoneCyclic (plain_rules_for given) given.request given.limits.targets
  pub honest : HasHonestBook given

-- what a row says: its path, the outcome and the record
abbrev pub told_by_row : Row → List ℕ × (Outcome × List Dep)
told_by_row row = (row.path, (row.outcome, arc_value row.deps))

-- the files without the book
abbrev pub but_book : List (List ℕ × List ℕ) → List (List ℕ × List ℕ)
but_book files = filter (λ f. not (bytes_eq f.0 book_path)) files

-- the first report has the same outcomes, records and files as the second, and no other begun scripts
pub record Agrees (kept plain : Report) : Type 0 where
  pub rows : map told_by_row kept.rows.items ≡ map told_by_row plain.rows.items
  pub files : but_book kept.files.items ≡ but_book plain.files.items
  pub begun : (p : List ℕ) → IsAmong kept.begun.items p → IsAmong plain.begun.items p

-- if keeping is safe, the result agrees with that of the build of the sources alone; if all records of the last book
-- are true, so are those of the new one
pub record IsSoundFor (given : GivenView) (result : Report) : Type 0 where
  pub agrees : KeepsSafely given → (plain : Report) →
      IsResultOn given.past.sources given.request given.limits plain → Agrees result plain
  pub true_again : All (IsTrueOfTrees given.limits.file_bytes) given.past.book → (is : IsResult given result) →
      All (IsTrueOfTrees given.limits.file_bytes) is.with_book.book

-- the same for a tree, a request and limits
abbrev pub IsSoundOn : Tree → List (List ℕ) → LimitsView → Report → Type 0
IsSoundOn tree request limits result =
    (given : GivenView) → IsGiven tree request limits given → IsSoundFor given result

-- keeping isn't safe over this tree
abbrev pub IsUnsafeOn : Tree → List (List ℕ) → LimitsView → Type 0
IsUnsafeOn tree request limits = (given : GivenView) → IsGiven tree request limits given → KeepsSafely given → ⊥
