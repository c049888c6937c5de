-- What the run after a broken-off one comes to.
use Rattle.std.specs.Prelude.{ℕ, List, All}
use Rattle.redo_tree.specs.Tree.{Tree}
use Rattle.redo_report.specs.declared.report.Report.{Report}
use Rattle.redo_rules.specs.Build.{GivenView}
use Rattle.redo_rules.specs.Results.{IsGiven, IsResult, IsResultOn}
use Rattle.redo_rules.specs.TreeSources.{IsTrueOfTrees}
use Rattle.redo_run.specs.Skipping.{Agrees, KeepsSafely}
use Rattle.redo_step.specs.Limits.{LimitsView}

-- the results of all builds that are given this tree come to what the build of these sources alone comes to, wherever
-- keeping is safe, and leave books of true records
pub record IsAsFromNothing (sources tree : Tree) (request : List (List ℕ)) (limits : LimitsView) (result : Report) : Type 0 where
  pub agrees : (given : GivenView) → IsGiven tree request limits given → KeepsSafely given → (plain : Report) →
      IsResultOn sources request limits plain → Agrees result plain
  pub true_again : (given : GivenView) → IsGiven tree request limits given →
      All (IsTrueOfTrees limits.file_bytes) given.past.book → (is : IsResult given result) →
      All (IsTrueOfTrees limits.file_bytes) is.with_book.book
