-- Why each script of a build was begun.
use Rattle.std.specs.Prelude.{◌≡◌, ℕ, List, Some, flat_map, map}
use Rattle.std.specs.List.{AllByRecursion}
use Rattle.redo_which.specs.Rule.{found_of}
use Rattle.redo_build.specs.Outcomes.{outcome_at}
use Rattle.redo_report.specs.declared.report.Report.{Report}
use Rattle.redo_rules.specs.Build.{GivenView, rules_for}
use Rattle.redo_why.specs.Reasons.{Reason}
use Rattle.redo_why_trees.specs.TreeWhy.{reason_for}
use Rattle.redo_explain.specs.Words.{reason_line}

-- the targets whose scripts a build began, in the report's order, each with the reason for which it was begun
pub record AreReasons (given : GivenView) (report : Report) (begun : List (List ℕ × Reason)) : Type 0 where
  pub targets : map (λ b. b.0) begun ≡ report.begun.items
  pub each :
      AllByRecursion (λ b. reason_for given (outcome_at (rules_for given) given.limits.targets) b.0 ≡ Some b.1) begun

-- the text has a line for each of them, and no other
pub record IsExplained (given : GivenView) (report : Report) (text : List ℕ) : Type 0 where
  pub begun : List (List ℕ × Reason)
  pub are : AreReasons given report begun
  pub lines : text ≡ flat_map (reason_line (found_of given.past.sources)) begun
