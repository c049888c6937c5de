-- What a build is given, and what it comes to.
use Rattle.std.specs.Prelude.{◌≡◌, ℕ, List}
use Rattle.redo_build.specs.Outcomes.{IsTooMany}
use Rattle.redo_rules.specs.Build.{GivenView, rules_for}
use Rattle.redo_past.specs.NewBook.{IsResultOf}
use Rattle.redo_past.specs.Past.{IsPast, PastView, RefusesBook}
use Rattle.redo_book.specs.declared.faults.BookFault.TheVariants.{Line}
use Rattle.redo_report.specs.Reports.{IsReport}
use Rattle.redo_report.specs.declared.report.Report.{Report}
use Rattle.redo_step.specs.Limits.{LimitsView}
use Rattle.redo_tree.specs.Tree.{Tree}

-- the past of the tree: no tree has two, and one has none only if its book is refused
pub record IsOfTree (tree : Tree) (past : PastView) : Type 0 where
  pub is_past : IsPast past
  pub of_tree : past.tree ≡ tree

-- the build is given this tree as it was read, this request and these limits
pub record IsGiven (tree : Tree) (request : List (List ℕ)) (limits : LimitsView) (given : GivenView) : Type 0 where
  pub of_tree : IsOfTree tree given.past
  pub requested : given.request ≡ request
  pub within : given.limits ≡ limits

-- line n of the tree's book is the first at fault
abbrev pub IsRefused : Tree → ℕ → Type 0
IsRefused tree n = RefusesBook (Line n) tree

-- the report of the build of the sources, with the new book among its files
pub record IsResult (given : GivenView) (result : Report) : Type 0 where
  pub report : Report
  pub built : IsReport (rules_for given) given.request given.limits.targets report
  pub with_book : IsResultOf given.past report result

-- the same for the build of a tree
abbrev pub IsResultOn : Tree → List (List ℕ) → LimitsView → Report → Type 0
IsResultOn tree request limits result = (given : GivenView) × IsGiven tree request limits given × IsResult given result

-- the build of the tree's sources needs more targets than the limit
abbrev pub NeedsTooMany : Tree → List (List ℕ) → LimitsView → Type 0
NeedsTooMany tree request limits =
    (given : GivenView) × IsGiven tree request limits given ×
    IsTooMany (rules_for given) given.request given.limits.targets
