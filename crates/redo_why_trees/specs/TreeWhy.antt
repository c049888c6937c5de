-- Reasons and lists over a tree as it was read.
use Rattle.std.specs.Prelude.{◌≡◌, ◌⊎◌, ◌≤◌, ℕ, false, List, Option, Some, All, Contains, length}
use Rattle.redo_record.specs.Paths.{IsAmong, is_among}
use Rattle.redo_record.specs.declared.outcome.Outcome.{Outcome}
use Rattle.redo_record.specs.declared.outcome.Outcome.TheVariants.{Built, Cyclic}
use Rattle.redo_tree.specs.Tree.{file_at}
use Rattle.redo_build.specs.Rules.{Ask}
use Rattle.redo_build.specs.Outcomes.{needed_at}
use Rattle.redo_report.specs.declared.report.Report.{Report}
use Rattle.redo_report.specs.declared.report.Row.{Row}
use Rattle.redo_why.specs.Reasons.{Reason, reason_of}
use Rattle.redo_why.specs.OutOfDate.{IsLeftAlone, Word, listed}
use Rattle.redo_rules.specs.Build.{GivenView, last_run_of, plain_rules_for, rules_for, sources_for}
use Rattle.redo_rules.specs.TreeSources.{HasHonestBook}

-- an ask tells the outcomes of a report's rows
abbrev pub TellsOf : Report → Ask → Type 0
TellsOf report b = All (λ row. b row.path ≡ Some row.outcome) report.rows.items

-- the reason for which a script was begun, given these answers
abbrev pub reason_for : GivenView → Ask → List ℕ → Option Reason
reason_for given b p = reason_of (sources_for given) (last_run_of given.past) given.request b p

-- what is listed of a path
abbrev pub listed_for : GivenView → List ℕ → Option Word
listed_for given p = listed (sources_for given) (last_run_of given.past) p

-- the book is honest, the build without it keeps to the limit, and the target isn't requested
pub record IsHonestFor (given : GivenView) (p : List ℕ) : Type 0 where
  pub few : length (needed_at (plain_rules_for given) given.request given.limits.targets) ≤ given.limits.targets
  pub unasked : is_among given.request p ≡ false
  pub honest : HasHonestBook given

-- a build needs the target and doesn't request it; it requests nothing that the target rests on, or the book is honest
pub record IsNeededFor (given : GivenView) (p : List ℕ) : Type 0 where
  pub needed : IsAmong (needed_at (rules_for given) given.request given.limits.targets) p
  pub free : IsLeftAlone (sources_for given) (last_run_of given.past) given.request p ⊎ IsHonestFor given p

-- What a report says of a target

-- what became of it
pub record IsTold (report : Report) (p : List ℕ) (became : Outcome) : Type 0 where
  pub row : Row
  pub there : Contains report.rows.items row
  pub path : row.path ≡ p
  pub outcome : row.outcome ≡ became

-- it was kept: it counts as built with the file that the tree has, and its script wasn't begun
pub record IsToldKept (given : GivenView) (report : Report) (p : List ℕ) : Type 0 where
  pub built : IsTold report p (Built (file_at given.past.tree p))
  pub unbegun : IsAmong report.begun.items p → ⊥

-- it is cyclic, and its script wasn't begun
pub record IsToldCyclic (report : Report) (p : List ℕ) : Type 0 where
  pub cyclic : IsTold report p Cyclic
  pub unbegun : IsAmong report.begun.items p → ⊥
