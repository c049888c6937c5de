-- What a build may answer over a tree, and when two reports, and two answers, are the same.
use Rattle.std.specs.Prelude.{◌≡◌, ℕ, List, Result, Ok, Err, map}
use Rattle.redo_report.specs.declared.report.Report.{Report}
use Rattle.redo_rules.specs.Results.{IsRefused, IsResultOn, NeedsTooMany}
use Rattle.redo_run.specs.Skipping.{told_by_row}
use Rattle.redo_core.specs.declared.opening.OpenFault.{OpenFault as RunFault}
use Rattle.redo_core.specs.declared.opening.OpenFault.TheVariants.{Book, TooMany, Memory}
use Rattle.redo_step.specs.Limits.{LimitsView}
use Rattle.redo_tree.specs.Tree.{Tree}

-- two reports have the same rows, by paths, outcomes and records, the same files with their bytes, and the same begun
-- scripts, each in the same order
pub record AreSameReports (one other : Report) : Type 0 where
  pub rows : map told_by_row one.rows.items ≡ map told_by_row other.rows.items
  pub files : one.files.items ≡ other.files.items
  pub begun : one.begun.items ≡ other.begun.items

-- a build of a tree may answer with its report, or that the book is refused for this line or too many targets are needed,
-- where that is so, or that memory ran out
abbrev pub MayAnswer : Tree → List (List ℕ) → LimitsView → Result Report RunFault → Type 0
MayAnswer tree request limits (Ok report) = IsResultOn tree request limits report
MayAnswer tree request limits (Err (Book n)) = IsRefused tree n
MayAnswer tree request limits (Err TooMany) = NeedsTooMany tree request limits
MayAnswer tree request limits (Err Memory) = Unit {0}

-- two answers are the same report, or refuse the book for the same line, or both say that too many targets are needed; or
-- memory ran out in one of them
abbrev pub AreSameAnswers : Result Report RunFault → Result Report RunFault → Type 0
AreSameAnswers (Ok one) (Ok other) = AreSameReports one other
AreSameAnswers (Err (Book n)) (Err (Book m)) = n ≡ m
AreSameAnswers (Err TooMany) (Err TooMany) = Unit {0}
AreSameAnswers (Err Memory) other = Unit {0}
AreSameAnswers one (Err Memory) = Unit {0}
AreSameAnswers one other = ⊥

-- what a build by many answers, without its ledger
abbrev pub without_ledger : {L : Type 0} → Result (Report × L) RunFault → Result Report RunFault
without_ledger (Ok made) = Ok made.0
without_ledger (Err fault) = Err fault
