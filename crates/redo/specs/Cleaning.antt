-- By which plan a directory is cleaned.
use Rattle.std.specs.Prelude.{◌≡◌, List, Option, is_some}
use Rattle.std.specs.declared.io.ErrorKind.{ErrorKind}
use Rattle.redo_tree.specs.Tree.{Node, file_at}
use Rattle.redo_which.specs.Candidates.{book_path}
use Rattle.redo_dir.specs.Stored.{Step}
use Rattle.redo_clean.specs.Cleaned.{Answers, IsCleaned}
use Rattle.redo_clean.specs.Planned.{changed_targets, generated_files}
use Rattle.redo_clean.specs.declared.fate.Fate.{Fate}
use Rattle.redo_clean.specs.declared.planning.CleanPlan.{CleanPlan}
use Rattle.redo_run.specs.declared.opening.Opened.{Opened}

-- the plan of what was opened of a directory
pub record IsPlanOf (is_opened : Opened → Type 0) (plan : CleanPlan) : Type 0 where
  pub opened : Opened
  pub is : is_opened opened
  pub left : plan.left ≡ opened.left
  pub over : plan.over ≡ opened.over
  pub generated : plan.generated.items ≡ generated_files opened.past
  pub changed : plan.changed.items ≡ changed_targets opened.past
  pub book : plan.book ≡ is_some (file_at opened.past.tree book_path)

-- what the plan names was removed, where it still had its bytes, and nothing else
abbrev pub IsDoneBy : Answers (Option Node) → Answers ErrorKind → CleanPlan → List Step → List Step → Type 0
IsDoneBy leads refuses plan before after = (fates : List Fate) × IsCleaned leads refuses plan before after fates
