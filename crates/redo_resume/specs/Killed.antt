-- What a run that is killed had to store.
use Rattle.std.specs.Prelude.{◌≡◌, ◌≢◌, ℕ, true, false, List, None, Some, All}
use Rattle.redo_tree.specs.Tree.{Directory, Tree, node_at}
use Rattle.redo_which.specs.Candidates.{journal_path}
use Rattle.redo_dir.specs.Own.{is_own, is_temporary}

-- in the tree nothing is in the way of a run that is to store files by a journal of this text: no journal, nothing at a
-- temporary name, and no directory where a file goes; and no file that it stores is one of the program's own
pub record IsClear (tree : Tree) (text : List ℕ) (files : List (List ℕ × List ℕ)) : Type 0 where
  pub no_journal : node_at tree journal_path ≡ None
  pub no_temporary : (p : List ℕ) → is_temporary text p ≡ true → node_at tree p ≡ None
  pub no_directory : All (λ f. node_at tree f.0 ≢ Some Directory) files
  pub not_own : All (λ f. is_own text f.0 ≡ false) files
