-- What a directory holds after some steps of storing. That the system does what it answers well is the premise here: no
-- contract says it. A step that it hasn't answered yet was done or wasn't.
use Rattle.std.specs.Prelude.{◌≡◌, ◌≢◌, ◌↔◌, ◌⊎◌, ℕ, Bool, false, List, Option, Some, None, MatchOption}
use Rattle.std.specs.Prelude.{All, bytes_eq, fold, if◌then◌else◌}
use Rattle.redo_tree.specs.Tree.{Directory, File, IsTree, Node, Tree, file_at, node_at}
use Rattle.redo_dir.specs.Stored.{Finishes, Journals, Puts, Removes, Step}
use Rattle.redo_which.specs.Candidates.{book_path, journal_path}
use Rattle.redo_book.specs.Book.{IsText, Record}
use Rattle.redo_report.specs.declared.report.Report.{Report}
use Rattle.redo_rules.specs.Build.{GivenView}
use Rattle.redo_rules.specs.Results.{IsResult}
use Rattle.redo_dir.specs.Own.{is_own, is_temporary}
use Rattle.redo_mend.specs.Mended.{IsRecoveredTree, MendsTo}
use Rattle.redo_recover.specs.Broken.{IsBrokenOff, IsLeftAt, MayStore, journal_of}

-- what is at each path of a directory
abbrev pub Places : Type 0
Places = List ℕ → Option Node

-- what is there after a step
abbrev pub after_step : Places → Step → Places
after_step was (Journals text) p = if bytes_eq p journal_path then Some (File text) else was p
after_step was (Puts path bytes over) p = if bytes_eq p path then Some (File bytes) else was p
after_step was Finishes p =
    if bytes_eq p book_path then was journal_path else if bytes_eq p journal_path then None else was p
after_step was (Removes path) p = if bytes_eq p path then None else was p

-- and after some steps, one after another
abbrev pub after_steps : Places → List Step → Places
after_steps was steps = fold after_step was steps

-- the journal that temporary files are named by: the one that was written last, and none after it became the book or was
-- removed
abbrev pub named_after : Option (List ℕ) → Step → Option (List ℕ)
named_after named (Journals text) = Some text
named_after named (Puts path bytes over) = named
named_after named Finishes = None
named_after named (Removes path) = if bytes_eq path journal_path then None else named

abbrev pub named_by : Option (List ℕ) → List Step → Option (List ℕ)
named_by named steps = fold named_after named steps

-- the path may have a temporary file
abbrev pub is_free : Option (List ℕ) → List ℕ → Bool
is_free None p = false
is_free (Some text) p = is_temporary text p

-- a directory that held a tree may hold another one after some steps: at each path what the steps leave, but that
-- temporary files may be there or not. Before the steps these were named by this journal, if by any
pub record MayHold (named : Option (List ℕ)) (tree : Tree) (steps : List Step) (now : Tree) : Type 0 where
  pub is_tree : IsTree now
  pub at : (p : List ℕ) → is_free (named_by named steps) p ≡ false → node_at now p ≡ after_steps (node_at tree) steps p
  pub directories : (p : List ℕ) → (node_at now p ≡ Some Directory) ↔ (after_steps (node_at tree) steps p ≡ Some Directory)

-- the files are some that the run built, none of them the program's own
pub record IsToStore (given : GivenView) (result : Report) (is : IsResult given result) (file : List ℕ × List ℕ) : Type 0 where
  pub may : MayStore given result is file.0 file.1
  pub no_book : file.0 ≢ book_path
  pub not_own : is_own (journal_of given result is) file.0 ≡ false

-- a run has stored its files: the book is its new one, there is no journal, and each other path has what it had or what
-- was to be stored
pub record IsFinished (given : GivenView) (result : Report) (is : IsResult given result) (now : Tree) : Type 0 where
  pub is_tree : IsTree now
  pub book : file_at now book_path ≡ Some (journal_of given result is)
  pub journal : node_at now journal_path ≡ None
  pub others : (p : List ℕ) → p ≢ book_path → p ≢ journal_path → IsLeftAt given result is now p

-- a directory while a run stores: the next run goes on with the tree that this run had, or this run is broken off, or it
-- has stored its files
abbrev pub IsStage : (given : GivenView) (result : Report) → IsResult given result → Tree → Type 0
IsStage given result is now =
    MendsTo now given.past.tree ⊎ (IsBrokenOff given result is now ⊎ IsFinished given result is now)

-- no record of a book tells of the book's own path or of a file that is the program's own
abbrev pub TellsOfOthers : List ℕ → List Record → Type 0
TellsOfOthers text book = All (λ r. (r.target ≢ book_path) × (is_own text r.target ≡ false)) book

-- where a tree has a journal this holds of it and of the old book
abbrev pub IsOfOthers : Tree → Type 0
IsOfOthers tree =
    (text content : List ℕ) (book : List Record) → file_at tree journal_path ≡ Some text →
    (file_at tree journal_path ≡ Some content) ⊎ (file_at tree book_path ≡ Some content) → IsText content book →
    TellsOfOthers text book

-- a run goes on with this tree after another one was broken off, and names its temporary files by the journal that it
-- found, if by any
abbrev pub IsFound : Tree → Tree → Option (List ℕ) → Type 0
IsFound tree mended named =
    MatchOption named (Unit {0}) (λ text. (file_at tree journal_path ≡ Some text) × IsRecoveredTree tree text mended)
