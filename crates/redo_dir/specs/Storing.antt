-- How a run stores: by a journal, so that the next run knows its files where it is broken off.
use Rattle.std.specs.Prelude.{◌≡◌, ◌++◌, ℕ, suc, Bool, List, [], ◌∷◌, Option, Some, None, Result, Ok, Err, length, map}
use Rattle.std.specs.Prelude.{slice_get}
use Rattle.std.specs.List.{AllByRecursion}
use Rattle.std.specs.declared.io.ErrorKind.{ErrorKind}
use Rattle.redo_tree.specs.Tree.{Tree}
use Rattle.redo_which.specs.Candidates.{book_path, journal_path}
use Rattle.redo_dir.specs.Stored.{Finishes, HasTexts, IsUnstored, Journals, Removes, Step, place_of, put_of, puts_in}
use Rattle.redo_dir.specs.declared.faults.JournalFault.{JournalFault}
use Rattle.redo_dir.specs.declared.faults.JournalFault.TheVariants.{Journal, File}
use Rattle.redo_dir.specs.declared.faults.StoreFault.{StoreFault}
use Rattle.redo_dir.specs.declared.faults.StoreFault.TheVariants.{Device, Name, Memory}

-- the steps by which files are stored in a directory that was read as this tree: the journal gets the new book's text,
-- the files get their names, and the journal becomes the book
abbrev pub steps_to_store : Tree → List ℕ → List (List ℕ × List ℕ) → List Step
steps_to_store tree book files = Journals book ∷ (puts_in tree files ++ Finishes ∷ [])

-- how many of them were done
abbrev pub steps_done : Result (Unit {0}) JournalFault → List (List ℕ × List ℕ) → ℕ
steps_done (Ok x) files = suc (suc (length files))
steps_done (Err (Journal kind)) files = 0
steps_done (Err (File fault)) files = suc (place_of fault)

-- the paths that get something new, the book's behind all others
abbrev pub paths_to_store : List (List ℕ × List ℕ) → List (List ℕ)
paths_to_store files = map (λ f. f.0) files ++ book_path ∷ []

-- the paths of a list are text, so far as it was stored
abbrev pub HasTextsByJournal : Result (Unit {0}) JournalFault → List (List ℕ) → Type 0
HasTextsByJournal (Ok x) paths = HasTexts {A = Unit {0}} (Ok x) paths
HasTextsByJournal (Err (Journal kind)) paths = Unit {0}
HasTextsByJournal (Err (File fault)) paths = HasTexts {A = Unit {0}} (Err fault) paths

-- where the journal or a file is told as refused, a call at its path was answered so
abbrev pub IsUnstoredByJournal : (List ℕ → ErrorKind → Type 0) → List (List ℕ) → JournalFault → Type 0
IsUnstoredByJournal told paths (Journal kind) = told journal_path kind
IsUnstoredByJournal told paths (File fault) = IsUnstored told paths fault

-- the steps by which is cleared away what a run has left that was broken off: the recovered book gets its name, unless it
-- stands there, and the program's own files are removed
abbrev pub steps_to_clear : Bool → Option (List ℕ) → List (List ℕ) → List Step
steps_to_clear over None own = map Removes own
steps_to_clear over (Some text) own = put_of (book_path, text) over ∷ map Removes own

-- the paths of these steps
abbrev pub paths_to_clear : Option (List ℕ) → List (List ℕ) → List (List ℕ)
paths_to_clear None own = own
paths_to_clear (Some text) own = book_path ∷ own

-- how many of them were done
abbrev pub cleared_count : Result (Unit {0}) StoreFault → List (List ℕ) → ℕ
cleared_count (Ok x) paths = length paths
cleared_count (Err fault) paths = place_of fault

-- The last of these steps was done once the files at some paths were on the disk, with their names: they were when all
-- steps before it had been done, and no other.
pub record IsSettled {D : Type 0} (done : D → List Step) (settled : D → List ℕ → Type 0) (paths : List (List ℕ)) (steps : List Step) : Type 0 where
  pub front : List Step
  pub last : Step
  pub are : steps ≡ front ++ last ∷ []
  pub dir : D
  pub when : done dir ≡ front
  pub each : AllByRecursion (settled dir) paths

-- where it can't be cleared away, a call at the path of that step was refused, or memory ran out
abbrev pub IsUncleared : (List ℕ → ErrorKind → Type 0) → List (List ℕ) → StoreFault → Type 0
IsUncleared told paths (Device place kind) = (path : List ℕ) × (slice_get paths place ≡ Some path) × told path kind
IsUncleared told paths (Name place) = ⊥
IsUncleared told paths (Memory place) = Unit {0}
