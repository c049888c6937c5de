-- What was stored in a directory.
use Rattle.std.specs.Prelude.{◌≡◌, Bool, ℕ, List, IsUtf8, length, map, slice_get, take, is_some, Option, Some, None, Result, Ok, Err}
use Rattle.std.specs.List.{AllByRecursion}
use Rattle.std.specs.declared.io.ErrorKind.{ErrorKind}
use Rattle.redo_dir.specs.Own.{temporary_name}
use Rattle.redo_dir.specs.declared.changes.Change.{Change}
use Rattle.redo_dir.specs.declared.changes.Change.TheVariants as change
use Rattle.redo_dir.specs.declared.faults.StoreFault.{StoreFault}
use Rattle.redo_dir.specs.declared.faults.StoreFault.TheVariants.{Device, Name, Memory}
use Rattle.redo_tree.specs.Tree.{Tree, file_at}

-- a call that changed the directory, and that was answered well
pub data Step : Type 0 where
  -- the journal was written whole, with this text, and is on the disk
  Journals : List ℕ → Step
  -- a file got its name: its path, its bytes, and whether it was to take the place of one that had been listed
  Puts : List ℕ → List ℕ → Bool → Step
  -- the journal became the book
  Finishes : Step
  -- a file was removed
  Removes : List ℕ → Step

abbrev pub put_of : List ℕ × List ℕ → Bool → Step
put_of file over = Puts file.0 file.1 over

-- a temporary file has the name with this number of the run whose journal has that text
abbrev pub IsNamed : Option (List ℕ) → ℕ → List ℕ → Type 0
IsNamed (Some text) number name = name ≡ temporary_name text number
IsNamed None number name = ⊥

-- the step that a change of the directory is
abbrev pub step_of : Change → Step
step_of (change.Journal text) = Journals text
step_of (change.Put path content over) = put_of (path, content) over
step_of change.Finish = Finishes
step_of (change.Remove path) = Removes path

abbrev pub steps_of : List Change → List Step
steps_of changes = map step_of changes

-- a file that takes its place in a directory that was read as this tree
abbrev pub put_in : Tree → List ℕ × List ℕ → Step
put_in tree file = put_of file (is_some (file_at tree file.0))

-- files that take their places, one after another
abbrev pub puts_in : Tree → List (List ℕ × List ℕ) → List Step
puts_in tree files = map (put_in tree) files

-- the place in the list of the file that wasn't stored, counted from 0
abbrev pub place_of : StoreFault → ℕ
place_of (Device place kind) = place
place_of (Name place) = place
place_of (Memory place) = place

-- how many files of a list were stored
abbrev pub stored_count : Result (Unit {0}) StoreFault → List (List ℕ × List ℕ) → ℕ
stored_count (Ok x) files = length files
stored_count (Err fault) files = place_of fault

-- whether the path of that file is no text, or is
abbrev pub MeansPath : StoreFault → List ℕ → Type 0
MeansPath (Device place kind) path = IsUtf8 path
MeansPath (Name place) path = IsUtf8 path → ⊥
MeansPath (Memory place) path = IsUtf8 path

-- the paths of a list are text: all, or those before a fault, whose own path is one of the list
abbrev pub HasTexts : {A : Type 0} → Result A StoreFault → List (List ℕ) → Type 0
HasTexts (Ok x) paths = AllByRecursion IsUtf8 paths
HasTexts (Err fault) paths =
    (path : List ℕ) × (slice_get paths (place_of fault) ≡ Some path) × MeansPath fault path ×
    AllByRecursion IsUtf8 (take (place_of fault) paths)

-- where a file is told as refused, a call at its path was answered so
abbrev pub IsUnstored : (List ℕ → ErrorKind → Type 0) → List (List ℕ) → StoreFault → Type 0
IsUnstored told paths (Device place kind) =
    (path : List ℕ) × (slice_get paths place ≡ Some path) × told path kind
IsUnstored told paths (Name place) = Unit {0}
IsUnstored told paths (Memory place) = Unit {0}
