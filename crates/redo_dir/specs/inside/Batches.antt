-- Files that are stored together: first all are written under temporary names, and then they get their own.
use Rattle.std.specs.Prelude.{◌≡◌, ◌<◌, Bool, ℕ, List, [], ◌∷◌, ◌++◌, IfErr, IfOk, IsUtf8, OnOk, Some, Result, Ok, Err}
use Rattle.std.specs.Prelude.{length, map, slice_get, take}
use Rattle.std.specs.List.{AllByRecursion}
use Rattle.std.specs.declared.io.ErrorKind.{ErrorKind}
use Rattle.std.specs.declared.io.ErrorKind.TheVariants.{OutOfMemory}
use Rattle.redo_tree.specs.Tree.{Tree}
use Rattle.redo_dir.specs.declared.drafts.Draft.{Draft}
use Rattle.redo_dir.specs.declared.faults.StoreFault.{StoreFault}
use Rattle.redo_dir.specs.declared.faults.StoreFault.TheVariants as fault
use Rattle.redo_dir.specs.declared.unwritten.Unwritten.{Unwritten}
use Rattle.redo_dir.specs.declared.unwritten.Unwritten.TheVariants.{Device, Name, Memory}
use Rattle.redo_dir.specs.Stored.{Step, put_in, put_of}

-- files by their paths in the tree, with their bytes
abbrev pub Files : Type 0
Files = List (List ℕ × List ℕ)

abbrev pub paths_of : Files → List (List ℕ)
paths_of files = map (λ file. file.0) files

-- which calls were refused: at this path, by this error
abbrev pub Refusals : Type 1
Refusals = List ℕ → ErrorKind → Type 0

-- what an error of the system means of a file
abbrev pub unwritten_by : ErrorKind → Unwritten
unwritten_by OutOfMemory = Memory
unwritten_by kind = Device kind

-- the fault of the file at a place of the list
abbrev pub fault_at : Unwritten → ℕ → StoreFault
fault_at (Device kind) place = fault.Device place kind
fault_at Name place = fault.Name place
fault_at Memory place = fault.Memory place

-- a file was written or not, whose path is text, but exactly where it isn't that is said
abbrev pub MeansText : {A : Type 0} → Result A Unwritten → List ℕ → Type 0
MeansText (Ok x) path = IsUtf8 path
MeansText (Err Name) path = IsUtf8 path → ⊥
MeansText (Err fault) path = IsUtf8 path

-- an error of the system is that of a call at this path
abbrev pub Blames : Refusals → List ℕ → Unwritten → Type 0
Blames told path (Device kind) = told path kind
Blames told path Name = Unit {0}
Blames told path Memory = Unit {0}

-- the same where no path is at fault
abbrev pub BlamesCall : Refusals → List ℕ → Unwritten → Type 0
BlamesCall told path (Device kind) = told path kind
BlamesCall told path Name = ⊥
BlamesCall told path Memory = Unit {0}

-- what is asked of a draft
abbrev pub asked_of : {F : Type 0} → Draft F → Step
asked_of draft = put_of (draft.path, draft.content) draft.over

abbrev pub asked : {F : Type 0} → List (Draft F) → List Step
asked drafts = map asked_of drafts

-- a file was written, or the system's error is that of a call at its path
abbrev pub HasWritten : {F : Type 0} → Refusals → (F → List ℕ × List ℕ) → List ℕ × List ℕ → Result F ErrorKind → Type 0
HasWritten told drafted file (Ok written) = drafted written ≡ file
HasWritten told drafted file (Err kind) = told file.0 kind

-- so it was of a draft
abbrev pub IsWritten : {F : Type 0} → Refusals → (F → List ℕ × List ℕ) → Draft F → Type 0
IsWritten told drafted draft = HasWritten told drafted (draft.path, draft.content) draft.written

-- a draft that has no name was asked to be removed, if it was written
abbrev pub IsGivenUp : {F : Type 0} → (F → Type 0) → Draft F → Type 0
IsGivenUp gone draft = IfOk draft.written gone

-- the first drafts got their names, and the rest was given up
pub record GivesUpRest {F : Type 0} (gone : F → Type 0) (old : List Step) (drafts : List (Draft F)) (new : List Step) : Type 0 where
  pub named : List (Draft F)
  pub rest : List (Draft F)
  pub all : drafts ≡ named ++ rest
  pub stored : new ≡ old ++ asked named
  pub given_up : AllByRecursion (IsGivenUp gone) rest

-- the first files of a list, as they take their places in a directory that was read as this tree; their paths are text
abbrev pub IsFront : Tree → Files → List Step → Type 0
IsFront tree files [] = Unit {0}
IsFront tree [] (put ∷ front) = ⊥
IsFront tree (file ∷ files) (put ∷ front) = (put ≡ put_in tree file) × IsUtf8 file.0 × IsFront tree files front

-- why the file behind the first N wasn't stored: its path is no text exactly where that is said
pub record Stops (told : Refusals) (files : Files) (count : ℕ) (fault : Unwritten) : Type 0 where
  pub path : List ℕ
  pub there : slice_get (paths_of files) count ≡ Some path
  pub text : MeansText {A = Unit {0}} (Err fault) path
  pub blames : Blames told path fault

-- the first N drafts got their names, and the one behind them didn't
pub record IsHalted (told : Refusals) (old drafts new : List Step) (fault : Unwritten) : Type 0 where
  pub count : ℕ
  pub file : List ℕ × List ℕ
  pub over : Bool
  pub behind : slice_get drafts count ≡ Some (put_of file over)
  pub blames : Blames told file.0 fault
  pub first : new ≡ old ++ take count drafts

-- drafts got their names: all of them, or those before one that didn't, for another reason than its path
pub record Names (told : Refusals) (old drafts new : List Step) (result : Result (Unit {0}) Unwritten) : Type 0 where
  pub text : (path : List ℕ) → IsUtf8 path → MeansText result path
  pub all : OnOk result (new ≡ old ++ drafts)
  pub front : IfErr result (IsHalted told old drafts new)

-- the first of some files were stored: one at least, or those before one that wasn't
abbrev pub Goes : Refusals → Tree → Files → List Step → Result (Unit {0}) Unwritten → Type 0
Goes told tree files front (Ok x) = (0 < length front) × IsFront tree files front
Goes told tree files front (Err fault) = IsFront tree files front × Stops told files (length front) fault

-- the same behind those that were stored before
abbrev pub Advances : Refusals → Tree → Files → List Step → List Step → Result (Unit {0}) Unwritten → Type 0
Advances told tree files old new result =
    (front : List Step) × (new ≡ old ++ front) × Goes told tree files front result
