-- Why a directory of the system refuses a call: redo itself does, or the system did where it was asked for that call.
use Rattle.std.specs.Prelude.{◌≡◌, ◌⊎◌, ℕ, Bool, true, false, List, Option}
use Rattle.std.specs.Path.{path_join, path_with_file_name}
use Rattle.std.specs.declared.io.ErrorKind.{ErrorKind}
use Rattle.std.specs.declared.io.ErrorKind.TheVariants.{AlreadyExists, InvalidFilename, InvalidInput, OutOfMemory}
use Rattle.redo_which.specs.Candidates.{book_path, journal_path}

-- the places at which a call of the system was answered by an error, with its kind
abbrev pub Fails : Type 1
Fails = List ℕ → ErrorKind → Type 0

-- what redo itself says where it looks: no memory is left, or a path is no text
abbrev pub is_of_redo : ErrorKind → Bool
is_of_redo OutOfMemory = true
is_of_redo InvalidFilename = true
is_of_redo kind = false

-- and where it changes something: something stands there, or the draft is that of another directory or of no journal
abbrev pub is_of_redo_at_change : ErrorKind → Bool
is_of_redo_at_change AlreadyExists = true
is_of_redo_at_change InvalidInput = true
is_of_redo_at_change kind = is_of_redo kind

-- the file at a place was opened, so that the error is that of reading its bytes
abbrev pub IsStopped : (List ℕ → Option (List ℕ) → Type 0) → List ℕ → Type 0
IsStopped opens place = (holds : Option (List ℕ)) × opens place holds

-- a look at a place, or a reading of it, was answered by this error
abbrev pub IsRefusedAt : Fails → (List ℕ → Option (List ℕ) → Type 0) → List ℕ → ErrorKind → Type 0
IsRefusedAt fails opens place kind = (is_of_redo kind ≡ true) ⊎ (fails place kind ⊎ IsStopped opens place)

-- A place at which the system is called for a path, below top: the path's own, or that of a temporary file beside it; for
-- the journal and the book it may be any, as directories are waited for.
abbrev pub IsFor : List ℕ → List ℕ → List ℕ → Type 0
IsFor top path place =
    (place ≡ path_join top path) ⊎
    (((name : List ℕ) × (place ≡ path_with_file_name (path_join top path) name)) ⊎
    ((path ≡ journal_path) ⊎ (path ≡ book_path)))

-- a new file that was made at a place was answered by this error, and was asked to be removed
abbrev pub Failed : {F : Type 0} → (F → List ℕ → Type 0) → (F → ErrorKind → Type 0) → (F → List ℕ → Type 0) → Fails
Failed {F} made fails gone place kind = (file : F) × made file place × fails file kind × gone file place

-- calls of the system, or those on new files, were answered by this error at a place
abbrev pub AnyFails : {C F : Type 0} → (C → Fails) → (F → List ℕ → Type 0) → (F → ErrorKind → Type 0) → (F → List ℕ → Type 0) → Fails
AnyFails {C} {F} fails made failed gone place kind = ((calls : C) × fails calls place kind) ⊎ Failed made failed gone place kind

-- a call that would change something for a path, below top, was answered by this error
abbrev pub IsUnchanged : Fails → List ℕ → List ℕ → ErrorKind → Type 0
IsUnchanged fails top path kind =
    (is_of_redo_at_change kind ≡ true) ⊎ ((place : List ℕ) × IsFor top path place × fails place kind)

-- a call for a path, below top, was answered by this error: a look, or what would change something
abbrev pub IsRefusedFor : Fails → (List ℕ → Option (List ℕ) → Type 0) → Fails → List ℕ → List ℕ → ErrorKind → Type 0
IsRefusedFor fails opens any top path kind = IsRefusedAt fails opens (path_join top path) kind ⊎ IsUnchanged any top path kind
