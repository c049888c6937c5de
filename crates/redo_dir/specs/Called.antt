-- The calls of the system that changed something, and what they come to in a directory.
use Rattle.std.specs.Prelude.{◌≡◌, ◌≢◌, ◌⊎◌, ℕ, Bool, true, false, List, [], ◌∷◌, ◌++◌, Option, Some, None, Result, Ok, Err, IfSome, map, take, zero, suc}
use Rattle.std.specs.Fs.{IsDir, IsFile, file_type, metadata_len, metadata_mode}
use Rattle.std.specs.List.{AllByRecursion}
use Rattle.std.specs.Path.{path_join}
use Rattle.std.specs.declared.fs.attrs.Metadata.{Metadata}
use Rattle.std.specs.declared.io.ErrorKind.{ErrorKind}
use Rattle.std.specs.declared.io.ErrorKind.TheVariants.{InvalidInput, NotFound, Unsupported}
use Rattle.redo_path.specs.Names.{parent_of}
use Rattle.redo_dir.specs.declared.work_dir.Seen.{Seen}
use Rattle.redo_dir.specs.declared.work_dir.Seen.TheVariants as seen
use Rattle.redo_dir.specs.Stored.{Step, Finishes, Journals, Puts, Removes}
use Rattle.redo_which.specs.Candidates.{book_path, journal_path}

-- what a place was looked at as, or the error
abbrev pub Found : Type 0
Found = Result Metadata ErrorKind

-- a call that changes something or is made between two that do, with its answer; those without one were answered well
pub data Call : Type 0 where
  -- the new file at the first place, to which these bytes were written whole (and waited for, or not), and which has this
  -- mode (none: that with which it was made), got the second
  Names : List ℕ → List ℕ → Bool → Option ℕ → List ℕ → Call
  -- the new file at this place, to which these bytes were written whole (and waited for, or not), and which has this mode,
  -- is to stay there
  Stays : List ℕ → List ℕ → Bool → Option ℕ → Call
  -- what was at the first place got the second
  Renames : List ℕ → List ℕ → Call
  -- the name at this place was taken away
  Unlinks : List ℕ → Call
  -- the names in the directory at this place were waited for
  Syncs : List ℕ → Option ErrorKind → Call
  -- the place was looked at, and no link was followed
  Finds : List ℕ → Found → Call

-- behind old the system answered these calls, and then it is new
abbrev pub Follows : {C : Type 0} → (C → List Call → Type 0) → C → List Call → C → Type 0
Follows after old calls new = (log : List Call) → after old log → after new (log ++ calls)

-- between old and new the system answered none
abbrev pub Keeps : {C : Type 0} → (C → List Call → Type 0) → C → C → Type 0
Keeps after old new = (log : List Call) → after old log → after new log

-- neither a file nor a directory was found
abbrev pub IsFree : Found → Type 0
IsFree (Ok about) = (IsDir (file_type about) → ⊥) × (IsFile (file_type about) → ⊥)
IsFree (Err kind) = kind ≡ NotFound

-- whether the names are on the disk, or the file system can't be asked for that
abbrev pub is_waited_for : Option ErrorKind → Bool
is_waited_for None = true
is_waited_for (Some InvalidInput) = true
is_waited_for (Some Unsupported) = true
is_waited_for (Some kind) = false

-- whether a file was waited for before it gets this name: each in a run that waits, and in any run the book
abbrev pub IsWaitedAs : Bool → List ℕ → Bool → Type 0
IsWaitedAs waits path synced = (waits ≡ true → synced ≡ true) × (path ≡ book_path → synced ≡ true)

-- which places were looked at, with the answers
abbrev pub Stood : Type 1
Stood = List ℕ → Found → Type 0

-- the mode of a file that takes the place of what was found: that of the file, if one was
abbrev pub IsModeOf : Found → Option ℕ → Type 0
IsModeOf (Ok about) mode = IsFile (file_type about) → mode ≡ Some (metadata_mode about)
IsModeOf (Err kind) mode = kind ≡ NotFound

-- a file with this mode may take this place: the place was looked at before
abbrev pub IsReady : Stood → List ℕ → Option ℕ → Type 0
IsReady stood place mode = (found : Found) × stood place found × IsModeOf found mode

-- a directory whose names were waited for, with the answer
abbrev pub Wait : Type 0
Wait = List ℕ × Option ErrorKind

abbrev pub call_of : Wait → Call
call_of (place, answer) = Syncs place answer

-- these directories were waited for, and their names are on the disk
pub record AreOnDisk (places : List (List ℕ)) (waits : List Wait) : Type 0 where
  pub asked : map (λ w. w.0) waits ≡ places
  pub each : AllByRecursion (λ w. is_waited_for w.1 ≡ true) waits

-- the directory in which a step gave a file its name, or took one away
abbrev pub dir_changed : Step → Option (List ℕ)
dir_changed (Puts path bytes over) = parent_of path
dir_changed (Journals text) = None
dir_changed Finishes = None
dir_changed (Removes path) = parent_of path

-- a place is one of these
abbrev pub IsAmong : List (List ℕ) → List ℕ → Type 0
IsAmong [] place = ⊥
IsAmong (p ∷ ps) place = (p ≡ place) ⊎ IsAmong ps place

-- the directory in which a step changed a name is one of these, below top
abbrev pub IsCovered : List ℕ → List (List ℕ) → Step → Type 0
IsCovered top places step = IfSome (dir_changed step) (λ dir. IsAmong places (path_join top dir))

-- a file and its directory are among these places, below top
abbrev pub IsSettling : List ℕ → List (List ℕ) → List ℕ → Type 0
IsSettling top places path = IsAmong places (path_join top path) × IfSome (parent_of path) (λ dir. IsAmong places (path_join top dir))

-- calls that come to no step: looks and waits
abbrev pub IsIdle : Call → Type 0
IsIdle (Names from bytes synced mode to) = ⊥
IsIdle (Stays place bytes synced mode) = ⊥
IsIdle (Renames from to) = ⊥
IsIdle (Unlinks place) = ⊥
IsIdle (Syncs place answer) = Unit {0}
IsIdle (Finds place found) = Unit {0}

-- In the directory at top these calls are that step, behind those before it. A file that takes another's place has its
-- mode, and a journal the old book's. A run that waits for its files makes the journal the book, or removes a journal or
-- the book, once the names that it changed are on the disk.
abbrev pub IsStep : Stood → List ℕ → Bool → List Step → List Call → Step → Type 0
IsStep stood top waits before calls (Journals text) =
    (answer : Option ErrorKind) × (mode : Option ℕ) × (is_waited_for answer ≡ true) × IsReady stood (path_join top book_path) mode ×
    (calls ≡ Stays (path_join top journal_path) text true mode ∷ Syncs (path_join top []) answer ∷ [])
IsStep stood top waits before calls (Puts path bytes true) =
    (from : List ℕ) × (synced : Bool) × (mode : Option ℕ) × IsWaitedAs waits path synced × IsReady stood (path_join top path) mode ×
    (calls ≡ Names from bytes synced mode (path_join top path) ∷ [])
IsStep stood top waits before calls (Puts path bytes false) =
    (from : List ℕ) × (synced : Bool) × (mode : Option ℕ) × IsWaitedAs waits path synced × IsReady stood (path_join top path) mode ×
    (found : Found) × IsFree found ×
    (calls ≡ Finds (path_join top path) found ∷ Names from bytes synced mode (path_join top path) ∷ [])
IsStep stood top waits before calls Finishes =
    (places : List (List ℕ)) × (waited : List Wait) × AreOnDisk places waited ×
    (waits ≡ true → AllByRecursion (IsCovered top places) before) ×
    (calls ≡ map call_of waited ++ Renames (path_join top journal_path) (path_join top book_path) ∷ [])
IsStep stood top waits before calls (Removes path) =
    ((path ≢ journal_path) × (waits ≡ true → path ≢ book_path) × (calls ≡ Unlinks (path_join top path) ∷ [])) ⊎
    ((places : List (List ℕ)) × (waited : List Wait) × AreOnDisk places waited × ((path ≡ journal_path) ⊎ (path ≡ book_path)) ×
    IsAmong places (path_join top []) × (waits ≡ true → AllByRecursion (IsCovered top places) before) ×
    (calls ≡ map call_of waited ++ Unlinks (path_join top path) ∷ []))

-- A journal that isn't one, since its name can't be waited for, is taken away if it can be.
abbrev pub IsUndone : List ℕ → List Call → Type 0
IsUndone top calls =
    (text : List ℕ) × (mode : Option ℕ) × (answer : Option ErrorKind) × (gone : List Call) × (is_waited_for answer ≡ false) ×
    ((gone ≡ []) ⊎ (gone ≡ Unlinks (path_join top journal_path) ∷ [])) ×
    (calls ≡ Stays (path_join top journal_path) text true mode ∷ Syncs (path_join top []) answer ∷ gone)

-- calls that belong together, behind the steps before them, and the steps that they are: one or none
abbrev pub IsPart : Stood → List ℕ → Bool → List Step → List Call → List Step → Type 0
IsPart stood top waits before calls [] = AllByRecursion IsIdle calls ⊎ IsUndone top calls
IsPart stood top waits before calls (step ∷ []) = IsStep stood top waits before calls step
IsPart stood top waits before calls (step ∷ more ∷ steps) = ⊥

abbrev pub Part : Type 0
Part = List Call × List Step

abbrev pub calls_in : List Part → List Call
calls_in [] = []
calls_in (p ∷ ps) = p.0 ++ calls_in ps

abbrev pub steps_in : List Part → List Step
steps_in [] = []
steps_in (p ∷ ps) = p.1 ++ steps_in ps

-- these are parts, one behind another, behind the steps before them
abbrev pub AreParts : Stood → List ℕ → Bool → List Step → List Part → Type 0
AreParts stood top waits before [] = Unit {0}
AreParts stood top waits before (p ∷ ps) = IsPart stood top waits before p.0 p.1 × AreParts stood top waits (before ++ p.1) ps

-- in the directory at top, a log of calls comes to these steps, in this order
pub record Does (stood : Stood) (top : List ℕ) (waits : Bool) (log : List Call) (steps : List Step) : Type 0 where
  pub parts : List Part
  pub calls : calls_in parts ≡ log
  pub done : steps_in parts ≡ steps
  pub each : AreParts stood top waits [] parts

-- What the system was called for so far comes to these steps, by a run that waits for its files or doesn't. What was looked
-- at before a file took a place, each closed file tells.
abbrev pub HasDone : {C F : Type 0} → (C → List Call → Type 0) → (F → List ℕ → Found → Type 0) → List ℕ → Bool → C → List Step → Type 0
HasDone {C} {F} after stood top waits calls steps =
    ∥ ((log : List Call) × after calls log × Does (λ place found. (file : F) × stood file place found) top waits log steps) ∥₁

-- a place was waited for, and what it has is on the disk
abbrev pub IsWaited : List Call → List ℕ → Type 0
IsWaited log place = (before behind : List Call) × (answer : Option ErrorKind) × (is_waited_for answer ≡ true) ×
    (log ≡ before ++ Syncs place answer ∷ behind)

-- so far a file and its name were waited for, below top
abbrev pub HasSettled : {C : Type 0} → (C → List Call → Type 0) → List ℕ → C → List ℕ → Type 0
HasSettled after top calls path =
    ∥ ((log : List Call) × after calls log × IsWaited log (path_join top path) ×
    IfSome (parent_of path) (λ dir. IsWaited log (path_join top dir))) ∥₁

-- the bytes that are read of a file of this size; some file systems say 0 where they know none
abbrev pub front_read : ℕ → List ℕ → List ℕ
front_read zero bytes = bytes
front_read (suc n) bytes = take (suc n) bytes

-- what the system says of a place, so far as a run asks
abbrev pub IsToldAs : Metadata → Seen → Type 0
IsToldAs about seen.Directory = IsDir (file_type about)
IsToldAs about (seen.File size) = IsFile (file_type about) × (metadata_len about ≡ size)
IsToldAs about seen.Other = (IsDir (file_type about) → ⊥) × (IsFile (file_type about) → ⊥)

-- a place was looked at, and the system said this
abbrev pub IsStandingAs : (List ℕ → Found → Type 0) → List ℕ → Seen → Type 0
IsStandingAs stands place answer = (about : Metadata) × stands place (Ok about) × IsToldAs about answer

-- the file at a place was opened, and these bytes were read of it, where its size was this one when it was looked at
abbrev pub IsOpenedAs : (List ℕ → Option (List ℕ) → Type 0) → List ℕ → ℕ → List ℕ → Type 0
IsOpenedAs opens place size bytes =
    (holds : Option (List ℕ)) × opens place holds × IfSome holds (λ all. bytes ≡ front_read size all)

-- the answer of a look, whose errors are of these kinds
abbrev pub found_of : {E : Type 0} → (E → ErrorKind) → Result Metadata E → Found
found_of kind (Ok about) = Ok about
found_of kind (Err error) = Err (kind error)

-- the answer of a wait
abbrev pub answer_of : {A E : Type 0} → (E → ErrorKind) → Result A E → Option ErrorKind
answer_of kind (Ok x) = None
answer_of kind (Err error) = Some (kind error)
