-- What was found in a directory so far, while it is listed level by level.
use Rattle.std.specs.Prelude.{◌≡◌, ◌+◌, ◌-◌, ◌^◌, ◌⊎◌, ℕ, List, [], ◌∷◌, ◌++◌, IsUtf8, map, min, Option, Some, None}
use Rattle.std.specs.Prelude.{count_by, is_none, Result, Ok, Err}
use Rattle.std.specs.List.{AllByRecursion, AllZip, FoldsTo}
use Rattle.std.specs.declared.io.ErrorKind.{ErrorKind}
use Rattle.redo_path.specs.Names.{child_of}
use Rattle.redo_dir.specs.declared.faults.LoadFault.{LoadFault}
use Rattle.redo_dir.specs.declared.faults.LoadFault.TheVariants.{Device, Memory}
use Rattle.redo_dir.specs.declared.listing.Walk.{Walk}
use Rattle.redo_dir.specs.declared.looking.Name.{Name}
use Rattle.redo_dir.specs.declared.work_dir.Seen.{Seen}
use Rattle.redo_dir.specs.declared.work_dir.Seen.TheVariants as seen
use Rattle.redo_dir.specs.Loaded.{ComesTo, HasTextPaths, Listing, Looks, LooksLike, MayStand, entries_of, found_dirs}
use Rattle.redo_dir.specs.Loaded.{found_in, load_fault, names_of}
use Rattle.redo_dir.specs.inside.Contents.{IsRefusal}

-- what was found so far, the directories that are still to be listed, the paths of the names that are still to be looked
-- at, and how many names were passed over
pub record Progress : Type 0 where
  pub found : List (List ℕ × Option ℕ)
  pub waiting : List (List ℕ)
  pub noted : List (List ℕ)
  pub passed : ℕ

-- where names stand in the tree
abbrev pub paths_of : List Name → List (List ℕ)
paths_of names = map (λ name. name.path) names

abbrev pub progress : Walk → Progress
progress w = record { found = found_in w.found.items; waiting = w.waiting.items; noted = paths_of w.noted.items; passed = w.passed }

-- names that were looked at stand where they stood
abbrev pub KeepsPaths : List Name → List Name → Type 0
KeepsPaths old new = paths_of new ≡ paths_of old

-- a path was looked at, and answered, unless memory ran out
abbrev pub IsLookedAs : Looks → (List ℕ → ErrorKind → Type 0) → List ℕ → Result Seen ErrorKind → Type 0
IsLookedAs looks refuses path (Ok seen) = looks path seen
IsLookedAs looks refuses path (Err kind) = IsRefusal refuses path kind

abbrev pub IsLooked : Looks → (List ℕ → ErrorKind → Type 0) → Name → Type 0
IsLooked looks refuses name = IsLookedAs looks refuses name.path name.seen

-- what a tree takes in of what was seen: a directory, or a file of a size
abbrev pub taken_in : Seen → Option (Option ℕ)
taken_in seen.Directory = Some None
taken_in (seen.File size) = Some (Some size)
taken_in seen.Other = None

-- one name more was passed over, or as many as can be counted
abbrev pub with_passed : Progress → Progress
with_passed p = record { found = p.found; waiting = p.waiting; noted = p.noted; passed = min (p.passed + 1) (2 ^ 64 - 1) }

-- one name more is to be looked at
abbrev pub with_noted : Progress → List ℕ → Progress
with_noted p path = record { found = p.found; waiting = p.waiting; noted = p.noted ++ path ∷ []; passed = p.passed }

-- no directory is to be listed any longer
abbrev pub with_none_waiting : Progress → Progress
with_none_waiting p = record { found = p.found; waiting = []; noted = p.noted; passed = p.passed }

-- no name is to be looked at any longer
abbrev pub with_none_noted : Progress → Progress
with_none_noted p = record { found = p.found; waiting = p.waiting; noted = []; passed = p.passed }

-- a name of a directory was noted, or was passed over where it may not stand
abbrev pub Notes : List ℕ → Progress → Option (List ℕ) → Progress → Type 0
Notes dir old None new = new ≡ with_passed old
Notes dir old (Some name) new =
    IsUtf8 name ×
    (((MayStand dir name → ⊥) × (new ≡ with_passed old)) ⊎
    (MayStand dir name × (new ≡ with_noted old (child_of dir name))))

-- a directory was listed, and its names were noted
abbrev pub ListsDir : (List ℕ → List (Option (List ℕ)) → Type 0) → Progress → List ℕ → Progress → Type 0
ListsDir lists old dir new = (names : List (Option (List ℕ))) × lists dir names × FoldsTo (Notes dir) old names new

-- all directories of a level were listed
abbrev pub ListsLevel : (List ℕ → List (Option (List ℕ)) → Type 0) → Progress → Progress → Type 0
ListsLevel lists old new = FoldsTo (ListsDir lists) (with_none_waiting old) old.waiting new

-- the directories whose names are still to be listed, once one more path was found
abbrev pub with_waiting : List (List ℕ) → List ℕ → Option ℕ → List (List ℕ)
with_waiting waiting path None = waiting ++ path ∷ []
with_waiting waiting path (Some size) = waiting

-- what was seen at a path was found there, or passed over where it is neither a directory nor a file
abbrev pub Receives : Progress → Progress → List ℕ → Option (Option ℕ) → Type 0
Receives old new path None = new ≡ with_passed old
Receives old new path (Some size) =
    new ≡ record { found = old.found ++ (path, size) ∷ []; waiting = with_waiting old.waiting path size; noted = old.noted; passed = old.passed }

-- what was seen at a name was received at its path
abbrev pub ReceivesName : Progress → Name → Progress → Type 0
ReceivesName old name new = (seen : Seen) × (name.seen ≡ Ok seen) × Receives old new name.path (taken_in seen)

-- a name wasn't received: the system refused to look at it, or memory ran out
abbrev pub Breaks : Name → LoadFault → Type 0
Breaks name Memory = Unit {0}
Breaks name (Device place kind) = (name.seen ≡ Err kind) × (load_fault name.path kind ≡ Device place kind)

-- of some names one wasn't received
abbrev pub BreaksIn : List Name → LoadFault → Type 0
BreaksIn names fault = (front rest : List Name) × (name : Name) × (names ≡ front ++ name ∷ rest) × Breaks name fault

-- all names that were noted were looked at and received
abbrev pub EntersNoted : Looks → (List ℕ → ErrorKind → Type 0) → Progress → Progress → Type 0
EntersNoted looks refuses old new =
    (names : List Name) × (paths_of names ≡ old.noted) × AllByRecursion (IsLooked looks refuses) names ×
    FoldsTo ReceivesName (with_none_noted old) names new

-- between two levels: what was listed came to what was found, and the directories that were found last wait
pub record IsBetween (lists : List ℕ → List (Option (List ℕ)) → Type 0) (looks : Looks) (p : Progress) : Type 0 where
  pub read : List Listing
  pub answered : AllByRecursion (λ l. lists l.0 l.1) read
  pub became : List (Option (List ℕ × Option ℕ))
  pub each : AllZip (ComesTo (LooksLike looks)) (names_of read) became
  pub below : map (λ l. l.0) read ++ p.waiting ≡ [] ∷ found_dirs p.found
  pub are : entries_of became ≡ p.found
  pub counts : p.passed ≡ min (count_by is_none became) (2 ^ 64 - 1)
  pub emptied : p.noted ≡ []
  pub texts : HasTextPaths p.found
  pub ahead : AllByRecursion IsUtf8 p.waiting

-- what a name that was listed is noted as: the path where it is looked at, or none where it is passed over
abbrev pub IsMark : List ℕ × Option (List ℕ) → Option (List ℕ) → Type 0
IsMark (dir, Some name) (Some path) = MayStand dir name × IsUtf8 name × (path ≡ child_of dir name)
IsMark (dir, Some name) None = MayStand dir name → ⊥
IsMark (dir, None) (Some path) = ⊥
IsMark (dir, None) None = Unit {0}
