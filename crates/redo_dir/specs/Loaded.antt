-- What a directory answered, and the tree that was made of it.
use Rattle.std.specs.Prelude.{◌≡◌, ◌≤◌, ◌-◌, ◌^◌, ◌&&◌, ◌||◌, ◌⊎◌, not, Bool, ℕ, List, [], ◌∷◌, ◌++◌, IsUtf8, codes, count_by}
use Rattle.std.specs.Prelude.{filter_map, is_none, length, map, min, option_map, string_bytes, Option, Some, None, Ok, Err, true, false}
use Rattle.std.specs.List.{AllByRecursion, AllZip, list_any}
use Rattle.std.specs.Str.{bytes_eq}
use Rattle.std.specs.declared.io.ErrorKind.{ErrorKind}
use Rattle.std.specs.declared.io.ErrorKind.TheVariants.{InvalidData, OutOfMemory}
use Rattle.std.specs.declared.alloc.Global.{Global}
use Rattle.std.specs.declared.string.String.{String}
use Rattle.redo_names.specs.Paths.{is_among}
use Rattle.redo_path.specs.Names.{IsName, child_of, is_slash}
use Rattle.redo_dir.specs.declared.contents.Place.{Place}
use Rattle.redo_dir.specs.declared.contents.Wanted.{Wanted}
use Rattle.redo_dir.specs.declared.faults.LoadFault.{LoadFault}
use Rattle.redo_dir.specs.declared.faults.LoadFault.TheVariants.{Device, Memory}
use Rattle.redo_dir.specs.declared.listing.Names.{Names}
use Rattle.redo_dir.specs.declared.work_dir.Seen.{Seen}
use Rattle.redo_dir.specs.declared.work_dir.Seen.TheVariants as seen
use Rattle.redo_tree.specs.declared.faults.TreeFault.{TreeFault}
use Rattle.redo_tree.specs.Tree.{Node, Directory, File, Tree, grown, top}

-- the names of a listing; none stands for a name that isn't text
abbrev pub names_in : List (Option (String Global)) → List (Option (List ℕ))
names_in names = map (option_map string_bytes) names

-- what a path was looked at as
abbrev pub Looks : Type 1
Looks = List ℕ → Seen → Type 0

-- the bytes of the file at a path, whose size was this one when it was looked at
abbrev pub Reads : Type 1
Reads = List ℕ → ℕ → List ℕ → Type 0

-- no file is read, and each stays empty
abbrev pub Unread : Reads
Unread path size bytes = bytes ≡ []

-- whether the file at a path is to be read
abbrev pub wants : Wanted → List ℕ → Bool
wants wanted path = wanted.all || is_among wanted.paths path

-- what the system said when the file at a place was last read, if it refused that
abbrev pub refusal_at : Place → Option ErrorKind
refusal_at place = elim place.content [ Ok content ↦ None | Err kind ↦ Some kind ]

-- the files that are wanted are read, and each other one stays empty
abbrev pub ReadIf : (List ℕ → Bool) → Reads → Reads
ReadIf wants reads path size bytes = ((wants path ≡ true) × reads path size bytes) ⊎ ((wants path ≡ false) × (bytes ≡ []))

-- What a path leads to, so far as a tree takes it in: it was looked at as a directory, as a file, of which these bytes
-- were read, or as neither.
abbrev pub Leads : Looks → Reads → List ℕ → Option Node → Type 0
Leads looks reads path (Some Directory) = looks path seen.Directory
Leads looks reads path (Some (File bytes)) = (size : ℕ) × looks path (seen.File size) × reads path size bytes
Leads looks reads path None = looks path seen.Other

-- What a path was looked at as, so far as a tree takes it in: a directory, a file of so many bytes, or neither.
abbrev pub LooksLike : Looks → List ℕ → Option (Option ℕ) → Type 0
LooksLike looks path (Some None) = looks path seen.Directory
LooksLike looks path (Some (Some size)) = looks path (seen.File size)
LooksLike looks path None = looks path seen.Other

-- a word that names something in a directory: it leads nowhere else
abbrev pub is_one_name : List ℕ → Bool
is_one_name word = not (bytes_eq word (codes ".")) && not (bytes_eq word (codes "..")) && not (list_any is_slash word)

-- a name that may stand in this directory of a tree
pub record MayStand (dir name : List ℕ) : Type 0 where
  pub named : IsName name
  pub short : length (child_of dir name) ≤ 1024

-- a directory that was listed, with its names
abbrev pub Listing : Type 0
Listing = List ℕ × List (Option (List ℕ))

-- names with the directory in which they stand
abbrev pub asked : List ℕ → List (Option (List ℕ)) → List (List ℕ × Option (List ℕ))
asked dir names = map (λ name. (dir, name)) names

-- the names of all listings, in order
abbrev pub names_of : List Listing → List (List ℕ × Option (List ℕ))
names_of [] = []
names_of (l ∷ ls) = asked l.0 l.1 ++ names_of ls

-- What a name comes to, as it was answered what its path leads to: where it may stand and leads to a directory or a
-- file, that entry; otherwise it is passed over.
abbrev pub ComesTo : {N : Type 0} → (List ℕ → Option N → Type 0) → List ℕ × Option (List ℕ) → Option (List ℕ × N) → Type 0
ComesTo leads (dir, Some name) (Some e) = MayStand dir name × (e.0 ≡ child_of dir name) × leads e.0 (Some e.1)
ComesTo leads (dir, Some name) None = (MayStand dir name → ⊥) ⊎ leads (child_of dir name) None
ComesTo leads (dir, None) (Some e) = ⊥
ComesTo leads (dir, None) None = Unit {0}

-- the entries that names came to
abbrev pub entries_of : {A : Type 0} → List (Option A) → List A
entries_of became = filter_map (λ e. e) became

-- the directories among entries
abbrev pub directories : List (List ℕ × Node) → List (List ℕ)
directories [] = []
directories ((path, Directory) ∷ es) = path ∷ directories es
directories ((path, File bytes) ∷ es) = directories es

-- each path of a tree, or of what was found, is text
abbrev pub HasTextPaths : {N : Type 0} → List (List ℕ × N) → Type 0
HasTextPaths tree = AllByRecursion (λ e. IsUtf8 e.0) tree

-- the directories among what was found: paths, each with the size of a file, or none for a directory
abbrev pub found_dirs : List (List ℕ × Option ℕ) → List (List ℕ)
found_dirs [] = []
found_dirs ((path, None) ∷ es) = path ∷ found_dirs es
found_dirs ((path, Some size) ∷ es) = found_dirs es

-- By these answers this was found in the directory: the top was listed, and each directory that was found, in this order;
-- each name was found to be a directory or a file, or was passed over; and those were counted, up to 2^64 - 1.
pub record IsListed (lists : List ℕ → List (Option (List ℕ)) → Type 0) (looks : Looks) (found : List (List ℕ × Option ℕ)) (passed : ℕ) : Type 0 where
  pub read : List Listing
  pub answered : AllByRecursion (λ l. lists l.0 l.1) read
  pub became : List (Option (List ℕ × Option ℕ))
  pub each : AllZip (ComesTo (LooksLike looks)) (names_of read) became
  pub below : map (λ l. l.0) read ≡ [] ∷ found_dirs found
  pub are : entries_of became ≡ found
  pub counts : passed ≡ min (count_by is_none became) (2 ^ 64 - 1)

-- a path where something was found, with the size of a file, or none for a directory
abbrev pub found_at : Place → List ℕ × Option ℕ
found_at place = (place.path, place.size)

abbrev pub found_in : List Place → List (List ℕ × Option ℕ)
found_in places = map found_at places

-- these names were found in the directory, and are text
abbrev pub AreNamesIn : (List ℕ → List (Option (List ℕ)) → Type 0) → Looks → Names → Type 0
AreNamesIn lists looks names =
    IsListed lists looks (found_in names.found.items) names.passed × HasTextPaths (found_in names.found.items)

-- By these answers the directory holds this tree: the top was listed, and each directory that was found, in this order;
-- each name came to an entry or was passed over; the entries make the tree; and the others were counted, up to 2^64 - 1.
pub record IsLoaded (lists : List ℕ → List (Option (List ℕ)) → Type 0) (leads : List ℕ → Option Node → Type 0) (tree : Tree) (passed : ℕ) : Type 0 where
  pub read : List Listing
  pub answered : AllByRecursion (λ l. lists l.0 l.1) read
  pub became : List (Option (List ℕ × Node))
  pub each : AllZip (ComesTo leads) (names_of read) became
  pub below : map (λ l. l.0) read ≡ [] ∷ directories (entries_of became)
  pub grows : grown top (entries_of became) ≡ Ok tree
  pub counts : passed ≡ min (count_by is_none became) (2 ^ 64 - 1)

-- By these answers the directory holds the names of this tree. Of its files nothing was read, and each is empty.
abbrev pub HasNames : (List ℕ → List (Option (List ℕ)) → Type 0) → Looks → Tree → ℕ → Type 0
HasNames lists looks = IsLoaded lists (Leads looks Unread)

-- names that were listed make no tree: a directory that changes meanwhile may list one twice
pub record Clash (lists : List ℕ → List (Option (List ℕ)) → Type 0) (leads : List ℕ → Option Node → Type 0) : Type 0 where
  pub read : List Listing
  pub answered : AllByRecursion (λ l. lists l.0 l.1) read
  pub before : List (List ℕ × Option (List ℕ))
  pub after : List (List ℕ × Option (List ℕ))
  pub listed : names_of read ≡ before ++ after
  pub became : List (Option (List ℕ × Node))
  pub each : AllZip (ComesTo leads) before became
  pub fault : TreeFault
  pub fails : grown top (entries_of became) ≡ Err fault

-- why a directory wasn't read: a call at that path was refused, or the names that were listed make no tree
abbrev pub IsUnloaded : (List ℕ → List (Option (List ℕ)) → Type 0) → (List ℕ → Option Node → Type 0) → (List ℕ → ErrorKind → Type 0) → LoadFault → Type 0
IsUnloaded lists leads refuses (Device path kind) = refuses path kind ⊎ ((kind ≡ InvalidData) × Clash lists leads)
IsUnloaded lists leads refuses Memory = Unit {0}

-- a call at this path was refused by this error, or memory ran out
abbrev pub IsRefusedBy : (List ℕ → ErrorKind → Type 0) → LoadFault → Type 0
IsRefusedBy refuses (Device path kind) = refuses path kind
IsRefusedBy refuses Memory = Unit {0}

-- the fault of a call at a path that the system refused
abbrev pub load_fault : List ℕ → ErrorKind → LoadFault
load_fault path OutOfMemory = Memory
load_fault path kind = Device path kind
