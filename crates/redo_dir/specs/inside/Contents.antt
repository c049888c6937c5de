-- What was found in a directory, with what was read of its files.
use Rattle.std.specs.Prelude.{◌≡◌, Bool, ℕ, List, [], Option, Some, None, Result, Ok, Err, slice_get}
use Rattle.std.specs.declared.io.ErrorKind.{ErrorKind}
use Rattle.std.specs.declared.io.ErrorKind.TheVariants.{InvalidData, OutOfMemory}
use Rattle.redo_tree.specs.declared.faults.TreeFault.{TreeFault}
use Rattle.redo_tree.specs.declared.faults.TreeFault.TheVariants as tree
use Rattle.redo_tree.specs.Tree.{Node, Directory, File, Tree, added, grown, top}
use Rattle.redo_dir.specs.declared.contents.Place.{Place}
use Rattle.redo_dir.specs.declared.faults.LoadFault.{LoadFault}
use Rattle.redo_dir.specs.declared.faults.LoadFault.TheVariants.{Device, Memory}
use Rattle.redo_dir.specs.Loaded.{ReadIf, Reads, load_fault}

-- the bytes that were read, none where nothing was
abbrev pub bytes_read : Result (Option (List ℕ)) ErrorKind → List ℕ
bytes_read (Ok (Some bytes)) = bytes
bytes_read _ = []

-- what a tree is to have at a path where this was found, and this was read
abbrev pub node_for : Option ℕ → Result (Option (List ℕ)) ErrorKind → Node
node_for None content = Directory
node_for (Some size) content = File (bytes_read content)

abbrev pub entry_of : Place → List ℕ × Node
entry_of place = (place.path, node_for place.size place.content)

-- an error of the system at a path, unless memory ran out
abbrev pub IsRefusal : (List ℕ → ErrorKind → Type 0) → List ℕ → ErrorKind → Type 0
IsRefusal refuses path OutOfMemory = Unit {0}
IsRefusal refuses path kind = refuses path kind

-- what was read where this was found: the bytes of a file, if it is wanted
abbrev pub IsReadAs : (List ℕ → Bool) → Reads → List ℕ → Option ℕ → Option (List ℕ) → Type 0
IsReadAs wants reads path None content = Unit {0}
IsReadAs wants reads path (Some size) content = ReadIf wants reads path size (bytes_read (Ok content))

-- the same, or the reading was refused
abbrev pub IsFilledAs : (List ℕ → Bool) → Reads → (List ℕ → ErrorKind → Type 0) → List ℕ → Option ℕ → Result (Option (List ℕ)) ErrorKind → Type 0
IsFilledAs wants reads refuses path size (Ok content) = IsReadAs wants reads path size content
IsFilledAs wants reads refuses path size (Err kind) = IsRefusal refuses path kind

abbrev pub IsFilled : (List ℕ → Bool) → Reads → (List ℕ → ErrorKind → Type 0) → Place → Type 0
IsFilled wants reads refuses place = IsFilledAs wants reads refuses place.path place.size place.content

-- a place was read, if it is wanted
abbrev pub IsRead : (List ℕ → Bool) → Reads → Place → Type 0
IsRead wants reads place =
    (content : Option (List ℕ)) × (place.content ≡ Ok content) × IsReadAs wants reads place.path place.size content

-- what was found makes no tree
abbrev pub MakesNoTree : List (List ℕ × Node) → LoadFault → Type 0
MakesNoTree entries Memory = Unit {0}
MakesNoTree entries (Device path kind) = (kind ≡ InvalidData) × (fault : TreeFault) × (grown top entries ≡ Err fault)

-- the fault of a path that the tree refused
abbrev pub clash_of : List ℕ → TreeFault → LoadFault
clash_of path tree.Memory = Memory
clash_of path fault = Device path InvalidData

-- the tree refused an entry
abbrev pub Refuses : Tree → List ℕ × Node → LoadFault → Type 0
Refuses tree entry Memory = Unit {0}
Refuses tree entry (Device place kind) = (kind ≡ InvalidData) × (fault : TreeFault) × (added tree entry.0 entry.1 ≡ Err fault)

-- no file was refused at a place
abbrev pub WasAnswered : Place → Type 0
WasAnswered place = (content : Option (List ℕ)) × (place.content ≡ Ok content)

-- a file was refused at one of these places
abbrev pub WasRefusedIn : List Place → LoadFault → Type 0
WasRefusedIn places Memory = Unit {0}
WasRefusedIn places (Device path kind) =
    (n : ℕ) × (place : Place) × (slice_get places n ≡ Some place) × (place.content ≡ Err kind) × (load_fault place.path kind ≡ Device path kind)
