-- A tree: what is at each path, in the order of the paths' texts.
use Rattle.std.specs.Prelude.{◌≡◌, ◌≤◌, ◌&&◌, Bool, true, nat_eq, ℕ, List, [], ◌∷◌, ◌++◌, codes, filter_map, fold, length}
use Rattle.std.specs.Prelude.{Option, Some, None, Result, Ok, Err, IsSome, option_and_then, option_map, refl}
use Rattle.std.specs.Prelude.{if◌then◌else◌, filter, is_some, not}
use Rattle.std.specs.BTreeMap.{insert_entry, is_at}
use Rattle.std.specs.Cmp.{IsEquivalence, and_equiv, on_equiv}
use Rattle.std.specs.Cmp.Lexicographic.{lists_equiv, nat_list_eq_equiv, options_equiv, pointwise, slice_cmp}
use Rattle.std.specs.Coded.{Coded, code_by, coded_list, coded_option, coded_ℕ}
use Rattle.std.specs.List.{AllByRecursion, ends_with, list_any, starts_with}
use Rattle.std.specs.List.Sorted.{IsStrictlySortedBy}
use Rattle.std.specs.Map.{keys_of, lookup}
use Rattle.std.specs.Option.{option_eq, option_map_or, option_or}
use Rattle.std.specs.Ordering.{nat_cmp}
use Rattle.redo_names.specs.Paths.{is_among}
use Rattle.redo_path.specs.Names.{IsPart, IsPath, child_of, name_of, parent_of}
use Rattle.redo_tree.specs.declared.entries.Entry.{Entry}
use Rattle.redo_tree.specs.declared.entries.Entry.TheVariants as entries
use Rattle.redo_tree.specs.declared.entries.Kind.{Kind}
use Rattle.redo_tree.specs.declared.entries.Kind.TheVariants as kinds
use Rattle.redo_tree.specs.declared.faults.TreeFault.{TreeFault}
use Rattle.redo_tree.specs.declared.faults.TreeFault.TheVariants.{NoDirectory, IsDirectory, IsFile, Twice, Memory}

-- what is at a path
pub data Node : Type 0 where
  Directory : Node
  File : List ℕ → Node

-- pairs of a path and what is there; `IsTree` says which lists of them are trees
abbrev pub Tree : Type 0
Tree = List (List ℕ × Node)

-- the root alone
abbrev pub top : Tree
top = ([], Directory) ∷ []

-- what is at a path of a tree, if anything is
abbrev pub node_at : Tree → List ℕ → Option Node
node_at tree path = lookup (is_at (slice_cmp nat_cmp path)) tree

-- the tree with a node added at a path where nothing is
abbrev pub with_node : Tree → List ℕ → Node → Tree
with_node tree path node = insert_entry (slice_cmp nat_cmp) tree path node

abbrev pub kind_of : Option Node → Kind
kind_of None = kinds.Nothing
kind_of (Some Directory) = kinds.Dir
kind_of (Some (File bytes)) = kinds.File

abbrev pub bytes_of : Node → Option (List ℕ)
bytes_of Directory = None
bytes_of (File bytes) = Some bytes

-- the bytes of the file at a path
abbrev pub file_at : Tree → List ℕ → Option (List ℕ)
file_at tree path = option_and_then bytes_of (node_at tree path)

-- the tree has a file of at least so many bytes
pub record HasFileOf (tree : Tree) (least : ℕ) : Type 0 where
  pub path : List ℕ
  pub bytes : List ℕ
  pub there : file_at tree path ≡ Some bytes
  pub many : least ≤ length bytes

-- no file in the directory has a name of `default`, a suffix and `.do`
abbrev pub HasNoDefaults : Tree → List ℕ → Type 0
HasNoDefaults tree dir =
    (suffix : List ℕ) → IsPart suffix → file_at tree (child_of dir (codes "default" ++ suffix ++ codes ".do")) ≡ None

-- a name that begins with `default` and ends in `.do`
abbrev pub is_default : List ℕ → Bool
is_default name = starts_with nat_eq name (codes "default") && ends_with nat_eq name (codes ".do")

-- the directory of a node that is a file with such a name, and none of any other node
abbrev pub default_dir : List ℕ → Node → Option (List ℕ)
default_dir path Directory = None
default_dir path (File bytes) = if is_default (name_of path) then parent_of path else None

-- whether two entries are the same
abbrev pub entry_eq : List ℕ × Node → List ℕ × Node → Bool
entry_eq e f = pointwise nat_eq e.0 f.0 && option_eq (pointwise nat_eq) (bytes_of e.1) (bytes_of f.1)

-- whether two trees are the same
abbrev pub tree_eq : Tree → Tree → Bool
tree_eq = pointwise entry_eq

-- being the same is an equivalence
abbrev pub trees_alike : IsEquivalence tree_eq
trees_alike =
    lists_equiv (and_equiv (on_equiv (λ e. e.0) nat_list_eq_equiv)
    (on_equiv (λ e. bytes_of e.1) (options_equiv nat_list_eq_equiv)))

-- the paths of a tree's files, in path order, each once
abbrev pub files_of : Tree → List (List ℕ)
files_of tree = filter_map (λ e. option_map (λ _. e.0) (bytes_of e.1)) tree

-- whether an entry is a file at one of these paths
abbrev pub is_file_among : List (List ℕ) → List ℕ × Node → Bool
is_file_among paths e = is_some (bytes_of e.1) && is_among paths e.0

-- the tree without the files at these paths
abbrev pub without : Tree → List (List ℕ) → Tree
without tree paths = filter (λ e. not (is_file_among paths e)) tree

-- why nothing can be added below this, the node at the parent's path
abbrev pub parent_refusal : Option Node → Option TreeFault
parent_refusal None = Some NoDirectory
parent_refusal (Some (File bytes)) = Some IsFile
parent_refusal (Some Directory) = None

-- why a node can't be added where this is
abbrev pub place_refusal : Option Node → Node → Option TreeFault
place_refusal None node = None
place_refusal (Some Directory) Directory = Some Twice
place_refusal (Some Directory) (File bytes) = Some IsDirectory
place_refusal (Some (File bytes)) Directory = Some IsFile
place_refusal (Some (File bytes)) (File others) = Some Twice

-- why a node can't be added at a path; the parent is checked first, and the root has no parent
abbrev pub refusal : Tree → List ℕ → Node → Option TreeFault
refusal tree path node =
    option_or (option_and_then (λ dir. parent_refusal (node_at tree dir)) (parent_of path))
    (place_refusal (node_at tree path) node)

-- the tree with one more node, or why it can't be added
abbrev pub added : Tree → List ℕ → Node → Result Tree TreeFault
added tree path node = option_map_or Err (refusal tree path node) (Ok (with_node tree path node))

-- a call made the expected tree, or failed, as expected or out of memory, and changed nothing
abbrev pub Adds : {A : Type 0} → Result A TreeFault → Tree → Tree → Result Tree TreeFault → Type 0
Adds (Ok x) old new meant = meant ≡ Ok new
Adds (Err Memory) old new meant = new ≡ old
Adds (Err fault) old new meant = (meant ≡ Err fault) × (new ≡ old)

-- a place was allowed or refused as expected, unless memory ran out
abbrev pub Allows : {A : Type 0} → Result A TreeFault → Option TreeFault → Type 0
Allows (Ok x) refused = refused ≡ None
Allows (Err Memory) refused = Unit {0}
Allows (Err fault) refused = refused ≡ Some fault

-- the node of an entry of the code
abbrev pub node_of : Entry → Node
node_of entries.Directory = Directory
node_of (entries.File content) = File content

abbrev pub node_code : Coded Node
node_code =
    code_by (Option (List ℕ)) (coded_option (coded_list coded_ℕ)) bytes_of
    (λ o. elim o [ None ↦ Directory | Some bytes ↦ File bytes ]) (elim [ Directory ↦ refl | File bytes ↦ refl ])

-- the keys are paths and sorted, the root is a directory, and so is the parent of each path in the tree
pub record IsTree (tree : Tree) : Type 0 where
  pub sorted : IsStrictlySortedBy (slice_cmp nat_cmp) (keys_of tree)
  pub paths : AllByRecursion IsPath (keys_of tree)
  pub root : node_at tree [] ≡ Some Directory
  pub parents : (path dir : List ℕ) → IsSome (node_at tree path) → parent_of path ≡ Some dir →
      node_at tree dir ≡ Some Directory

-- the tree with each of the code's entries put at its path, in turn
abbrev pub with_entries : Tree → List (List ℕ × Entry) → Tree
with_entries tree es = fold (λ done e. with_node done e.0 (node_of e.1)) tree es

-- the code's entries as a tree, in path order
abbrev pub tree_of : List (List ℕ × Entry) → Tree
tree_of es = with_entries [] es

-- the directory is among these
abbrev pub IsNoted : List (List ℕ) → List ℕ → Type 0
IsNoted dirs dir = list_any (pointwise nat_eq dir) dirs ≡ true

-- the directory of each file `default*.do` is among these
abbrev pub NotesDefaults : List (List ℕ) → Tree → Type 0
NotesDefaults dirs tree =
    (path dir : List ℕ) (node : Node) → node_at tree path ≡ Some node → default_dir path node ≡ Some dir →
    IsNoted dirs dir

-- the code's entries make a tree, each of them once; a look-up among them finds what is at each path, and the
-- directories of all files `default*.do` are noted
pub record IsKept (es : List (List ℕ × Entry)) (dirs : List (List ℕ)) : Type 0 where
  pub tree : IsTree (tree_of es)
  pub counted : length (tree_of es) ≡ length es
  pub found : (path : List ℕ) → option_map node_of (lookup (pointwise nat_eq path) es) ≡ node_at (tree_of es) path
  pub noted : NotesDefaults dirs (tree_of es)

-- an entry with the same node is at the path
abbrev pub HasEntry : List (List ℕ × Entry) → List ℕ → Entry → Type 0
HasEntry es path entry = option_map node_of (lookup (pointwise nat_eq path) es) ≡ Some (node_of entry)

-- each entry of the first list is one of the second
abbrev pub AreAmong : List (List ℕ × Entry) → List (List ℕ × Entry) → Type 0
AreAmong es others =
    (path : List ℕ) (entry : Entry) → lookup (pointwise nat_eq path) es ≡ Some entry → HasEntry others path entry

-- the tree with the entries added in turn, or the first refusal
abbrev pub grown : Tree → List (List ℕ × Node) → Result Tree TreeFault
grown tree [] = Ok tree
grown tree (e ∷ es) = elim (added tree e.0 e.1) [ Ok next ↦ grown next es | Err fault ↦ Err fault ]
