-- A tree whose directories and files are made.
use Rattle.std.specs.Prelude.{◌≡◌, ◌≢◌, ◌++◌, ◌⊎◌, Bool, true, false, not, ℕ, List, [], ◌∷◌, Option, None, Some, IsUtf8}
use Rattle.std.specs.Prelude.{codes, decimal, filter, map, slice_get, take}
use Rattle.std.specs.List.{AllByRecursion}
use Rattle.std.specs.Str.{bytes_eq}
use Rattle.std.specs.declared.io.ErrorKind.{ErrorKind}
use Rattle.std.specs.declared.io.ErrorKind.TheVariants.{InvalidFilename}
use Rattle.redo_path.specs.Names.{name_of}
use Rattle.redo_tree.specs.Tree.{Directory, File, Node, Tree, file_at}
use Rattle.redo_which.specs.Candidates.{book_path}
use Rattle.redo_pack.specs.declared.system_top.Made.{Made}
use Rattle.redo_pack.specs.declared.system_top.Made.TheVariants as system
use Rattle.redo_pack.specs.declared.unpacking.UnpackFault.{UnpackFault}
use Rattle.redo_pack.specs.declared.unpacking.UnpackFault.TheVariants.{Device, Memory}

-- it is the path of the top directory
abbrev pub is_top : List ℕ → Bool
is_top [] = true
is_top (byte ∷ bytes) = false

-- it is the book: the file at its path, but no directory there
abbrev pub is_book : List ℕ × Node → Bool
is_book (path, Directory) = false
is_book (path, File bytes) = bytes_eq path book_path

-- what a tree has below its top directory, in path order
abbrev pub below : Tree → Tree
below tree = filter (λ e. not (is_top e.0)) tree

-- the same without the book
abbrev pub others : Tree → Tree
others tree = filter (λ e. not (is_book e)) (below tree)

-- the book, where a tree has one
abbrev pub book_entry : Option (List ℕ) → Tree
book_entry None = []
book_entry (Some bytes) = (book_path, File bytes) ∷ []

-- what a tree has below its top directory, in the order in which it is made: the book is the last, so that a directory
-- that has it has all
abbrev pub in_turn : Tree → Tree
in_turn tree = others tree ++ book_entry (file_at tree book_path)

-- what was made in a directory of the system
abbrev pub made_of : Made → List ℕ × Node
made_of (system.Directory path) = (path, Directory)
made_of (system.File path content) = (path, File content)

abbrev pub all_made : List Made → List (List ℕ × Node)
all_made made = map made_of made

-- a file by its path and its bytes
abbrev pub file_of : List ℕ × List ℕ → List ℕ × Node
file_of (path, bytes) = (path, File bytes)

-- the temporary name with this number
abbrev pub temporary_name : ℕ → List ℕ
temporary_name number = codes ".redo-unpack-" ++ decimal number ++ codes ".tmp"

-- a temporary name, and not the own one of the file at this path
abbrev pub IsTemporary : List ℕ → List ℕ → Type 0
IsTemporary path name = (number : ℕ) × (name ≡ temporary_name number) × (name ≢ name_of path)

-- the fault of a call at a path; where memory ran out, nothing is said of it
abbrev pub IsUnmade : UnpackFault → List ℕ → ErrorKind → Type 0
IsUnmade (Device place said) path kind = (place ≡ path) × (said ≡ kind)
IsUnmade Memory path kind = Unit {0}

-- each path of a tree is text
abbrev pub HasTexts : Tree → Type 0
HasTexts tree = AllByRecursion (λ e. IsUtf8 e.0) tree

-- the first path of a tree, in path order, that is no text
pub record IsFirstNoText (tree : Tree) (path : List ℕ) : Type 0 where
  pub front : Tree
  pub node : Node
  pub rest : Tree
  pub there : tree ≡ front ++ (path, node) ∷ rest
  pub texts : HasTexts front
  pub no_text : IsUtf8 path → ⊥

-- Why not all of these entries were made: the first were, and a call at the path of the next one was refused.
abbrev pub Halts : (List ℕ → ErrorKind → Type 0) → Tree → Tree → Tree → UnpackFault → Type 0
Halts refused entries before after (Device path kind) =
    (count : ℕ) × (node : Node) × (after ≡ before ++ take count entries) × (slice_get entries count ≡ Some (path, node)) × refused path kind
Halts refused entries before after Memory = (count : ℕ) × (after ≡ before ++ take count entries)

-- a path is told that is no text, the first one
abbrev pub TellsNoText : Tree → UnpackFault → Type 0
TellsNoText tree (Device path kind) = IsFirstNoText tree path × (kind ≡ InvalidFilename)
TellsNoText tree Memory = Unit {0}

-- Why not all of a tree was made: a path is no text, and nothing was made; or each is, and it halts at one.
abbrev pub Stops : (List ℕ → ErrorKind → Type 0) → Tree → Tree → Tree → UnpackFault → Type 0
Stops refused tree before after fault =
    (TellsNoText tree fault × (after ≡ before)) ⊎ (HasTexts tree × Halts refused (in_turn tree) before after fault)
