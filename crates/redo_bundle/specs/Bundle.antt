-- Bundles: the bytes of a tree, entry by entry.
use Rattle.std.specs.Prelude.{◌≡◌, ◌≢◌, ◌<◌, ◌≤◌, ◌+◌, ◌-◌, ◌*◌, ◌^◌, ◌==◌, ◌&&◌, ◌⊎◌, not, fold, Bool, ℕ, List, [], ◌∷◌}
use Rattle.std.specs.Prelude.{◌++◌, flat_map, length, take, drop, slice_index, nat_lt, nat_le, Option, Some, None}
use Rattle.std.specs.Prelude.{Result, Ok, Err, codes, decimal, if◌then◌else◌, option_map}
use Rattle.std.specs.List.{AllByRecursion, after_first, before_first, list_any}
use Rattle.std.specs.Str.{bytes_eq}
use Rattle.std.specs.Option.{option_or}
use Rattle.std.specs.Io.KnownBytes.{Appends}
use Rattle.redo_path.specs.Names.{IsPath}
use Rattle.redo_path.specs.Resolve.{resolved}
use Rattle.redo_bundle.specs.declared.faults.BundleFault.{BundleFault}
use Rattle.redo_bundle.specs.declared.faults.BundleFault.TheVariants.{Line, Path, Tree as TreeAt, Truncated, Read}
use Rattle.redo_bundle.specs.declared.faults.BundleFault.TheVariants.{Memory}
use Rattle.redo_tree.specs.Tree.{Node, Directory, File, Tree, top, added, file_at, grown}

-- the bytes of an entry
abbrev pub spelling : List ℕ × Node → List ℕ
spelling e = elim e.1 [
  | Directory ↦ codes "dir " ++ e.0 ++ 10 ∷ []
  | File bytes ↦ codes "file " ++ decimal (length bytes) ++ 32 ∷ e.0 ++ 10 ∷ bytes ++ 10 ∷ []
]

-- an entry that a bundle may have: a path below the root, and at most a gibibyte in a file
abbrev pub IsEntry : List ℕ × Node → Type 0
IsEntry e = (e.0 ≢ []) × IsPath e.0 × elim e.1 [ Directory ↦ Unit {0} | File bytes ↦ length bytes ≤ 2 ^ 30 ]

abbrev pub body_of : List (List ℕ × Node) → List ℕ
body_of es = flat_map spelling es

-- the text begins with entries that make this tree, and continues with the rest
pub record Begins (text : List ℕ) (es : List (List ℕ × Node)) (tree : Tree) (rest : List ℕ) : Type 0 where
  pub entries : AllByRecursion IsEntry es
  pub whole : text ≡ body_of es ++ rest
  pub makes : grown top es ≡ Ok tree

-- the whole text is a bundle of the tree
abbrev pub IsBundle : List ℕ → Tree → Type 0
IsBundle text tree = (es : List (List ℕ × Node)) × Begins text es tree (codes "end\n")

abbrev pub is_newline : ℕ → Bool
is_newline byte = byte == 10

abbrev pub is_space : ℕ → Bool
is_space byte = byte == 32

-- the number, at most a gibibyte, that these decimal digits spell
abbrev pub size_of : List ℕ → Option ℕ
size_of digits =
    let n = fold (λ sum digit. 10 * sum + (digit - 48)) 0 digits in
    if bytes_eq (decimal n) digits && nat_le n (2 ^ 30) then Some n else None

-- what a header line gives: the size of a file, none for a directory, and the path
abbrev pub header_of : List ℕ → Option (Option ℕ × List ℕ)
header_of line =
    let words = drop 5 line in
    if bytes_eq (take 4 line) (codes "dir ") then Some (None, drop 4 line) else
    if bytes_eq (take 5 line) (codes "file ") && list_any is_space words
    then option_map (λ size. (Some size, after_first is_space words)) (size_of (before_first is_space words))
    else None

-- what is wrong with the path of a header, if anything
abbrev pub path_fault : ℕ → List ℕ → Option BundleFault
path_fault n path = elim (resolved [] path) [
  | Ok meant ↦ if bytes_eq meant path then None else Some (Line n)
  | Err fault ↦ Some (Path n fault)
]

-- why the tree refuses an entry that was read whole, if it does
abbrev pub tree_fault : ℕ → Tree → List ℕ → Node → Option BundleFault
tree_fault n tree path node = elim (added tree path node) [ Ok next ↦ None | Err fault ↦ Some (TreeAt n fault) ]

-- what is wrong with what follows a header, if anything
abbrev pub body_fault : ℕ → Tree → Option ℕ → List ℕ → List ℕ → Option BundleFault
body_fault n tree None path rest = tree_fault n tree path Directory
body_fault n tree (Some size) path rest =
    if nat_le (length rest) size then Some Truncated else
    if is_newline (slice_index rest size) then tree_fault n tree path (File (take size rest)) else Some (Line n)

-- what is wrong with entry n, if anything: its line's form is checked first, then the path, what it holds and last the
-- tree
abbrev pub entry_fault : ℕ → Tree → List ℕ → List ℕ → Option BundleFault
entry_fault n tree line rest = elim (header_of line) [
  | None ↦ Some (Line n)
  | Some header ↦ option_or (path_fault n header.1) (body_fault n tree header.0 header.1 rest)
]

-- what is wrong, if anything, with the text that follows n - 1 entries, which made this tree
abbrev pub fault_at : ℕ → Tree → List ℕ → Option BundleFault
fault_at n tree text =
    let line = before_first is_newline text in
    let rest = after_first is_newline text in
    if nat_lt 1100 (length line) then Some (Line n) else
    if not (list_any is_newline text) then Some Truncated else
    if bytes_eq line (codes "end") then (if nat_lt 0 (length rest) then Some (Line (n + 1)) else None) else
    entry_fault n tree line rest

-- the first fault of a text that is no bundle
abbrev pub IsRefused : List ℕ → BundleFault → Type 0
IsRefused text fault =
    (es : List (List ℕ × Node)) × (tree : Tree) × (rest : List ℕ) × Begins text es tree rest ×
    (fault_at (length es + 1) tree rest ≡ Some fault)

-- the line that a text begins with, or of one that is too long for a header a beginning
abbrev pub IsHeader : List ℕ → List ℕ → Type 0
IsHeader text line =
    let whole = before_first is_newline text in
    (line ≡ whole) ⊎ ((1100 < length whole) × ((more : List ℕ) × (whole ≡ line ++ more)))

-- the first fault of a text, and the header that was read last when it was found
abbrev pub IsRefusedAt : List ℕ → BundleFault → List ℕ → Type 0
IsRefusedAt text fault line =
    (es : List (List ℕ × Node)) × (tree : Tree) × (rest : List ℕ) × Begins text es tree rest ×
    (fault_at (length es + 1) tree rest ≡ Some fault) × IsHeader rest line

-- the text is a bundle, or has a first fault
abbrev pub IsBundleOrRefused : List ℕ → Type 0
IsBundleOrRefused text = ((tree : Tree) × IsBundle text tree) ⊎ ((fault : BundleFault) × IsRefused text fault)

-- the result of reading a text is its tree or its first fault, unless reading or memory failed
abbrev pub Reads : Result Tree BundleFault → List ℕ → Type 0
Reads (Ok tree) text = IsBundle text tree
Reads (Err Read) text = Unit {0}
Reads (Err Memory) text = Unit {0}
Reads (Err fault) text = IsRefused text fault

-- a text that was refused has its first fault at this header
abbrev pub ShowsHeader : Result Tree BundleFault → List ℕ → List ℕ → Type 0
ShowsHeader (Ok tree) line text = Unit {0}
ShowsHeader (Err Read) line text = Unit {0}
ShowsHeader (Err Memory) line text = Unit {0}
ShowsHeader (Err fault) line text = IsRefusedAt text fault line

-- the result of reading a text is the only tree that it is a bundle of, if any, unless reading or memory failed
abbrev pub ReadsEach : Result Tree BundleFault → List ℕ → Type 0
ReadsEach (Ok tree) text = (other : Tree) → IsBundle text other → other ≡ tree
ReadsEach (Err Read) text = Unit {0}
ReadsEach (Err Memory) text = Unit {0}
ReadsEach (Err fault) text = (other : Tree) → IsBundle text other → ⊥

-- the bundle of a tree: all entries but the root, in path order
abbrev pub bundle_of : Tree → List ℕ
bundle_of tree = body_of (drop 1 tree) ++ codes "end\n"

-- no file is larger than a bundle allows
abbrev pub HasSmallFiles : Tree → Type 0
HasSmallFiles tree = (path bytes : List ℕ) → file_at tree path ≡ Some bytes → length bytes ≤ 2 ^ 30

-- the writer holds the text after what it held or, after a failure, a prefix of the text
abbrev pub Writes : {E : Type 0} → Option (List ℕ) → Option (List ℕ) → Result (Unit {0}) E → List ℕ → Type 0
Writes old new (Ok x) text = Appends old new text
Writes old new (Err fault) text = (out more : List ℕ) × (text ≡ out ++ more) × Appends old new out
