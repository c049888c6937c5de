-- Files by their lengths.
use Rattle.std.specs.Prelude.{◌≡◌, ◌<◌, ℕ, Bool, false, List, Some, length, nat_le, slice_get}
use Rattle.redo_tree.specs.declared.entries.Entry.{Entry}
use Rattle.redo_tree.specs.Tree.{Node, Directory, File, node_of}

-- whether a node is a file of at least so many bytes
abbrev pub is_long : ℕ → Node → Bool
is_long least Directory = false
is_long least (File bytes) = nat_le least (length bytes)

-- none of the first n entries is such a file
abbrev pub NoneLongBelow : ℕ → List (List ℕ × Entry) → ℕ → Type 0
NoneLongBelow least es n =
    (k : ℕ) (e : List ℕ × Entry) → k < n → slice_get es k ≡ Some e → is_long least (node_of e.1) ≡ false
