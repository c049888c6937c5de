-- Digests that were made of a tree's files.
use Rattle.std.specs.Prelude.{◌≡◌, ℕ, List, Some, length, option_map, slice_get}
use Rattle.std.specs.Map.{lookup}
use Rattle.std.specs.Str.{bytes_eq}
use Rattle.redo_digest.specs.Digest.{State, state_of}
use Rattle.redo_tree.specs.declared.entries.Entry.{Entry}
use Rattle.redo_tree.specs.Tree.{bytes_of, node_at, node_of, tree_of}

-- a look-up among the code's entries finds what is at each path
abbrev pub FindsNodes : List (List ℕ × Entry) → Type 0
FindsNodes es = (path : List ℕ) → option_map node_of (lookup (bytes_eq path) es) ≡ node_at (tree_of es) path

-- there is room for each entry's digest, and each digest made is that of the entry with its number
pub record AreMade (es : List (List ℕ × Entry)) (made : List State) : Type 0 where
  pub finds : FindsNodes es
  pub room : length made ≡ length es
  pub each : (n : ℕ) (digest : List ℕ) (e : List ℕ × Entry) → slice_get made n ≡ Some (Some digest) →
      slice_get es n ≡ Some e → state_of (bytes_of (node_of e.1)) ≡ Some digest
