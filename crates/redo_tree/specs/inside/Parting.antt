-- The entries kept while files are taken out of a tree.
use Rattle.std.specs.Prelude.{ℕ, List, map}
use Rattle.redo_tree.specs.declared.entries.Entry.{Entry}
use Rattle.redo_tree.specs.Tree.{Tree, node_of}

-- entries as contracts see them
abbrev pub nodes_of : List (List ℕ × Entry) → Tree
nodes_of es = map (λ e. (e.0, node_of e.1)) es
