use Rattle.std.proofs.Common.{◌≡◌, drop}
use Rattle.redo_tree.specs.Tree.{tree_of, with_entries}
use Rattle.redo_tree.proofs.NodeLemmas.{seen}
use Rattle.redo_tree.proofs.entries.sorted.Given as goal

-- what was put so far, with each of the entries that are left, is the tree
abbrev pub invariant-entries : goal.invariant-entries
invariant-entries l = with_entries (seen l.sorted.entries) (drop l.number l.entries) ≡ tree_of l.entries
