use Rattle.std.proofs.Common.{◌≡◌, ◌++◌, drop}
use Rattle.redo_tree.specs.Tree.{without}
use Rattle.redo_tree.specs.inside.Parting.{nodes_of}
use Rattle.redo_tree.proofs.parting.kept_of.Given as goal

-- what was kept so far, with what stays of the entries that are left, is what stays of all entries
abbrev pub invariant-entries : goal.invariant-entries
invariant-entries l =
    nodes_of l.kept ++ without (nodes_of (drop l.number l.entries)) l.names ≡ without (nodes_of l.entries) l.names
