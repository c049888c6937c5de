use Rattle.std.proofs.Common.{◌≡◌, [], Ok, map, take}
use Rattle.redo_tree.specs.Tree.{grown, top}
use Rattle.redo_dir.specs.inside.Contents.{entry_of}
use Rattle.redo_dir.proofs.loading.tree_of.Given as goal

-- the tree has what was found at the first places
abbrev pub invariant-loop-place : goal.invariant-loop-place
invariant-loop-place l = record {
  made : grown top (map entry_of (take l.place-index l.places)) ≡ Ok l.tree;
  empty : l.empty-inside.bytes ≡ [];
}
