use Rattle.std.proofs.Common.{◌≡◌, ◌++◌}
use Rattle.redo_tree.specs.Tree.{Tree}
use Rattle.redo_pack.specs.Unpacks.{HasTexts}
use Rattle.redo_pack.proofs.LargeLemmas.{seen}
use Rattle.redo_pack.proofs.unpacking.first_no_text.Given as goal

-- the paths of the entries so far are text, and those that are left follow them
abbrev pub invariant-loop-path : goal.invariant-loop-path
invariant-loop-path l = record {
  done : Tree;
  split : l.fn.tree ≡ done ++ seen l.path-iterator;
  texts : HasTexts done;
}
