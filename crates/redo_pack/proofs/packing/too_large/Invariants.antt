use Rattle.std.proofs.Common.{◌≡◌, ◌++◌, false}
use Rattle.std.specs.List.{AllByRecursion}
use Rattle.redo_tree.specs.Tree.{Tree, file_at}
use Rattle.redo_pack.specs.inside.Large.{is_large}
use Rattle.redo_pack.proofs.LargeLemmas.{seen}
use Rattle.redo_pack.proofs.packing.too_large.Given as goal

-- the entries so far are no large files, and those that are left follow them
abbrev pub invariant-loop-path : goal.invariant-loop-path
invariant-loop-path l = record {
  done : Tree;
  split : l.fn.tree ≡ done ++ seen l.path-iterator;
  small : AllByRecursion (λ e. is_large (file_at l.fn.tree e.0) ≡ false) done;
}
