use Rattle.std.proofs.Common.{◌≡◌, ◌++◌}
use Rattle.redo_tree.specs.Tree.{Tree}
use Rattle.redo_pack.specs.Unpacks.{others}
use Rattle.redo_pack.proofs.LargeLemmas.{seen}
use Rattle.redo_pack.proofs.unpacking.make_others.Given as goal

-- the entries so far were made, and those that are left follow them
abbrev pub invariant-loop-path : goal.invariant-loop-path
invariant-loop-path g l = record {
  done : Tree;
  split : l.fn.tree ≡ done ++ seen l.path-iterator;
  made : g.D.Making.made l.dir ≡ g.D.Making.made l.fn.dir ++ others done;
}
