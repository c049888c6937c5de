use Rattle.std.proofs.Common.{◌≡◌, ◌++◌, filter, map}
use Rattle.std.specs.Map.{keys_of}
use Rattle.redo_tree.specs.Tree.{Tree}
use Rattle.redo_query.specs.Names.{is_named_file, standing}
use Rattle.redo_query.proofs.SourceLemmas.{seen}
use Rattle.redo_query.proofs.standing.sources.Given as goal

-- those of the entries so far that are named files, and the entries that are left
abbrev pub invariant-loop-path : goal.invariant-loop-path
invariant-loop-path l = record {
  done : Tree;
  split : l.past.sources ≡ done ++ seen l.path-iterator;
  named : map (λ path. path.now) l.paths.items ≡ keys_of (filter (is_named_file (standing l.past)) done);
}
