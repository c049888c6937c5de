use Rattle.std.proofs.Common.{◌≡◌, ◌++◌}
use Rattle.std.specs.Prelude.{filter_map}
use Rattle.redo_tree.specs.Tree.{Tree}
use Rattle.redo_notes.specs.Notes.{shadowed_at}
use Rattle.redo_notes.proofs.NoteLemmas.{seen}
use Rattle.redo_notes.proofs.finding.shadowed.Given as goal

-- the paths of the entries so far, and the entries that are left
abbrev pub invariant-loop-path : goal.invariant-loop-path
invariant-loop-path l = record {
  done : Tree;
  split : l.past.sources ≡ done ++ seen l.path-iterator;
  found : l.paths.items ≡ filter_map (shadowed_at l.past.sources) done;
}
