use Rattle.std.proofs.Common.{◌≡◌, ◌++◌}
use Rattle.std.specs.Prelude.{filter_map}
use Rattle.redo_tree.specs.Tree.{Tree}
use Rattle.redo_notes.specs.Notes.{has_record, is_asked, unbuilt_at}
use Rattle.redo_notes.proofs.NoteLemmas.{seen}
use Rattle.redo_notes.proofs.finding.unbuilt.Given as goal

-- the notes of the entries so far, and the entries that are left
abbrev pub invariant-loop-path : goal.invariant-loop-path
invariant-loop-path l = record {
  done : Tree;
  split : l.past.sources ≡ done ++ seen l.path-iterator;
  found : l.notes.items ≡ filter_map (unbuilt_at l.past.sources (is_asked l.request l.report.rows.items) (has_record l.past.book)) done;
}
