use Rattle.std.proofs.Common.{◌≡◌, ◌++◌, List, ℕ, drop, false}
use Rattle.std.specs.Io.KnownBytes.{Appends}
use Rattle.redo_bundle.specs.Bundle.{body_of}
use Rattle.redo_tree.proofs.NodeLemmas.{seen}
use Rattle.redo_bundle.proofs.writing.write_bundle.Given as goal

-- the entries so far were written, and those that are left follow them
abbrev pub invariant-loop-path : goal.invariant-loop-path
invariant-loop-path g l = record {
  works : g.W.ByteOut.has_failed l.writer ≡ false;
  done : List ℕ;
  split : body_of (drop 1 l.fn.tree) ≡ done ++ body_of (seen l.path-iterator);
  gone : Appends (g.W.ByteOut.held l.fn.writer) (g.W.ByteOut.held l.writer) done;
}
