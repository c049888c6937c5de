use Rattle.std.proofs.Common.{◌≡◌, ◌-◌, ◌^◌, length, false}
use Rattle.std.specs.Io.KnownBytes.{prepend_known}
use Rattle.redo_bundle.proofs.TurnLemmas.{Reached}
use Rattle.redo_bundle.proofs.reading.read_bundle_by_line.Given as goal

-- the entries so far make the tree, and what came since the call is theirs
abbrev pub invariant-loop-parser : goal.invariant-loop-parser
invariant-loop-parser g l = record {
  works : g.R.ByteIn.has_failed l.reader ≡ false;
  reached : Reached (g.R.ByteIn.left l.fn.reader) (prepend_known l.parser.held (g.R.ByteIn.left l.reader)) l.parser.tree (length l.parser.tree);
}

abbrev pub decreases-loop-parser : goal.decreases-loop-parser
decreases-loop-parser g l = 2 ^ 63 - length l.parser.tree
