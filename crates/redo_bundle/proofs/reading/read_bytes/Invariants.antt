use Rattle.std.proofs.Common.{◌≡◌, ◌≤◌, ◌-◌, length, false}
use Rattle.std.specs.Io.KnownBytes.{Consumes, prepend_known}
use Rattle.redo_bundle.proofs.reading.read_bytes.Given as goal

-- the bytes so far are what came since the call
abbrev pub invariant-loop-held : goal.invariant-loop-held
invariant-loop-held g l = record {
  works : g.R.ByteIn.has_failed l.reader ≡ false;
  short : length l.bytes.items ≤ l.size;
  came : Consumes (prepend_known l.fn.held (g.R.ByteIn.left l.fn.reader)) (prepend_known l.held (g.R.ByteIn.left l.reader)) l.bytes.items;
}

abbrev pub decreases-loop-held : goal.decreases-loop-held
decreases-loop-held g l = l.size - length l.bytes.items
