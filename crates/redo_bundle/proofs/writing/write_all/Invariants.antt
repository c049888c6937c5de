use Rattle.std.proofs.Common.{◌≡◌, ◌++◌, List, ℕ, length, false}
use Rattle.std.specs.Io.KnownBytes.{Appends}
use Rattle.redo_bundle.proofs.writing.write_all.Given as goal

-- what is gone from the rest was written
abbrev pub invariant-loop-rest : goal.invariant-loop-rest
invariant-loop-rest g l = record {
  works : g.W.ByteOut.has_failed l.writer ≡ false;
  done : List ℕ;
  split : l.fn.bytes ≡ done ++ l.rest;
  gone : Appends (g.W.ByteOut.held l.fn.writer) (g.W.ByteOut.held l.writer) done;
}

abbrev pub decreases-loop-rest : goal.decreases-loop-rest
decreases-loop-rest g l = length l.rest
