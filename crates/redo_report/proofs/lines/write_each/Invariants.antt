use Rattle.std.proofs.Common.{◌≡◌, ◌++◌, List, ℕ, false, take}
use Rattle.std.specs.Io.KnownBytes.{Appends}
use Rattle.std.specs.Iterator.Adapters.{take_count, take_source}
use Rattle.redo_which.specs.Lines.{lines_of}
use Rattle.redo_report.proofs.lines.write_each.Given as goal

-- the lines so far were written, and those that are left follow them
abbrev pub invariant-loop-candidate : goal.invariant-loop-candidate
invariant-loop-candidate g l = record {
  works : g.W.ByteOut.has_failed l.out ≡ false;
  done : List ℕ;
  split : lines_of l.front l.rest ≡ done ++ lines_of l.front (take (take_count l.candidate-iterator) (take_source l.candidate-iterator));
  gone : Appends (g.W.ByteOut.held l.fn.out) (g.W.ByteOut.held l.out) done;
}
