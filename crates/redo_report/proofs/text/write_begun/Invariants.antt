use Rattle.std.proofs.Common.{◌≡◌, ◌++◌, List, ℕ, drop, false}
use Rattle.std.specs.Prelude.{flat_map}
use Rattle.std.specs.Io.KnownBytes.{Appends}
use Rattle.redo_report.specs.ReportText.{begun_line}
use Rattle.redo_report.proofs.text.write_begun.Given as goal

-- the lines so far were written, and those that are left follow them
abbrev pub invariant-loop-path : goal.invariant-loop-path
invariant-loop-path g l = record {
  works : g.W.ByteOut.has_failed l.out ≡ false;
  done : List ℕ;
  split : flat_map begun_line l.fn.begun ≡ done ++ flat_map begun_line (drop l.path-index l.fn.begun);
  gone : Appends (g.W.ByteOut.held l.fn.out) (g.W.ByteOut.held l.out) done;
}
