use Rattle.std.proofs.Common.{◌≡◌, ◌++◌, List, ℕ, drop, false}
use Rattle.std.specs.Prelude.{flat_map}
use Rattle.std.specs.Io.KnownBytes.{Appends}
use Rattle.redo_report.specs.ReportText.{dep_line}
use Rattle.redo_report.proofs.text.write_deps.Given as goal

-- the lines so far were written, and those that are left follow them
abbrev pub invariant-loop-dep : goal.invariant-loop-dep
invariant-loop-dep g l = record {
  works : g.W.ByteOut.has_failed l.out ≡ false;
  done : List ℕ;
  split : flat_map dep_line l.fn.deps ≡ done ++ flat_map dep_line (drop l.dep-index l.fn.deps);
  gone : Appends (g.W.ByteOut.held l.fn.out) (g.W.ByteOut.held l.out) done;
}
