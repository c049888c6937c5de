use Rattle.std.proofs.Common.{◌≡◌, ◌++◌, List, ℕ, drop, false}
use Rattle.std.specs.Prelude.{codes, flat_map}
use Rattle.std.specs.Io.KnownBytes.{Appends}
use Rattle.redo_report.specs.ReportText.{row_text}
use Rattle.redo_report.proofs.text.write_rows.Given as goal

-- the rows so far were written, and those that are left follow them
abbrev pub invariant-loop-row : goal.invariant-loop-row
invariant-loop-row g l = record {
  front : l.lines.0 ≡ codes "dep create ";
  works : g.W.ByteOut.has_failed l.out ≡ false;
  done : List ℕ;
  split : flat_map row_text l.fn.rows ≡ done ++ flat_map row_text (drop l.row-index l.fn.rows);
  gone : Appends (g.W.ByteOut.held l.fn.out) (g.W.ByteOut.held l.out) done;
}
