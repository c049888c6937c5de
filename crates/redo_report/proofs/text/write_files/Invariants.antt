use Rattle.std.proofs.Common.{◌≡◌, ◌++◌, List, ℕ, drop, false}
use Rattle.std.specs.Prelude.{flat_map}
use Rattle.std.specs.Io.KnownBytes.{Appends}
use Rattle.redo_report.specs.ReportText.{file_text}
use Rattle.redo_report.proofs.text.write_files.Given as goal

-- the files so far were written, and those that are left follow them
abbrev pub invariant-loop-file : goal.invariant-loop-file
invariant-loop-file g l = record {
  works : g.W.ByteOut.has_failed l.out ≡ false;
  done : List ℕ;
  split : flat_map file_text l.fn.files ≡ done ++ flat_map file_text (drop l.file-index l.fn.files);
  gone : Appends (g.W.ByteOut.held l.fn.out) (g.W.ByteOut.held l.out) done;
}
