-- The files that builds left and that a build needs no more.
use Rattle.std.specs.Prelude.{◌≡◌, Bool, ℕ, List, filter, not}
use Rattle.redo_clean.specs.Planned.{File, generated_files}
use Rattle.redo_names.specs.Paths.{is_among}
use Rattle.redo_past.specs.Past.{PastView}
use Rattle.redo_report.specs.ReportText.{path_line}
use Rattle.redo_report.specs.Reports.{row_paths}
use Rattle.redo_report.specs.declared.report.Report.{Report}

-- nothing is told of a file's path
abbrev pub is_untold : (List ℕ → Bool) → File → Bool
is_untold told file = not (told file.0)

-- the generated files of whose paths the report has no row, in path order: its build needs them no more
abbrev pub dead_files : PastView → Report → List File
dead_files past report = filter (is_untold (is_among (row_paths report))) (generated_files past)

-- the line of a file
abbrev pub file_line : File → List ℕ
file_line file = path_line file.0
