use Rattle.std.proofs.Common.{◌≡◌, ◌++◌, drop}
use Rattle.std.specs.Prelude.{flat_map}
use Rattle.redo_report.specs.ReportText.{path_line}
use Rattle.redo_run.proofs.candidates.text_of_search.Given as goal

-- the lines so far, with those that are left, are all
abbrev pub invariant-loop-path : goal.invariant-loop-path
invariant-loop-path l = l.text.items ++ flat_map path_line (drop l.path-index l.found.missing.items) ≡ flat_map path_line l.found.missing.items
