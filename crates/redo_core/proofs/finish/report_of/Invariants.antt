use Rattle.std.proofs.Common.{◌≡◌, ◌++◌, Bool, List, drop, map}
use Rattle.redo_core.specs.inside.Reported.{AreRowsOf, listed_paths, row_files, row_begun}
use Rattle.redo_core.proofs.finish.report_of.Given as goal

-- the report so far is made of its rows, and with the paths that are left it is the whole
abbrev pub invariant-loop-path : goal.invariant-loop-path
invariant-loop-path l = record {
  bits : List Bool;
  paths : map (λ row. row.path) l.report.rows.items ++ listed_paths (drop l.path-index l.path-items) ≡ listed_paths l.path-items;
  rows : AreRowsOf l.given l.table l.report.rows.items bits;
  files : l.report.files.items ≡ row_files l.report.rows.items;
  begun : l.report.begun.items ≡ row_begun l.report.rows.items bits;
}
