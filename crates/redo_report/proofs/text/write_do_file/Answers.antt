use Rattle.std.proofs.Common.{◌++◌, sym, subst, append-nil}
use Rattle.std.specs.Prelude.{codes}
use Rattle.redo_bundle.specs.Bundle.{Writes}
use Rattle.redo_report.specs.ReportText.{path_line}
use Rattle.redo_report.proofs.text.write_do_file.Goals as goal

pub returns-in-Some-clause-writes : goal.returns-in-Some-clause-writes
returns-in-Some-clause-writes g c =
    rw c.in-Some.is (subst (Writes _ _ c.write_path_line.result) (sym (append-nil (codes "dep change " ++ path_line c.in-Some.path.now))) c.write_path_line.ensures.writes)
