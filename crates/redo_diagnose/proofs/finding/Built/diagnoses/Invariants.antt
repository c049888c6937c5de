use Rattle.std.proofs.Common.{◌≡◌, All, map, take}
use Rattle.redo_tree.specs.Tree.{file_at}
use Rattle.redo_diagnose.specs.Diagnoses.{MarksScript, MarksSource, told_of}
use Rattle.redo_diagnose.specs.inside.Failures.{failure_of}
use Rattle.redo_diagnose.proofs.finding.Built.diagnoses.Given as goal

-- what is told of the failures so far, and each diagnosis marks a source, and the script in which it is
abbrev pub invariant-loop-failure : goal.invariant-loop-failure
invariant-loop-failure l = record {
  told : map told_of l.diagnoses.items ≡ map failure_of (take l.failure-index l.failures);
  marks : All (MarksSource (file_at l.self.sources.now)) l.diagnoses.items;
  placed : All (MarksScript l.self.sources.now l.self.report.now.rows.items) l.diagnoses.items;
}
