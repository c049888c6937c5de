use Rattle.std.proofs.Common.{◌≡◌, map, take}
use Rattle.redo_diagnose.specs.Diagnoses.{failures}
use Rattle.redo_diagnose.specs.inside.Failures.{failure_of}
use Rattle.redo_diagnose.proofs.finding.failures.Given as goal

-- the failures of the rows so far
abbrev pub invariant-loop-row : goal.invariant-loop-row
invariant-loop-row l = map failure_of l.failures.items ≡ failures (take l.row-index l.rows)
