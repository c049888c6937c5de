-- Failures of the code.
use Rattle.std.specs.Prelude.{ℕ, List}
use Rattle.redo_record.specs.declared.outcome.Why.{Why}
use Rattle.redo_diagnose.specs.declared.finding.Failure.{Failure}

-- the target of a failure, and its reason
abbrev pub failure_of : Failure → List ℕ × Why
failure_of f = (f.target.now, f.why)
