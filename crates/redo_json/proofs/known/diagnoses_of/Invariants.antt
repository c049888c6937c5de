use Rattle.std.proofs.Common.{take}
use Rattle.redo_json.specs.inside.Known.{AreDiagnosesOf}
use Rattle.redo_json.proofs.known.diagnoses_of.Given as goal

-- the diagnoses so far
abbrev pub invariant-loop-diagnosis : goal.invariant-loop-diagnosis
invariant-loop-diagnosis l = AreDiagnosesOf (take l.diagnosis-index l.diagnoses) l.found
