-- The first of some failures.
use Rattle.std.proofs.Common.{◌≡◌, ◌∙◌, ◌+◌, ◌-◌, ◌≤◌, ℕ, List, ap, arith, length, map, sym, take}
use Rattle.std.proofs.lemmas.List.{length-map, take-map, length-take}
use Rattle.std.proofs.Math.Nat.{min-le_right}
use Rattle.redo_diagnose.specs.Diagnoses.{AreFirst, failures, told_of}
use Rattle.redo_diagnose.specs.inside.Failures.{failure_of}
use Rattle.redo_diagnose.specs.declared.diagnosis.Diagnosed.{Diagnosed}
use Rattle.redo_diagnose.specs.declared.finding.Failure.{Failure}
use Rattle.redo_report.specs.declared.report.Row.{Row}

-- what is told of the first failures, and the number of the others
pub are-first : (rows : List Row) (most : ℕ) (fs : List Failure) (d : Diagnosed) →
    map failure_of fs ≡ failures rows → map told_of d.diagnoses.items ≡ map failure_of (take most fs) →
    d.more ≡ length fs - length (take most fs) → AreFirst rows most d
are-first rows most fs d found told more =
    let same : length d.diagnoses.items ≡ length (take most fs) =
    sym (length-map d.diagnoses.items told_of) ∙ ap length told ∙ length-map (take most fs) failure_of in
    let all : length (failures rows) ≡ length fs = sym (ap length found) ∙ length-map fs failure_of in
    let within = min-le_right most (length fs) in
    let short = length-take most fs in
    record {
      first = told ∙ sym (take-map failure_of most fs) ∙ ap (take most) found;
      others = omega (arith, same, all, within, short, more);
    }
