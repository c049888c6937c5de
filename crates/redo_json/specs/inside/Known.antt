-- What the program knows of paths.
use Rattle.std.specs.Prelude.{◌≡◌, ℕ, List, Option, bytes_eq, option_map}
use Rattle.std.specs.Borrow.{Bor}
use Rattle.std.specs.Map.{lookup}
use Rattle.redo_diagnose.specs.declared.diagnosis.Diagnosis.{Diagnosis}
use Rattle.redo_explain.specs.declared.begun.Reason.{Reason as ReasonHere}
use Rattle.redo_explain.specs.Views.{reason_view}
use Rattle.redo_which.specs.Rule.{found_of}
use Rattle.redo_why.specs.Reasons.{Reason}
use Rattle.redo_names.specs.Paths.{is_among}
use Rattle.redo_json.specs.Rows.{Known}
use Rattle.redo_json.specs.Told.{Reasons, diagnosis_in, reasons_in}
use Rattle.redo_json.specs.declared.known.Known.{Known as KnownHere}

-- the reasons that the program found
abbrev pub reasons_by : List (List ℕ × ReasonHere) → Reasons
reasons_by found path = option_map reason_view (lookup (bytes_eq path) found)

-- these are the reasons of the begun scripts
abbrev pub AreReasonsOf : List (List ℕ × Reason) → List (List ℕ × ReasonHere) → Type 0
AreReasonsOf begun found = (path : List ℕ) → reasons_by found path ≡ reasons_in begun path

-- the diagnoses that the program found
abbrev pub diagnoses_by : List (List ℕ × Bor Diagnosis) → List ℕ → Option Diagnosis
diagnoses_by found path = option_map (λ d. d.now) (lookup (bytes_eq path) found)

-- these are the diagnoses
abbrev pub AreDiagnosesOf : List Diagnosis → List (List ℕ × Bor Diagnosis) → Type 0
AreDiagnosesOf diagnoses found = (path : List ℕ) → diagnoses_by found path ≡ diagnosis_in diagnoses path

-- what the program knows
abbrev pub known_by : KnownHere → Known
known_by known =
    record {
      found = found_of known.sources.now;
      reason = reasons_by known.reasons;
      diagnosis = diagnoses_by known.diagnoses;
      before = known.before.now;
      failed = is_among known.failed;
    }
