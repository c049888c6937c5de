-- What a report is told as: one object of JSON, and a newline.
use Rattle.std.specs.Prelude.{◌≡◌, Bool, ℕ, List, [], ◌∷◌, ◌++◌, Option, bytes_eq, codes, count_by, flat_map}
use Rattle.std.specs.Prelude.{is_some, map}
use Rattle.std.specs.Map.{lookup}
use Rattle.json.specs.Print.{print}
use Rattle.json.specs.Token.{Token, begin_object, end_object, begin_array, end_array, key}
use Rattle.redo_report.specs.declared.report.Report.{Report}
use Rattle.redo_report.specs.declared.report.Row.{Row}
use Rattle.redo_diagnose.specs.declared.diagnosis.Diagnosis.{Diagnosis}
use Rattle.redo_names.specs.Paths.{is_among}
use Rattle.redo_which.specs.Rule.{found_of}
use Rattle.redo_past.specs.Past.{PastView}
use Rattle.redo_step.specs.Limits.{LimitsView}
use Rattle.redo_rules.specs.Build.{GivenView}
use Rattle.redo_rules.specs.Results.{IsGiven, IsResult}
use Rattle.redo_why.specs.Reasons.{Reason}
use Rattle.redo_explain.specs.Explained.{AreReasons}
use Rattle.redo_told.specs.Blocked.{failed_paths}
use Rattle.redo_json.specs.Members.{notes_member, number_member, outcome_word, rings_member}
use Rattle.redo_json.specs.Rows.{Known, row_tokens}
use Rattle.redo_json.specs.Run.{run_member}
use Rattle.redo_json.specs.declared.told.Told.{Told}

-- the reason for which the script of each path was begun, if it was
abbrev pub Reasons : Type 0
Reasons = List ℕ → Option Reason

-- the reasons of these begun scripts
abbrev pub reasons_in : List (List ℕ × Reason) → Reasons
reasons_in begun path = lookup (bytes_eq path) begun

-- the first of these diagnoses that is of a path, if there is one
abbrev pub diagnosis_in : List Diagnosis → List ℕ → Option Diagnosis
diagnosis_in diagnoses path = lookup (bytes_eq path) (map (λ d. (d.target, d)) diagnoses)

-- what is known by the past, the rows, the begun scripts and the diagnoses
abbrev pub known_of : PastView → List Row → List (List ℕ × Reason) → List Diagnosis → Known
known_of past rows begun diagnoses =
    record {
      found = found_of past.sources;
      reason = reasons_in begun;
      diagnosis = diagnosis_in diagnoses;
      before = past.tree;
      failed = is_among (failed_paths rows);
    }

-- whether this is the word for what became of a row
abbrev pub has_word : Reasons → List ℕ → Row → Bool
has_word reasons word row = bytes_eq (outcome_word row.outcome (is_some (reasons row.path))) word

-- how many rows have that word
unfoldable pub count_of : Reasons → List Row → List ℕ → ℕ
count_of reasons rows word = count_by (has_word reasons word) rows

abbrev pub count_member : Reasons → List Row → List ℕ → List ℕ → List Token
count_member reasons rows name word = number_member name (count_of reasons rows word)

abbrev pub built_members : Reasons → List Row → List Token
built_members reasons rows =
    count_member reasons rows (codes "built") (codes "built") ++ count_member reasons rows (codes "kept") (codes "kept")

abbrev pub other_members : Reasons → List Row → List Token
other_members reasons rows =
    count_member reasons rows (codes "failed") (codes "failed")
    ++ count_member reasons rows (codes "cyclic") (codes "cyclic")
    ++ count_member reasons rows (codes "sources") (codes "source")

abbrev pub summary_tokens : Reasons → List Row → List Token
summary_tokens reasons rows = begin_object ∷ [] ++ built_members reasons rows ++ other_members reasons rows ++ end_object ∷ []

abbrev pub rows_tokens : Known → List Row → List Token
rows_tokens known rows = flat_map (row_tokens known) rows

-- the status and the run
abbrev pub head_tokens : Told → List Token
head_tokens told = number_member (codes "status") told.status ++ run_member told.run.now

-- the rings and the notes
abbrev pub beside_tokens : Told → List Token
beside_tokens told = rings_member told.rings.now ++ notes_member told.notes.now told.dead.now

-- the status, the run, the rows in the report's order, what is told beside them, and how many rows there are of each kind
abbrev pub report_tokens : Known → Told → List Row → List Token
report_tokens known told rows =
    begin_object ∷ [] ++ head_tokens told
    ++ (key (codes "targets") ∷ begin_array ∷ []) ++ rows_tokens known rows ++ end_array ∷ []
    ++ beside_tokens told ++ key (codes "summary") ∷ [] ++ summary_tokens known.reason rows
    ++ end_object ∷ []

-- the text tells the report and what is told beside it, with some begun scripts and reasons; these are the scripts
-- that a build of this past and request has begun, each with the reason for which it was begun, if the report is what
-- that build came to
pub record IsTold (past : PastView) (report : Report) (told : Told) (text : List ℕ) : Type 0 where
  pub begun : List (List ℕ × Reason)
  pub text_is : text ≡ print (report_tokens (known_of past report.rows.items begun told.diagnoses.now) told report.rows.items)
      ++ 10 ∷ []
  pub reasons : (limits : LimitsView) (given : GivenView) → IsGiven past.tree told.run.now.request.now limits given →
      IsResult given report → AreReasons given report begun
