-- The text of a report, by what is known.
use Rattle.std.proofs.Common.{◌≡◌, ◌∙◌, ◌++◌, ◌∷◌, [], ℕ, Bool, List, Option, ap, map}
use Rattle.std.specs.Borrow.{Bor}
use Rattle.json.specs.Print.{print}
use Rattle.json.specs.Token.{Token}
use Rattle.redo_diagnose.specs.declared.diagnosis.Diagnosis.{Diagnosis}
use Rattle.redo_explain.specs.declared.begun.Begun.{Begun}
use Rattle.redo_explain.specs.declared.begun.Reason.{Reason as ReasonHere}
use Rattle.redo_explain.specs.Views.{begun_view}
use Rattle.redo_names.specs.Paths.{is_among}
use Rattle.redo_past.specs.Past.{PastView}
use Rattle.redo_report.specs.declared.report.Row.{Row}
use Rattle.redo_told.specs.Blocked.{failed_paths}
use Rattle.redo_tree.specs.Tree.{Tree}
use Rattle.redo_which.specs.Rule.{found_of}
use Rattle.redo_why.specs.Reasons.{Reason}
use Rattle.redo_json.specs.Rows.{Known}
use Rattle.redo_json.specs.Told.{Reasons, diagnosis_in, known_of, reasons_in, report_tokens}
use Rattle.redo_json.specs.declared.told.Told.{Told}
use Rattle.redo_json.specs.inside.Known.{AreDiagnosesOf, AreReasonsOf, diagnoses_by, reasons_by}

abbrev known-with : Tree → Tree → Reasons → (List ℕ → Option Diagnosis) → (List ℕ → Bool) → Known
known-with sources before reason diagnosis failed =
    record { found = found_of sources; reason = reason; diagnosis = diagnosis; before = before; failed = failed }

-- the same values are known
pub same-known : (past : PastView) (sources before : Tree) (reasons : List (List ℕ × ReasonHere))
    (found : List (List ℕ × Bor Diagnosis)) (set : List (List ℕ)) (rows : List Row) (begun : List (List ℕ × Reason))
    (diagnoses : List Diagnosis) → sources ≡ past.sources → before ≡ past.tree → AreReasonsOf begun reasons →
    AreDiagnosesOf diagnoses found → ((p : List ℕ) → is_among set p ≡ is_among (failed_paths rows) p) →
    known-with sources before (reasons_by reasons) (diagnoses_by found) (is_among set) ≡ known_of past rows begun diagnoses
same-known past sources before reasons found set rows begun diagnoses of_past as_read are all has =
    ap (λ s. known-with s before (reasons_by reasons) (diagnoses_by found) (is_among set)) of_past
    ∙ ap (λ t. known-with past.sources t (reasons_by reasons) (diagnoses_by found) (is_among set)) as_read
    ∙ ap (λ (r : Reasons). known-with past.sources past.tree r (diagnoses_by found) (is_among set)) (λ i path. are path i)
    ∙ ap (λ (d : List ℕ → Option Diagnosis). known-with past.sources past.tree (reasons_in begun) d (is_among set))
    (λ i path. all path i)
    ∙ ap (λ (f : List ℕ → Bool). known-with past.sources past.tree (reasons_in begun) (diagnosis_in diagnoses) f)
    (λ i path. has path i)

-- the text of the tokens, where what was passed is what is told of
pub told-text : (text : List ℕ) (tokens : List Token) (known : Known) (past : PastView) (told : Told)
    (given others rows : List Row) (these begun : List Begun) (diagnoses : List Diagnosis) →
    text ≡ print tokens ++ 10 ∷ [] → tokens ≡ report_tokens known told given →
    known ≡ known_of past others (map begun_view these) diagnoses → given ≡ rows → others ≡ rows → these ≡ begun →
    text ≡ print (report_tokens (known_of past rows (map begun_view begun) diagnoses) told rows) ++ 10 ∷ []
told-text text tokens known past told given others rows these begun diagnoses is made k g o b =
    is ∙ ap (λ ts. print ts ++ 10 ∷ []) (made
    ∙ ap (λ k. report_tokens k told given) k
    ∙ ap (λ rs. report_tokens (known_of past rs (map begun_view these) diagnoses) told given) o
    ∙ ap (λ rs. report_tokens (known_of past rows (map begun_view these) diagnoses) told rs) g
    ∙ ap (λ bs. report_tokens (known_of past rows (map begun_view bs) diagnoses) told rows) b)
