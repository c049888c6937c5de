-- What the rows of a report are told as.
use Rattle.std.specs.Prelude.{Bool, ℕ, List, [], ◌∷◌, ◌++◌, Option, codes, is_some}
use Rattle.std.specs.Arc.{arc_value}
use Rattle.json.specs.Token.{Token, begin_object, end_object}
use Rattle.redo_tree.specs.Tree.{Tree}
use Rattle.redo_report.specs.declared.report.Row.{Row}
use Rattle.redo_diagnose.specs.declared.diagnosis.Diagnosis.{Diagnosis}
use Rattle.redo_which.specs.Rule.{Found}
use Rattle.redo_why.specs.Reasons.{Reason}
use Rattle.redo_json.specs.Made.{made_members}
use Rattle.redo_json.specs.Members.{begun_members, deps_member, diagnosis_member, outcome_members, outcome_word, path_members, text_member}

-- what is known of paths: what the search finds, the reason for which a script was begun, if it was, the diagnosis of a
-- target, if it has one, the tree that was read, and whether a target failed or is cyclic
pub record Known : Type 0 where
  pub found : List ℕ → Found
  pub reason : List ℕ → Option Reason
  pub diagnosis : List ℕ → Option Diagnosis
  pub before : Tree
  pub failed : List ℕ → Bool

-- what became of a row, and what is wrong with it
unfoldable pub ended_members : Known → Row → List Token
ended_members known row =
    text_member (codes "outcome") (outcome_word row.outcome (is_some (known.reason row.path)))
    ++ outcome_members row.outcome ++ diagnosis_member (known.diagnosis row.path)

abbrev pub row_tokens : Known → Row → List Token
row_tokens known row =
    begin_object ∷ [] ++ path_members row.path ++ ended_members known row
    ++ begun_members known.found (known.reason row.path) ++ made_members known.before known.failed row
    ++ deps_member (arc_value row.deps) ++ end_object ∷ []
