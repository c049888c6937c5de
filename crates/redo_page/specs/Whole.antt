-- What a page tells of a report.
use Rattle.std.specs.Prelude.{◌≡◌, ◌<◌, ◌++◌, Bool, ℕ, List, Option, Some, bytes_eq, length, map, option_map, slice_get}
use Rattle.std.specs.Arc.{arc_value}
use Rattle.std.specs.Map.{lookup}
use Rattle.redo_names.specs.Paths.{is_among}
use Rattle.redo_tree.specs.Tree.{Tree}
use Rattle.redo_which.specs.Rule.{found_of}
use Rattle.redo_report.specs.declared.report.Report.{Report}
use Rattle.redo_report.specs.declared.report.Row.{Row}
use Rattle.redo_past.specs.Past.{PastView}
use Rattle.redo_step.specs.Limits.{LimitsView}
use Rattle.redo_rules.specs.Build.{GivenView}
use Rattle.redo_rules.specs.Results.{IsGiven, IsResult}
use Rattle.redo_why.specs.Reasons.{Reason}
use Rattle.redo_explain.specs.Explained.{AreReasons}
use Rattle.redo_explain.specs.Words.{reason_words}
use Rattle.redo_page.specs.Data.{AreNumbered, HasNumbers, Numbers, tail_pieces}
use Rattle.redo_page.specs.Grouping.{AreGrouped}
use Rattle.redo_page.specs.Pages.{Known, changed_in, row_of, shown_pieces, users_of}
use Rattle.redo_page.specs.Parts.{Piece, text_of}
use Rattle.redo_page.specs.declared.whole.Told.{Told}

-- whether a target has a diagnosis
abbrev pub is_diagnosed : Told → List ℕ → Bool
is_diagnosed told path = is_among (map (λ d. d.target) told.diagnoses.now) path

-- why the script of a path was begun, in words over these sources, if it is one of these
abbrev pub why_of : Tree → List (List ℕ × Reason) → List ℕ → Option (List ℕ)
why_of sources begun path = option_map (reason_words (found_of sources)) (lookup (bytes_eq path) begun)

-- what is shown without the script, and then the data and the scripts
abbrev pub page_pieces : Known → Numbers → Told → List Row → List Piece
page_pieces known numbers told rows =
    shown_pieces known told rows ++ tail_pieces known numbers told.run.now.request.now rows

-- the text is a page of the report with some begun scripts and reasons: its pieces in order, where a link leads to the
-- row of its path, each row tells which rows need it, a failure has a link to its diagnosis, a begun script its reason
-- in words, and a target with other bytes than the tree had is told so; each path that the data tells has a number, and
-- rows that are alike are grouped; these are the scripts that a build of this past and request has begun, each with the
-- reason for which it was begun, if the report is what that build came to
pub record IsPage (past : PastView) (report : Report) (told : Told) (text : List ℕ) : Type 0 where
  pub known : Known
  pub numbers : Numbers
  pub begun : List (List ℕ × Reason)
  pub text_is : text ≡ text_of (page_pieces known numbers told report.rows.items)
  pub links : (path : List ℕ) → known.row_of path ≡ row_of report.rows.items path
  pub users : (n : ℕ) → n < length report.rows.items → known.users n ≡ users_of report.rows.items n
  pub diagnosed : (path : List ℕ) → known.is_told path ≡ is_diagnosed told path
  pub whys : (path : List ℕ) → known.why path ≡ why_of past.sources begun path
  pub changed : (path : List ℕ) → known.is_changed path ≡ is_among (changed_in past.tree report.rows.items) path
  pub numbered : AreNumbered (length report.rows.items) numbers.others
  pub named : (n : ℕ) (row : Row) → slice_get report.rows.items n ≡ Some row →
      HasNumbers known numbers (arc_value row.deps)
  pub grouped : AreGrouped known report.rows.items numbers
  pub reasons : (limits : LimitsView) (given : GivenView) → IsGiven past.tree told.run.now.request.now limits given →
      IsResult given report → AreReasons given report begun
