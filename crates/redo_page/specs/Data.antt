-- What the script of a page is told of the rows, piece by piece: one object of JSON. A path is a number: that of its row,
-- or one behind all rows.
use Rattle.std.specs.Prelude.{◌≡◌, ℕ, ◌+◌, ◌==◌, ◌⊎◌, Bool, true, false, IsSome, List, [], ◌∷◌, ◌++◌, Option, Some, None}
use Rattle.std.specs.Prelude.{bytes_eq, filter_map, flat_map, if◌then◌else◌, length, map}
use Rattle.std.specs.Option.{option_map_or}
use Rattle.std.specs.Arc.{arc_value}
use Rattle.std.specs.List.{list_any}
use Rattle.std.specs.Map.{keys_of, lookup}
use Rattle.redo_names.specs.Paths.{IsAmong}
use Rattle.redo_record.specs.Progress.{changes}
use Rattle.redo_record.specs.declared.deps.Dep.{Dep}
use Rattle.redo_record.specs.declared.deps.DepKind.TheVariants as kinds
use Rattle.redo_record.specs.declared.outcome.Outcome.{Outcome}
use Rattle.redo_record.specs.declared.outcome.Outcome.TheVariants as outcomes
use Rattle.redo_report.specs.ReportText.{why_words}
use Rattle.redo_report.specs.declared.report.Row.{Row}
use Rattle.redo_page.specs.Pages.{Known, row_word}
use Rattle.redo_page.specs.Parts.{Piece, Fixed, Number, Quoted, number_of_word, of_data}
use Rattle.redo_page.specs.declared.parts.DataPart.TheVariants as data_parts
use Rattle.redo_page.specs.declared.parts.Part.TheVariants as parts

-- Paths by number

-- paths with their numbers, from this one on
abbrev pub numbered_from : ℕ → List (List ℕ) → List (List ℕ × ℕ)
numbered_from n [] = []
numbered_from n (p ∷ ps) = (p, n) ∷ numbered_from (n + 1) ps

-- what the data says by number: the numbers of the paths that have no row, and for each row its height and its group
pub record Numbers : Type 0 where
  pub others : List (List ℕ × ℕ)
  pub height : ℕ → ℕ
  pub group : ℕ → ℕ

-- the number that a path has, or 0
abbrev pub or_zero : Option ℕ → ℕ
or_zero None = 0
or_zero (Some n) = n

abbrev pub number_or : Option ℕ → ℕ → ℕ
number_or None other = other
number_or (Some n) other = n

-- the number of a path: that of its row, or its own
abbrev pub number_of : Known → Numbers → List ℕ → ℕ
number_of known numbers path = number_or (known.row_of path) (or_zero (lookup (bytes_eq path) numbers.others))

-- Records

-- the paths that have to stay missing as the script has declared it. The candidates of the search come before its rule,
-- the first `change`, and aren't told.
abbrev pub missing_after : Bool → List Dep → List (List ℕ)
missing_after ruled [] = []
missing_after ruled (d ∷ ds) =
    elim d.kind [
      | kinds.Change ↦ missing_after true ds
      | kinds.Create ↦ if ruled then d.path ∷ missing_after ruled ds else missing_after ruled ds
      | kinds.Always ↦ missing_after ruled ds
    ]

abbrev pub is_always : Dep → Bool
is_always d = elim d.kind [ kinds.Change ↦ false | kinds.Create ↦ false | kinds.Always ↦ true ]

-- 1 where the target is made in each run
abbrev pub always_number : List Dep → ℕ
always_number deps = if list_any is_always deps then 1 else 0

-- Lists

-- a comma before each member of a list but the first
abbrev pub comma_pieces : ℕ → List Piece
comma_pieces n = if n == 0 then [] else of_data data_parts.Comma ∷ []

-- the members of a list, from number n on
abbrev pub series : {A : Type 0} → (ℕ → A → List Piece) → ℕ → List A → List Piece
series member n [] = []
series member n (x ∷ xs) = comma_pieces n ++ member n x ++ series member (n + 1) xs

-- numbers in brackets
abbrev pub numbers_pieces : List ℕ → List Piece
numbers_pieces ns =
    (of_data data_parts.Open ∷ []) ++ series (λ _ n. Number n ∷ []) 0 ns ++ of_data data_parts.Close ∷ []

-- Rows

-- how many bytes a target's file has
abbrev pub bytes_pieces : Outcome → List Piece
bytes_pieces (outcomes.Built (Some bytes)) = Number (length bytes) ∷ []
bytes_pieces _ = of_data data_parts.Null ∷ []

-- why a target failed, in the words of a report, if it did
abbrev pub reason_text : Outcome → List ℕ
reason_text (outcomes.Failed why) = why_words why
reason_text _ = []

-- what became of a row, and how many bytes it has
unfoldable pub ended_pieces : Known → Row → List Piece
ended_pieces known row =
    (of_data data_parts.Open ∷ Number (number_of_word (row_word known row)) ∷ of_data data_parts.Comma ∷ [])
    ++ bytes_pieces row.outcome ++ of_data data_parts.Comma ∷ []

-- its height and its group
unfoldable pub place_pieces : Numbers → ℕ → List Piece
place_pieces numbers n =
    Number (numbers.height n) ∷ of_data data_parts.Comma ∷ Number (numbers.group n) ∷ of_data data_parts.Comma ∷ []

-- what its record has: paths under `change`, missing ones, and `always`
unfoldable pub changes_pieces : Known → Numbers → List Dep → List Piece
changes_pieces known numbers deps =
    numbers_pieces (map (number_of known numbers) (changes deps)) ++ of_data data_parts.Comma ∷ []

unfoldable pub missing_pieces : Known → Numbers → List Dep → List Piece
missing_pieces known numbers deps =
    numbers_pieces (map (number_of known numbers) (missing_after false deps)) ++ of_data data_parts.Comma ∷ []

unfoldable pub entries_pieces : Known → Numbers → List Dep → List Piece
entries_pieces known numbers deps =
    changes_pieces known numbers deps ++ missing_pieces known numbers deps
    ++ Number (always_number deps) ∷ of_data data_parts.Comma ∷ []

-- why its script was begun, and why it failed
unfoldable pub reasons_pieces : Known → Row → List Piece
reasons_pieces known row =
    Quoted (option_map_or (λ why. why) (known.why row.path) []) ∷ of_data data_parts.Comma
    ∷ Quoted (reason_text row.outcome) ∷ of_data data_parts.Close ∷ []

unfoldable pub member_pieces : Known → Numbers → ℕ → Row → List Piece
member_pieces known numbers n row =
    ended_pieces known row ++ place_pieces numbers n ++ entries_pieces known numbers (arc_value row.deps) ++ reasons_pieces known row

-- The data

unfoldable pub paths_pieces : Numbers → List Row → List Piece
paths_pieces numbers rows =
    (of_data data_parts.Paths ∷ []) ++ series (λ _ row. Quoted row.path ∷ []) 0 rows
    ++ flat_map (λ path. of_data data_parts.Comma ∷ Quoted path ∷ []) (keys_of numbers.others)

-- the rows of the requested paths
abbrev pub requested_in : Known → List (List ℕ) → List ℕ
requested_in known request = filter_map known.row_of request

-- how many rows there are, and which were requested
unfoldable pub head_pieces : Known → List (List ℕ) → List Row → List Piece
head_pieces known request rows =
    (of_data data_parts.Count ∷ Number (length rows) ∷ of_data data_parts.Requested ∷ [])
    ++ series (λ _ n. Number n ∷ []) 0 (requested_in known request)

unfoldable pub data_pieces : Known → Numbers → List (List ℕ) → List Row → List Piece
data_pieces known numbers request rows =
    head_pieces known request rows ++ paths_pieces numbers rows ++ (of_data data_parts.Rows ∷ [])
    ++ series (member_pieces known numbers) 0 rows ++ of_data data_parts.End ∷ []

-- the end of the data, the script that makes tables, and the beginning of another one
unfoldable pub table_script_pieces : List Piece
table_script_pieces =
    of_data data_parts.Scripts ∷ Fixed parts.Table ∷ of_data data_parts.NextScript ∷ []

-- the data, and the scripts
unfoldable pub tail_pieces : Known → Numbers → List (List ℕ) → List Row → List Piece
tail_pieces known numbers request rows =
    (of_data data_parts.Begin ∷ []) ++ data_pieces known numbers request rows ++ table_script_pieces
    ++ Fixed parts.Graph ∷ of_data data_parts.NextScript ∷ Fixed parts.Script ∷ of_data data_parts.LastScript ∷ []

-- What the numbers say

-- a path has a number: that of a row, or one of its own
abbrev pub HasNumber : Known → Numbers → List ℕ → Type 0
HasNumber known numbers path = IsSome (known.row_of path) ⊎ IsSome (lookup (bytes_eq path) numbers.others)

-- the paths that have no row are numbered in their order, behind this many rows
abbrev pub AreNumbered : ℕ → List (List ℕ × ℕ) → Type 0
AreNumbered count others = others ≡ numbered_from count (keys_of others)

-- each path that the data tells of a record has a number
pub record HasNumbers (known : Known) (numbers : Numbers) (deps : List Dep) : Type 0 where
  pub changed : (path : List ℕ) → IsAmong (changes deps) path → HasNumber known numbers path
  pub missing : (path : List ℕ) → IsAmong (missing_after false deps) path → HasNumber known numbers path
