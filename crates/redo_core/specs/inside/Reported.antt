-- How a report is made of a table whose targets wait or are decided.
use Rattle.std.specs.Prelude.{◌≡◌, ◌⊎◌, ◌↔◌, Bool, true, false, ℕ, List, [], ◌∷◌, ◌++◌, ◌<◌, length, Option, Some}
use Rattle.std.specs.Prelude.{MatchOption, filter, flat_map, is_some, map, slice_get, if◌then◌else◌}
use Rattle.std.specs.Arc.{arc_value}
use Rattle.std.specs.Borrow.{Bor}
use Rattle.redo_tree.specs.Tree.{Tree, file_at}
use Rattle.redo_step.specs.JobView.{record_so_far}
use Rattle.redo_record.specs.declared.deps.Dep.{Dep}
use Rattle.redo_record.specs.declared.outcome.Outcome.{Outcome}
use Rattle.redo_record.specs.declared.outcome.Outcome.TheVariants.{Source, Built, Cyclic}
use Rattle.redo_record.specs.Paths.{IsAmong}
use Rattle.redo_report.specs.Reports.{AreAscending, row_paths}
use Rattle.redo_report.specs.declared.report.Report.{Report}
use Rattle.redo_report.specs.declared.report.Row.{Row}
use Rattle.redo_rules.specs.Build.{GivenView}
use Rattle.redo_core.specs.inside.Checking.{seen_entries}
use Rattle.redo_core.specs.inside.Decided.{IsDecided}
use Rattle.redo_core.specs.declared.table.Slot.{Slot}
use Rattle.redo_core.specs.declared.table.Stage.{Stage}
use Rattle.redo_core.specs.declared.table.Stage.TheVariants.{Checking, Waiting, Decided}
use Rattle.redo_core.specs.declared.table.Table.{Table}

abbrev pub sources_among : Tree → List (List ℕ) → List (List ℕ)
sources_among tree ps = filter (λ p. is_some (file_at tree p)) ps

-- these paths are the targets and the requested sources, in path order, each once
pub record AreReported (tree : Tree) (request targets paths : List (List ℕ)) : Type 0 where
  pub members : (p : List ℕ) → IsAmong paths p ↔
      (IsAmong targets p ⊎ (IsAmong request p × (is_some (file_at tree p) ≡ true)))
  pub ordered : AreAscending paths

-- the paths of what is made into rows; each comes with its number if it is a target
abbrev pub listed_paths : List (Bor (List ℕ) × Option ℕ) → List (List ℕ)
listed_paths es = map (λ e. e.0.now) es

-- the number of a path among the targets, or none if it isn't a target
abbrev pub IsNumberOf : List (List ℕ) → List ℕ → Option ℕ → Type 0
IsNumberOf targets p at = MatchOption at (IsAmong targets p → ⊥) (λ k. slice_get targets k ≡ Some p)

-- what a target comes to if nothing more can happen: one that waits is cyclic, and one that waits in its check shows
-- the entries that it has looked at
abbrev pub IsShown : GivenView → Stage → Outcome → List Dep → Type 0
IsShown given (Checking awaiting) outcome deps =
    (outcome ≡ Cyclic) × (deps ≡ seen_entries given awaiting.held.value.check)
IsShown given (Waiting begun) outcome deps = (outcome ≡ Cyclic) × (deps ≡ record_so_far begun.value.job)
IsShown given (Decided fact) outcome deps = (outcome ≡ fact.value.outcome) × (deps ≡ fact.value.deps)
IsShown given _ outcome deps = ⊥

abbrev pub is_settled : Stage → Bool
is_settled (Checking awaiting) = true
is_settled (Waiting begun) = true
is_settled (Decided fact) = true
is_settled _ = false

-- each target waits or is decided
abbrev pub AllSettled : Table → Type 0
AllSettled t = (k : ℕ) (slot : Slot) → slice_get t.slots.items k ≡ Some slot → is_settled slot.stage ≡ true

-- a check that waits is of a record in the book
abbrev pub IsTold : GivenView → Stage → Type 0
IsTold given (Checking awaiting) = awaiting.held.value.check.number < length given.past.book
IsTold given _ = Unit {0}

abbrev pub AllTold : GivenView → Table → Type 0
AllTold given t = (k : ℕ) (slot : Slot) → slice_get t.slots.items k ≡ Some slot → IsTold given slot.stage

-- whether the script of a target was begun: it was if the script waits, and wasn't if the check waits; else the fact
-- says it
abbrev pub IsBegunAs : Stage → Bool → Type 0
IsBegunAs (Checking awaiting) begun = begun ≡ false
IsBegunAs (Waiting held) begun = begun ≡ true
IsBegunAs (Decided fact) begun =
    (begun ≡ fact.value.begun) ×
    IsDecided fact.value.given fact.value.target fact.value.outcome fact.value.deps fact.value.begun
IsBegunAs _ begun = ⊥

-- the row is that of a target of the table
pub record IsTargetRow (given : GivenView) (t : Table) (row : Row) (is_begun : Bool) : Type 0 where
  pub at : ℕ
  pub slot : Slot
  pub path : slice_get t.targets at ≡ Some row.path
  pub there : slice_get t.slots.items at ≡ Some slot
  pub shown : IsShown given slot.stage row.outcome (arc_value row.deps)
  pub begun : IsBegunAs slot.stage is_begun

-- the row is that of a path that the table lacks
pub record IsSourceRow (t : Table) (row : Row) (is_begun : Bool) : Type 0 where
  pub absent : IsAmong t.targets row.path → ⊥
  pub outcome : row.outcome ≡ Source
  pub deps : arc_value row.deps ≡ []
  pub begun : is_begun ≡ false

abbrev pub IsRowOf : GivenView → Table → Row → Bool → Type 0
IsRowOf given t row is_begun = IsTargetRow given t row is_begun ⊎ IsSourceRow t row is_begun

-- the file that a row's target was built with
abbrev pub file_of : List ℕ → Outcome → List (List ℕ × List ℕ)
file_of path (Built (Some bytes)) = (path, bytes) ∷ []
file_of path _ = []

abbrev pub row_files : List Row → List (List ℕ × List ℕ)
row_files rows = flat_map (λ row. file_of row.path row.outcome) rows

-- the paths of the rows whose scripts were begun, as the bits beside them say
abbrev pub row_begun : List Row → List Bool → List (List ℕ)
row_begun (row ∷ rows) (bit ∷ bits) = (if bit then row.path ∷ [] else []) ++ row_begun rows bits
row_begun _ _ = []

-- rows, each with whether its target's script was begun
abbrev pub AreRowsOf : GivenView → Table → List Row → List Bool → Type 0
AreRowsOf given t [] [] = Unit {0}
AreRowsOf given t (row ∷ rows) (bit ∷ bits) = IsRowOf given t row bit × AreRowsOf given t rows bits
AreRowsOf given t _ _ = ⊥

-- a row was added, with its file if it was built with one, and its path if its script was begun
pub record AddsRow (row : Row) (is_begun : Bool) (old new : Report) : Type 0 where
  pub rows : new.rows.items ≡ old.rows.items ++ row ∷ []
  pub files : new.files.items ≡ old.files.items ++ file_of row.path row.outcome
  pub begun : new.begun.items ≡ old.begun.items ++ (if is_begun then row.path ∷ [] else [])

-- the report is made of the rows of the table's targets and of the requested sources
pub record IsReportOf (given : GivenView) (t : Table) (report : Report) : Type 0 where
  pub paths : AreReported given.past.sources given.request t.targets (row_paths report)
  pub bits : List Bool
  pub rows : AreRowsOf given t report.rows.items bits
  pub files : report.files.items ≡ row_files report.rows.items
  pub begun : report.begun.items ≡ row_begun report.rows.items bits
