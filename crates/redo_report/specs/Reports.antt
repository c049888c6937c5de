-- The report of a build.
use Rattle.std.specs.Prelude.{◌≡◌, ℕ, ◌≤◌, ◌↔◌, ◌⊎◌, true, List, [], ◌∷◌, Some, map, All, Contains, length}
use Rattle.std.specs.Prelude.{if◌then◌else◌}
use Rattle.std.specs.Ordering.{nat_cmp}
use Rattle.std.specs.Cmp.Lexicographic.{slice_cmp}
use Rattle.std.specs.declared.cmp.Ordering.TheVariants.{Less}
use Rattle.std.specs.Arc.{arc_value}
use Rattle.redo_record.specs.Paths.{IsAmong}
use Rattle.redo_build.specs.Rules.{Rules}
use Rattle.redo_build.specs.Outcomes.{outcome_at, needed_at, final_outcome, record_of}
use Rattle.redo_report.specs.declared.report.Report.{Report}
use Rattle.redo_record.specs.declared.deps.Dep.{Dep}
use Rattle.redo_record.specs.declared.outcome.Outcome.TheVariants.{Built}

-- the paths ascend by their bytes, and none occurs twice
abbrev pub AreAscending : List (List ℕ) → Type 0
AreAscending [] = Unit {0}
AreAscending (p ∷ []) = Unit {0}
AreAscending (p ∷ q ∷ ps) = (slice_cmp nat_cmp p q ≡ Less) × AreAscending (q ∷ ps)

abbrev pub row_paths : Report → List (List ℕ)
row_paths report = map (λ row. row.path) report.rows.items

abbrev pub deps_of : Rules → ℕ → List ℕ → List Dep
deps_of r limit p = if r.is_source p then [] else record_of r limit p

-- a report has the needed targets and the requested sources with their outcomes and records, the built files, and the
-- targets whose script was begun
pub record IsReport (r : Rules) (request : List (List ℕ)) (limit : ℕ) (report : Report) : Type 0 where
  pub within : length (needed_at r request limit) ≤ limit
  pub rows : (p : List ℕ) → IsAmong (row_paths report) p ↔
      (IsAmong (needed_at r request limit) p ⊎ (IsAmong request p × (r.is_source p ≡ true)))
  pub outcomes : All (λ row. (row.outcome ≡ final_outcome r limit row.path) ×
      (arc_value row.deps ≡ deps_of r limit row.path)) report.rows.items
  pub files : (p bytes : List ℕ) → Contains report.files.items (p, bytes) ↔
      (IsAmong (needed_at r request limit) p × (final_outcome r limit p ≡ Built (Some bytes)))
  pub begun : (p : List ℕ) → IsAmong report.begun.items p ↔
      (IsAmong (needed_at r request limit) p × (r.has_rule p ≡ true) × (r.begins p (outcome_at r limit) ≡ true))
  pub rows_ordered : AreAscending (row_paths report)
  pub files_ordered : AreAscending (map (λ file. file.0) report.files.items)
  pub begun_ordered : AreAscending report.begun.items
