-- Rows and entries, one after another.
use Rattle.std.specs.Prelude.{Bool, ◌&&◌, ℕ, List, [], filter, ◌∷◌}
use Rattle.std.specs.Str.{bytes_eq}
use Rattle.redo_record.specs.Progress.{changes}
use Rattle.redo_record.specs.declared.deps.Dep.{Dep}
use Rattle.redo_report.specs.declared.report.Row.{Row}
use Rattle.redo_told.specs.Blocked.{has_failed}

-- the path is that of a row whose target failed or is cyclic
abbrev pub is_failed_at : List ℕ → Row → Bool
is_failed_at path row = has_failed row && bytes_eq row.path path

-- the path of a change entry that is among these
abbrev pub blocker : (List ℕ → Bool) → Dep → List (List ℕ)
blocker failed dep = filter failed (changes (dep ∷ []))
