-- A report in few lines.
use Rattle.std.specs.Prelude.{◌==◌, ◌++◌, Bool, true, false, ℕ, List, [], ◌∷◌, codes, count_by, decimal, flat_map}
use Rattle.std.specs.Prelude.{if◌then◌else◌, not}
use Rattle.redo_names.specs.Paths.{is_among}
use Rattle.redo_record.specs.declared.outcome.Outcome.{Outcome}
use Rattle.redo_record.specs.declared.outcome.Outcome.TheVariants as outcomes
use Rattle.redo_report.specs.ReportText.{outcome_words, path_line}
use Rattle.redo_report.specs.declared.report.Report.{Report}
use Rattle.redo_report.specs.declared.report.Row.{Row}
use Rattle.redo_short.specs.declared.counts.Kind.{Kind}
use Rattle.redo_short.specs.declared.counts.Kind.TheVariants as kinds

-- Lines

-- what has a line: a target that its script built, failed or is cyclic; no source, and no target that was kept
abbrev pub is_told : Outcome → Bool → Bool
is_told outcomes.Source begun = false
is_told (outcomes.Built file) begun = begun
is_told (outcomes.Failed why) begun = true
is_told outcomes.Cyclic begun = true

-- what became of a path, as the report tells it, and the path
abbrev pub row_line : Row → List ℕ
row_line row = outcome_words row.outcome ++ 32 ∷ path_line row.path

abbrev pub row_lines : (List ℕ → Bool) → Row → List ℕ
row_lines begun row = if is_told row.outcome (begun row.path) then row_line row else []

-- Counts

-- a path with this outcome is a target of this kind, by whether its script was begun
abbrev pub is_of : Kind → Outcome → Bool → Bool
is_of kind outcomes.Source begun = false
is_of kinds.Target (outcomes.Built file) begun = true
is_of kinds.Built (outcomes.Built file) begun = begun
is_of kinds.Kept (outcomes.Built file) begun = not begun
is_of kinds.Failed (outcomes.Built file) begun = false
is_of kinds.Cyclic (outcomes.Built file) begun = false
is_of kinds.Target (outcomes.Failed why) begun = true
is_of kinds.Built (outcomes.Failed why) begun = false
is_of kinds.Kept (outcomes.Failed why) begun = false
is_of kinds.Failed (outcomes.Failed why) begun = true
is_of kinds.Cyclic (outcomes.Failed why) begun = false
is_of kinds.Target outcomes.Cyclic begun = true
is_of kinds.Built outcomes.Cyclic begun = false
is_of kinds.Kept outcomes.Cyclic begun = false
is_of kinds.Failed outcomes.Cyclic begun = false
is_of kinds.Cyclic outcomes.Cyclic begun = true

abbrev pub row_is_of : (List ℕ → Bool) → Kind → Row → Bool
row_is_of begun kind row = is_of kind row.outcome (begun row.path)

-- how many rows are targets of a kind
unfoldable pub count_of : (List ℕ → Bool) → List Row → Kind → ℕ
count_of begun rows kind = count_by (row_is_of begun kind) rows

-- a number of targets
abbrev pub counted : ℕ → List ℕ
counted count = if count == 1 then codes "1 target" else decimal count ++ codes " targets"

-- how many were built, and how many were kept
abbrev pub done : ℕ → ℕ → List ℕ
done built kept = (decimal built ++ codes " built, ") ++ (decimal kept ++ codes " kept")

-- a number and a word, behind what stands before; nothing of none
abbrev pub also : ℕ → List ℕ → List ℕ
also count word = if count == 0 then [] else codes ", " ++ decimal count ++ codes " " ++ word

-- how many targets there are, and how many of each kind
abbrev pub summary_of : (List ℕ → Bool) → List Row → List ℕ
summary_of begun rows =
    counted (count_of begun rows kinds.Target) ++ codes ": "
    ++ done (count_of begun rows kinds.Built) (count_of begun rows kinds.Kept)
    ++ also (count_of begun rows kinds.Failed) (codes "failed")
    ++ also (count_of begun rows kinds.Cyclic) (codes "cyclic")

-- The whole

abbrev pub short_of : (List ℕ → Bool) → List Row → List ℕ
short_of begun rows = flat_map (row_lines begun) rows ++ summary_of begun rows ++ codes "\n"

abbrev pub short_report : Report → List ℕ
short_report report = short_of (is_among report.begun.items) report.rows.items
