use Rattle.std.proofs.Common.{◌≡◌, Some, take}
use Rattle.std.specs.List.{AllByRecursion}
use Rattle.std.specs.Prelude.{flat_map}
use Rattle.redo_book.specs.Book.{Record, record_at}
use Rattle.redo_dir.specs.Loaded.{wants}
use Rattle.redo_reads.specs.Reads.{Covers, changed_in}
use Rattle.redo_run.proofs.coverage.rows_are_checked.Given as goal

-- the first ones were checked
abbrev pub invariant-loop-row : goal.invariant-loop-row
invariant-loop-row l = AllByRecursion (λ row. (r : Record) → record_at l.past.book row.path ≡ Some r → Covers (wants l.wanted) l.past.tree (flat_map changed_in r.entries)) (take l.row-index l.rows)
