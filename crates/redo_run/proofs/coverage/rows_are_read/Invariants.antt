use Rattle.std.proofs.Common.{take}
use Rattle.std.specs.Arc.{arc_value}
use Rattle.std.specs.List.{AllByRecursion}
use Rattle.redo_dir.specs.Loaded.{wants}
use Rattle.redo_reads.specs.Reads.{HasReads}
use Rattle.redo_run.proofs.coverage.rows_are_read.Given as goal

-- the first ones were read
abbrev pub invariant-loop-row : goal.invariant-loop-row
invariant-loop-row l = AllByRecursion (λ row. HasReads (wants l.wanted) l.tree (arc_value row.deps)) (take l.row-index l.rows)
