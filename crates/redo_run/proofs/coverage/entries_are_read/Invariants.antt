use Rattle.std.proofs.Common.{take}
use Rattle.std.specs.Prelude.{flat_map}
use Rattle.redo_dir.specs.Loaded.{wants}
use Rattle.redo_reads.specs.Reads.{Covers, changed_in}
use Rattle.redo_run.proofs.coverage.entries_are_read.Given as goal

-- the first ones were read
abbrev pub invariant-loop-entry : goal.invariant-loop-entry
invariant-loop-entry l = Covers (wants l.wanted) l.tree (flat_map changed_in (take l.entry-index l.entries))
