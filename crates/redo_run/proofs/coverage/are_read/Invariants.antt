use Rattle.std.proofs.Common.{take}
use Rattle.redo_dir.specs.Loaded.{wants}
use Rattle.redo_reads.specs.Reads.{HasReads}
use Rattle.redo_run.proofs.coverage.are_read.Given as goal

-- the first ones were read
abbrev pub invariant-loop-dep : goal.invariant-loop-dep
invariant-loop-dep l = HasReads (wants l.wanted) l.tree (take l.dep-index l.deps)
