use Rattle.std.proofs.Common.{◌≡◌, ◌-◌, length}
use Rattle.redo_dir.proofs.FrontLemmas.{IsUnderWay}
use Rattle.redo_dir.proofs.storing.store_files.Given as goal

-- the first of the files were stored
abbrev pub invariant-loop-stored : goal.invariant-loop-stored
invariant-loop-stored g l = (h : IsUnderWay l.tree l.files (g.D.WorkDir.done l.fn.dir) (g.D.WorkDir.done l.dir)) × (l.stored ≡ length h.front)

abbrev pub decreases-loop-stored : goal.decreases-loop-stored
decreases-loop-stored g l = length l.files - l.stored
