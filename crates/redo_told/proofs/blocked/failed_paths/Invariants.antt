use Rattle.std.proofs.Common.{◌≡◌, List, ℕ, take}
use Rattle.redo_names.specs.Paths.{is_among}
use Rattle.redo_told.specs.Blocked.{failed_paths}
use Rattle.redo_told.proofs.blocked.failed_paths.Given as goal

-- the failed paths of the rows so far
abbrev pub invariant-loop-row : goal.invariant-loop-row
invariant-loop-row l = (p : List ℕ) → is_among l.failed p ≡ is_among (failed_paths (take l.row-index l.rows)) p
