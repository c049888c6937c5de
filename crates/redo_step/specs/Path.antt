-- Paths, as scripts name them: a path is its text.
use Rattle.std.specs.Prelude.{ℕ, List, Option, Some, None, Ok, Err}
use Rattle.redo_path.specs.Resolve as paths
use Rattle.redo_record.specs.Paths.{Path}

-- The path that a word names from a directory, or none where it is refused.
unfoldable pub resolved : Path → List ℕ → Option Path
resolved base word = elim (paths.resolved base word) [ Ok path ↦ Some path | Err fault ↦ None ]
