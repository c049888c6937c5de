-- The nearest of the names so far.
use Rattle.std.specs.Prelude.{◌≡◌, ℕ, List, [], Option, Some, None}
use Rattle.redo_query.specs.Nearest.{IsNearest, edits}
use Rattle.redo_query.specs.declared.nearest.Best.{Best}

-- the nearest name, and how many edits lead to it; none where there is no name
abbrev pub IsBest : List ℕ → List (List ℕ) → Option Best → Type 0
IsBest word names None = names ≡ []
IsBest word names (Some best) = IsNearest word names best.name.now × (best.count ≡ edits word best.name.now)
