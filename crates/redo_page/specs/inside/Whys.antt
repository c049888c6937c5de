-- What the program knows of begun scripts, as the definitions see it.
use Rattle.std.specs.Prelude.{◌≡◌, ℕ, List, Option, Vec, bytes_eq, option_map, vec_items}
use Rattle.std.specs.Map.{lookup}
use Rattle.std.specs.declared.alloc.Global.{Global}
use Rattle.redo_tree.specs.Tree.{Tree}
use Rattle.redo_why.specs.Reasons.{Reason}
use Rattle.redo_page.specs.Whole.{why_of}

-- the words that the program has for a path
abbrev pub whys_by : List (List ℕ × Vec ℕ Global) → List ℕ → Option (List ℕ)
whys_by whys path = option_map vec_items (lookup (bytes_eq path) whys)

-- these are the words of the begun scripts' reasons
abbrev pub AreWhys : Tree → List (List ℕ × Reason) → List (List ℕ × Vec ℕ Global) → Type 0
AreWhys sources begun whys = (path : List ℕ) → whys_by whys path ≡ why_of sources begun path
