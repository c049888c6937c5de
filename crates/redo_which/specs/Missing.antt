-- Paths of missing candidates, each once.
use Rattle.std.specs.Prelude.{◌≡◌, false, ℕ, List, [], ◌∷◌, ◌++◌, bytes_eq}
use Rattle.std.specs.List.{list_any}

-- each of these paths differs from all before it
abbrev pub AreNewAfter : List (List ℕ) → List (List ℕ) → Type 0
AreNewAfter before [] = Unit {0}
AreNewAfter before (p ∷ ps) = (list_any (λ other. bytes_eq p other) before ≡ false) × AreNewAfter (before ++ p ∷ []) ps

-- no path occurs twice
abbrev pub AreDistinct : List (List ℕ) → Type 0
AreDistinct paths = AreNewAfter [] paths
