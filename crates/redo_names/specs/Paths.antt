-- Lists of paths in the order in which they were first seen. A path is its text.
use Rattle.std.specs.Prelude.{ℕ, List, [], ◌≡◌, Bool, false, ◌⊎◌, ◌∷◌, ◌||◌, ◌++◌, if◌then◌else◌, bytes_eq}

-- a path's text
abbrev pub Path : Type 0
Path = List ℕ

-- the path is in the list
abbrev pub IsAmong : List Path → Path → Type 0
IsAmong [] p = ⊥
IsAmong (q ∷ qs) p = (q ≡ p) ⊎ IsAmong qs p

-- no path is in the list twice
abbrev pub AreDistinct : List Path → Type 0
AreDistinct [] = Unit {0}
AreDistinct (q ∷ qs) = (IsAmong qs q → ⊥) × AreDistinct qs

-- whether the path is in the list
abbrev pub is_among : List (List ℕ) → List ℕ → Bool
is_among [] p = false
is_among (q ∷ qs) p = bytes_eq q p || is_among qs p

-- the paths, followed by this path unless it is one of them
abbrev pub with_path : List (List ℕ) → List ℕ → List (List ℕ)
with_path ps p = if is_among ps p then ps else ps ++ p ∷ []

-- the paths, then those of the others that are new, each once
abbrev pub with_new : List (List ℕ) → List (List ℕ) → List (List ℕ)
with_new ps [] = ps
with_new ps (q ∷ qs) = with_new (with_path ps q) qs
