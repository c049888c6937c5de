-- The name that is nearest to a word.
use Rattle.std.specs.Prelude.{◌≡◌, ◌<◌, ◌≤◌, ℕ, List, [], ◌∷◌, ◌++◌, Option, MatchOption, length, nat_eq}
use Rattle.std.specs.List.{AllByRecursion}
use Rattle.strsim.specs.Edits.{levenshtein_row}

-- how many edits lead from one text to another: a byte is put in, taken out or replaced
abbrev pub edits : List ℕ → List ℕ → ℕ
edits from to = levenshtein_row nat_eq from to (length to)

-- a name to which the fewest edits lead, the first of these
pub record IsNearest (word : List ℕ) (names : List (List ℕ)) (found : List ℕ) : Type 0 where
  pub before : List (List ℕ)
  pub after : List (List ℕ)
  pub there : names ≡ before ++ found ∷ after
  pub first : AllByRecursion (λ name. edits word found < edits word name) before
  pub least : AllByRecursion (λ name. edits word found ≤ edits word name) after

-- the nearest name, unless there is none at all
abbrev pub IsNear : List ℕ → List (List ℕ) → Option (List ℕ) → Type 0
IsNear word names found = MatchOption found (names ≡ []) (IsNearest word names)
