-- The first candidates of a target, by their number.
use Rattle.std.specs.Prelude.{◌≡◌, ◌≤◌, IfSome, ℕ, List, [], ◌∷◌, ◌++◌, Option, Some, length, map, take}
use Rattle.redo_path.specs.Names.{IsPath, name_of, names, parent_of}
use Rattle.redo_which.specs.Candidates.{candidates_of}

-- the .do files of the first so many candidates
abbrev pub first_candidates : List ℕ → ℕ → List (List ℕ)
first_candidates target count = map (λ p. p.do_file) (take count (candidates_of target))

-- a path, and the directory that holds it
pub record LiesIn (target dir : List ℕ) : Type 0 where
  pub is_path : IsPath target
  pub parent : Some dir ≡ parent_of target
  pub split : names target ≡ names dir ++ name_of target ∷ []

-- a path that is the root, or lies in its parent
abbrev pub IsTarget : List ℕ → Type 0
IsTarget target = IfSome (parent_of target) (LiesIn target)

-- so many candidates there are
pub record AreFirst (target : List ℕ) (count : ℕ) : Type 0 where
  pub is_target : IsTarget target
  pub within : count ≤ length (candidates_of target)
