-- A candidate as pieces of its text.
use Rattle.std.specs.Prelude.{ℕ, List, [], ◌∷◌, ◌++◌, codes}
use Rattle.redo_path.specs.Names.{IsPath}
use Rattle.redo_which.specs.Candidates.{Place}

-- what follows a directory in the path of a file in it, up to the end of this front of the file's name
abbrev pub prefix_of : List ℕ → List ℕ → List ℕ
prefix_of [] front = front
prefix_of (byte ∷ bytes) front = 47 ∷ front

-- the path of the .do file
abbrev pub spelled : List ℕ → List ℕ → List ℕ → List ℕ
spelled dir prefix suffix = dir ++ prefix ++ suffix ++ codes ".do"

abbrev pub place_in_pieces : List ℕ → List ℕ → List ℕ → ℕ → Place
place_in_pieces dir prefix suffix cut = record { do_file = spelled dir prefix suffix; dir = dir; cut = cut }

-- the pieces together are a path, and so is the directory
pub record ArePieces (dir prefix suffix : List ℕ) : Type 0 where
  pub is_dir : IsPath dir
  pub is_path : IsPath (spelled dir prefix suffix)
