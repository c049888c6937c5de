-- The lines of missing candidates.
use Rattle.std.specs.Prelude.{ℕ, List, [], ◌∷◌, ◌++◌, flat_map}
use Rattle.redo_which.specs.Candidates.{Place}

-- a line for each place: the front, then its .do file
abbrev pub lines_of : List ℕ → List Place → List ℕ
lines_of front places = flat_map (λ p. front ++ p.do_file ++ 10 ∷ []) places
