-- The candidates of a target, each once.
use Rattle.std.specs.Prelude.{ℕ, List, [], ◌∷◌, ◌++◌, codes, flat_map, length, if◌then◌else◌}
use Rattle.std.specs.Str.{bytes_eq}
use Rattle.redo_which.specs.Candidates.{Place, defaults_in, place_at, suffixes, upward}

-- the candidates in a directory by these suffixes
abbrev pub defaults_by : List (List ℕ) → List ℕ → List Place
defaults_by ends dir = flat_map (λ suffix. place_at dir (length suffix) (codes "default" ++ suffix ++ codes ".do")) ends

-- the suffixes of a name, without the longest if its candidate is the one by the whole name
abbrev pub without_whole : List ℕ → List (List ℕ) → List (List ℕ)
without_whole name [] = []
without_whole name (longest ∷ rest) = if bytes_eq name (codes "default" ++ longest) then rest else longest ∷ rest

-- the directories above a directory, up to the root
abbrev pub above : List (List ℕ) → List (List ℕ)
above [] = []
above (dir ∷ dirs) = dirs

-- the candidates of a name in a directory, each once
abbrev pub distinct_places : List ℕ → List ℕ → List Place
distinct_places dir name =
    place_at dir 0 (name ++ codes ".do")
    ++ defaults_by (without_whole name (suffixes name)) dir
    ++ flat_map (defaults_in name) (above (upward dir))
