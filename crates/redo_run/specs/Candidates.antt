-- The list of a target's candidates, one a line.
use Rattle.std.specs.Prelude.{◌≡◌, ℕ, List, ◌++◌, Option, Some, None, flat_map, option_map}
use Rattle.redo_report.specs.ReportText.{path_line}
use Rattle.redo_tree.specs.Tree.{Tree}
use Rattle.redo_which.specs.Candidates.{Place}
use Rattle.redo_which.specs.Rule.{chosen_of, is_file, missing_of}
use Rattle.redo_which.specs.Views.{place_of}
use Rattle.redo_which.specs.declared.Search.{Search}

-- the .do files that are missing, and the one that was chosen
abbrev pub list_text : List (List ℕ) → Option Place → List ℕ
list_text missing None = flat_map path_line missing
list_text missing (Some place) = flat_map path_line missing ++ path_line place.do_file

-- the list of a target's candidates, up to the first that is a file
abbrev pub candidate_text : Tree → List ℕ → List ℕ
candidate_text tree target = list_text (missing_of tree target) (chosen_of tree target)

-- trees with files at the same paths, whatever is in them
abbrev pub HaveSameFiles : Tree → Tree → Type 0
HaveSameFiles one two = (path : List ℕ) → is_file two path ≡ is_file one path

-- the candidates that a search looked at
abbrev pub search_text : Search → List ℕ
search_text found = list_text found.missing.items (option_map place_of found.chosen)
