-- What a clean prints.
use Rattle.std.specs.Prelude.{◌++◌, ℕ, List, [], ◌∷◌, codes}
use Rattle.redo_clean.specs.declared.fate.Fate.{Fate}
use Rattle.redo_clean.specs.declared.fate.Fate.TheVariants.{Removed, Changed, NoFile, Gone}

-- the line of a file that was changed by hand
abbrev pub changed_line : List ℕ → List ℕ
changed_line path = codes "kept " ++ path ++ codes ": changed by hand\n"

-- the line of a file that would be removed
abbrev pub planned_line : List ℕ → List ℕ
planned_line path = codes "would remove " ++ path ++ codes "\n"

-- the line of a file by its fate; one that is gone has none
abbrev pub fate_line : List ℕ → Fate → List ℕ
fate_line path Removed = codes "removed " ++ path ++ codes "\n"
fate_line path Changed = changed_line path
fate_line path NoFile = codes "kept " ++ path ++ codes ": it is no plain file any more\n"
fate_line path Gone = []

-- the lines of the first of these files, by their fates
abbrev pub fate_lines : List (List ℕ) → List Fate → List ℕ
fate_lines [] fates = []
fate_lines (p ∷ ps) [] = []
fate_lines (p ∷ ps) (x ∷ xs) = fate_line p x ++ fate_lines ps xs
