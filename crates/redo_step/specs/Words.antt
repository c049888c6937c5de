-- The values of words, and the paths that they name.
use Rattle.std.specs.Prelude.{ℕ, List, [], ◌∷◌, Result, Ok}
use Rattle.redo_script.specs.Syntax.{Word}
use Rattle.redo_record.specs.declared.outcome.Why.TheVariants as why
use Rattle.redo_record.specs.Paths.{Path}
use Rattle.redo_step.specs.Path.{resolved}
use Rattle.redo_step.specs.Value.{value_of, value_bound}
use Rattle.redo_step.specs.Runs.{End, faulted, or_else, ◌>>=◌}
use Rattle.redo_step.specs.Setting.{Setting}

-- the value of a word, or the fault Unquoted
abbrev pub text_of : Setting → ℕ → Word → Result (List ℕ) End
text_of setting line word =
    or_else (faulted (why.Unquoted line)) (value_of setting.stands_for (value_bound setting.bound) word)

-- the values of words, from left to right
abbrev pub texts_of : Setting → ℕ → List Word → Result (List (List ℕ)) End
texts_of setting line [] = Ok []
texts_of setting line (w ∷ ws) = do
  text ← text_of setting line w
  texts ← texts_of setting line ws
  Ok (text ∷ texts)

-- the path that a text names from the script's directory, or the fault Outside
abbrev pub path_of : Setting → ℕ → List ℕ → Result Path End
path_of setting line text = or_else (faulted (why.Outside line)) (resolved setting.directory text)

-- the paths that texts name, from left to right
abbrev pub paths_of : Setting → ℕ → List (List ℕ) → Result (List Path) End
paths_of setting line [] = Ok []
paths_of setting line (text ∷ texts) = do
  path ← path_of setting line text
  paths ← paths_of setting line texts
  Ok (path ∷ paths)

-- the paths that these words name
abbrev pub operands_of : Setting → ℕ → List Word → Result (List Path) End
operands_of setting line ws = texts_of setting line ws >>= paths_of setting line
