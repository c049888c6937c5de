-- What cat and test read: the files of declared paths.
use Rattle.std.specs.Prelude.{ℕ, Bool, ◌||◌, not, List, [], ◌∷◌, ◌++◌, Option, Some, None, is_some, Result, Ok, Err}
use Rattle.std.specs.Prelude.{if◌then◌else◌}
use Rattle.redo_script.specs.Syntax.{Word, Test, is_file, equal, differ}
use Rattle.redo_record.specs.declared.deps.DepKind.TheVariants as kinds
use Rattle.redo_record.specs.declared.outcome.Why.TheVariants as why
use Rattle.redo_record.specs.declared.outcome.Outcome.{Outcome}
use Rattle.std.specs.Str.{bytes_eq}
use Rattle.redo_record.specs.Paths.{Path}
use Rattle.redo_record.specs.Answers.{Ask, file_in}
use Rattle.redo_record.specs.Entries.{is_entered}
use Rattle.redo_record.specs.declared.deps.Dep.{Dep}
use Rattle.redo_step.specs.Runs.{End, State, exited, faulted, or_else, stopped, ◌>>=◌}
use Rattle.redo_step.specs.Setting.{Setting}
use Rattle.redo_step.specs.Words.{path_of, text_of}

-- The file of a path that redo-ifchange declared. A run from the first statement on never reads one that has no answer.
abbrev pub answered_file : Path → Option Outcome → Result (Option (List ℕ)) End
answered_file p (Some outcome) = Ok (file_in outcome)
answered_file p None = Err (stopped (p ∷ []))

-- the bytes of a source, or of a path that redo-ifchange declared and that was built with a file
abbrev pub file_at : Ask → List Dep → Path → Option (List ℕ) → Result (Option (List ℕ)) End
file_at ask es p (Some bytes) = Ok (Some bytes)
file_at ask es p None = if is_entered es kinds.Change p then answered_file p (ask p) else Ok None

-- whether a path was declared by redo-ifchange or redo-ifcreate
abbrev pub is_declared : List Dep → Path → Bool
is_declared es p = is_entered es kinds.Change p || is_entered es kinds.Create p

-- the file that a text names, if there is one; the faults are Outside, and then Undeclared
abbrev pub file_of : Setting → Ask → List Dep → ℕ → List ℕ → Result (Option (List ℕ)) End
file_of setting ask es line text = do
  path ← path_of setting line text
  if is_declared es path then file_at ask es path (setting.source path) else Err (faulted (why.Undeclared line))

-- the bytes of these files in order; a path without a file ends the script with status 1
abbrev pub contents_of : Setting → Ask → List Dep → ℕ → List (List ℕ) → Result (List ℕ) End
contents_of setting ask es line [] = Ok []
contents_of setting ask es line (text ∷ texts) = do
  file ← file_of setting ask es line text
  bytes ← or_else (exited 1) file
  more ← contents_of setting ask es line texts
  Ok (bytes ++ more)

-- the values of a test's words, from left to right
abbrev pub test_texts : Setting → ℕ → Test Word → Result (Test (List ℕ)) End
test_texts setting line (is_file w) = do
  text ← text_of setting line w
  Ok (is_file text)
test_texts setting line (equal v w) = do
  a ← text_of setting line v
  b ← text_of setting line w
  Ok (equal a b)
test_texts setting line (differ v w) = do
  a ← text_of setting line v
  b ← text_of setting line w
  Ok (differ a b)

-- whether a test holds, by the values of its words
abbrev pub holds : Setting → Ask → List Dep → ℕ → Test (List ℕ) → Result Bool End
holds setting ask es line (is_file text) = do
  file ← file_of setting ask es line text
  Ok (is_some file)
holds setting ask es line (equal a b) = Ok (bytes_eq a b)
holds setting ask es line (differ a b) = Ok (not (bytes_eq a b))

-- whether a test holds, with these entries
abbrev pub tested_in : Setting → Ask → List Dep → ℕ → Test Word → Result Bool End
tested_in setting ask es line t = do
  texts ← test_texts setting line t
  holds setting ask es line texts

-- whether a test holds in this state
abbrev pub tested : Setting → Ask → ℕ → Test Word → State → Result Bool End
tested setting ask line t s = tested_in setting ask s.entries line t
