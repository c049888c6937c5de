-- Commands that write: to standard output, or to $3.
use Rattle.std.specs.Prelude.{ℕ, Bool, true, false, nat_le, List, [], ◌∷◌, ◌++◌, length, Option, Some, None, Result, Ok}
use Rattle.std.specs.Prelude.{Err, if◌then◌else◌}
use Rattle.redo_script.specs.Syntax.{Word, Redirection, Writer, echo, printf, cat}
use Rattle.redo_record.specs.declared.outcome.Why.TheVariants as why
use Rattle.std.specs.Str.{bytes_eq}
use Rattle.redo_record.specs.Paths.{Path}
use Rattle.redo_record.specs.Answers.{Ask}
use Rattle.redo_record.specs.declared.deps.Dep.{Dep}
use Rattle.redo_step.specs.Runs.{End, State, faulted, or_else, ◌>>=◌}
use Rattle.redo_step.specs.Setting.{Setting}
use Rattle.redo_step.specs.Files.{contents_of}
use Rattle.redo_step.specs.Words.{path_of, text_of, texts_of}
use Rattle.redo_step.specs.Formats.{print_of}

-- the texts with one space between them
abbrev pub joined : List (List ℕ) → List ℕ
joined [] = []
joined (text ∷ []) = text
joined (text ∷ other ∷ texts) = text ++ (32 ∷ joined (other ∷ texts))

-- the values of a command's words, from left to right
abbrev pub writer_texts : Setting → ℕ → Writer Word → Result (Writer (List ℕ)) End
writer_texts setting line (echo ws) = do
  texts ← texts_of setting line ws
  Ok (echo texts)
writer_texts setting line (printf f ws) = do
  format ← text_of setting line f
  texts ← texts_of setting line ws
  Ok (printf format texts)
writer_texts setting line (cat ws) = do
  texts ← texts_of setting line ws
  Ok (cat texts)

-- the bytes that a command writes, from the values of its words
abbrev pub bytes_of : Setting → Ask → List Dep → ℕ → Writer (List ℕ) → Result (List ℕ) End
bytes_of setting ask es line (echo texts) = Ok (joined texts ++ 10 ∷ [])
bytes_of setting ask es line (printf format texts) = or_else (faulted (why.Format line)) (print_of format texts)
bytes_of setting ask es line (cat texts) = contents_of setting ask es line texts

-- whether a path is that of $3
abbrev pub is_third : Option Path → Path → Bool
is_third None p = false
is_third (Some third) p = bytes_eq third p

-- a redirection goes to $3; to the target itself is the fault Direct, to any other path Elsewhere
abbrev pub goal_at : Setting → ℕ → Bool → Path → Result (Option Bool) End
goal_at setting line appends path =
    if bytes_eq path setting.target then Err (faulted (why.Direct line))
    else if is_third setting.third path then Ok (Some appends)
    else Err (faulted (why.Elsewhere line))

-- whether the redirection, if any, appends
abbrev pub goal_of : Setting → ℕ → Option Redirection → Result (Option Bool) End
goal_of setting line None = Ok None
goal_of setting line (Some r) = do
  text ← text_of setting line r.word
  path ← path_of setting line text
  goal_at setting line r.appends path

-- the bytes of $3, none before it is created
abbrev pub bytes_or_none : Option (List ℕ) → List ℕ
bytes_or_none None = []
bytes_or_none (Some bytes) = bytes

-- these bytes if a file may have as many, else the fault TooLarge
abbrev pub limited : Setting → ℕ → List ℕ → Result (List ℕ) End
limited setting line bytes = if nat_le (length bytes) setting.limit then Ok bytes else Err (faulted (why.TooLarge line))

-- the bytes put behind standard output, behind those of $3, or in place of those of $3
abbrev pub put : Setting → ℕ → State → Option Bool → List ℕ → Result State End
put setting line s None bytes = do
  output ← limited setting line (s.output ++ bytes)
  Ok (record s { output = output })
put setting line s (Some true) bytes = do
  third ← limited setting line (bytes_or_none s.third ++ bytes)
  Ok (record s { third = Some third })
put setting line s (Some false) bytes = do
  third ← limited setting line bytes
  Ok (record s { third = Some third })

-- a command that writes; its faults are looked for in its words, its redirection, its own work, the limit
abbrev pub written : Setting → Ask → ℕ → Writer Word → Option Redirection → State → Result State End
written setting ask line w r s = do
  texts ← writer_texts setting line w
  goal ← goal_of setting line r
  bytes ← bytes_of setting ask s.entries line texts
  put setting line s goal bytes
