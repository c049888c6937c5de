-- What redo-ifchange, redo-ifcreate and redo-always declare, and when they stop or fail.
use Rattle.std.specs.Prelude.{ℕ, Bool, false, ◌&&◌, ◌||◌, List, [], ◌∷◌, Option, Some, None, is_some}
use Rattle.std.specs.Prelude.{is_none, Result, Ok, Err, if◌then◌else◌}
use Rattle.redo_script.specs.Syntax.{Word}
use Rattle.redo_record.specs.declared.deps.DepKind.{DepKind}
use Rattle.redo_record.specs.declared.deps.DepKind.TheVariants as kinds
use Rattle.redo_record.specs.declared.outcome.Why.{Why}
use Rattle.redo_record.specs.declared.outcome.Why.TheVariants as why
use Rattle.std.specs.List.{filter}
use Rattle.redo_record.specs.Paths.{Path, with_new}
use Rattle.redo_record.specs.Answers.{Ask, is_failure}
use Rattle.redo_record.specs.Entries.{with_entries}
use Rattle.redo_step.specs.Runs.{End, Run, State, ends, faulted, goes, stopped, ◌>>=◌}
use Rattle.redo_step.specs.Setting.{Setting}
use Rattle.redo_step.specs.Words.{paths_of, texts_of}

-- the state with these paths declared
abbrev pub declaring : State → DepKind → List Path → State
declaring s kind ps = record s { entries = with_entries s.entries kind ps }

-- the path is no source and has no answer
abbrev pub lacks : Setting → Ask → Path → Bool
lacks setting ask p = is_none (setting.source p) && is_none (ask p)

-- the paths that lack an answer, each once, behind those found before
abbrev pub lacking : Setting → Ask → List Path → List Path → List Path
lacking setting ask found ps = with_new found (filter (lacks setting ask) ps)

-- the path is no source, and its answer is a failure
abbrev pub has_failed : Setting → Ask → Path → Bool
has_failed setting ask p = is_none (setting.source p) && is_failure (ask p)

-- whether one of these paths failed
abbrev pub any_failed : Setting → Ask → List Path → Bool
any_failed setting ask [] = false
any_failed setting ask (p ∷ ps) = has_failed setting ask p || any_failed setting ask ps

-- a redo-ifchange of paths, given those that lack answers: it stops, fails with Depends, or goes on
abbrev pub waited : Setting → Ask → ℕ → List Path → List Path → State → Run
waited setting ask line ps [] s = if any_failed setting ask ps then ends (faulted (why.Depends line)) s else goes s
waited setting ask line ps (q ∷ qs) s = ends (stopped (q ∷ qs)) s

-- redo-ifchange: its paths are declared, and then waited for
abbrev pub changed : Setting → Ask → ℕ → Result (List Path) End → State → Run
changed setting ask line (Err e) s = ends e s
changed setting ask line (Ok ps) s =
    waited setting ask line ps (lacking setting ask [] ps) (declaring s kinds.Change ps)

-- why redo-ifcreate refuses these paths: the first that exists or has a rule
abbrev pub obstacle : Setting → ℕ → List Path → Option Why
obstacle setting line [] = None
obstacle setting line (p ∷ ps) =
    if is_some (setting.source p) || setting.is_directory p then Some (why.Exists line)
    else if setting.has_rule p then Some (why.Buildable line)
    else obstacle setting line ps

-- these paths, unless one exists or has a rule
abbrev pub free_of : List Path → Option Why → Result (List Path) End
free_of paths None = Ok paths
free_of paths (Some w) = Err (faulted w)

-- the paths that these texts name, if redo-ifcreate takes them
abbrev pub free_paths : Setting → ℕ → List (List ℕ) → Result (List Path) End
free_paths setting line texts = do
  paths ← paths_of setting line texts
  free_of paths (obstacle setting line paths)

-- the paths that these words name, if redo-ifcreate takes them
abbrev pub free_operands : Setting → ℕ → List Word → Result (List Path) End
free_operands setting line ws = texts_of setting line ws >>= free_paths setting line

-- redo-ifcreate: its paths are declared
abbrev pub created : Result (List Path) End → State → Run
created (Err e) s = ends e s
created (Ok ps) s = goes (declaring s kinds.Create ps)

-- redo-always: an entry with the root as its path is declared
abbrev pub in_any_case : State → Run
in_any_case s = goes (declaring s kinds.Always ([] ∷ []))
