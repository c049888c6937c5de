-- What the parts of a command that writes do.
use Rattle.std.specs.Prelude.{ℕ, List, ◌++◌, Option, Bool, Result}
use Rattle.redo_script.specs.Syntax.{Writer, echo, printf, cat}
use Rattle.redo_step.specs.declared.writing.Writing.{Writing}
use Rattle.redo_step.specs.declared.writing.Writing.TheVariants as writings
use Rattle.redo_step.specs.Setting.{Setting}
use Rattle.redo_step.specs.Runs.{State, End, exited, Run, ◌>>=◌, or_else}
use Rattle.redo_step.specs.Files.{file_of}
use Rattle.redo_step.specs.Outputs.{bytes_of, limited, put}
use Rattle.redo_step.specs.Statements.{with_state}
use Rattle.redo_record.specs.Answers.{Ask}
use Rattle.redo_record.specs.declared.deps.Dep.{Dep}

-- the values of a command's words
abbrev pub writing_of : Writing → Writer (List ℕ)
writing_of (writings.Echo texts) = echo texts.items
writing_of (writings.Printf format texts) = printf format texts.items
writing_of (writings.Cat texts) = cat texts.items

-- the bytes of one file that cat is given
abbrev pub content_of : Setting → Ask → List Dep → ℕ → List ℕ → Result (List ℕ) End
content_of setting ask es line text = file_of setting ask es line text >>= or_else (exited 1)

-- these bytes, followed by what the command writes
abbrev pub appended : Setting → Ask → List Dep → ℕ → Writer (List ℕ) → List ℕ → Result (List ℕ) End
appended setting ask es line w before =
    bytes_of setting ask es line w >>= λ bytes. limited setting line (before ++ bytes)

-- the command's bytes, put where its redirection says
abbrev pub put_bytes : Setting → Ask → ℕ → Writer (List ℕ) → Option Bool → State → Run
put_bytes setting ask line w goal s = with_state (bytes_of setting ask s.entries line w >>= put setting line s goal) s
