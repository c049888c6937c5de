-- The text of a report.
use Rattle.std.specs.Prelude.{Bool, ℕ, List, [], ◌∷◌, ◌++◌, Some, None, codes, decimal, flat_map, length, if◌then◌else◌}
use Rattle.std.specs.Arc.{arc_value}
use Rattle.redo_script.specs.declared.fault.Reason.{Reason}
use Rattle.redo_script.specs.declared.fault.Reason.TheVariants as reasons
use Rattle.redo_bundle.specs.Bundle.{spelling}
use Rattle.redo_tree.specs.Tree.{File}
use Rattle.redo_record.specs.declared.deps.Dep.{Dep}
use Rattle.redo_record.specs.declared.deps.DepKind.{DepKind}
use Rattle.redo_record.specs.declared.deps.DepKind.TheVariants as kinds
use Rattle.redo_record.specs.declared.outcome.Outcome.{Outcome}
use Rattle.redo_record.specs.declared.outcome.Outcome.TheVariants as outcomes
use Rattle.redo_record.specs.declared.outcome.Why.{Why}
use Rattle.redo_record.specs.declared.outcome.Why.TheVariants as whys
use Rattle.redo_report.specs.declared.report.Row.{Row}
use Rattle.redo_report.specs.declared.report.Report.{Report}

-- Words

abbrev pub reason_word : Reason → List ℕ
reason_word reasons.Nul = codes "nul"
reason_word reasons.Interpreter = codes "interpreter"
reason_word reasons.OpenQuote = codes "openquote"
reason_word reasons.Unsupported = codes "unsupported"
reason_word reasons.UnknownCommand = codes "unknowncommand"
reason_word reasons.Shape = codes "shape"
reason_word reasons.IfShape = codes "ifshape"
reason_word reasons.TooDeep = codes "toodeep"
reason_word reasons.Memory = codes "memory"

-- a word and a number, such as a line of the script
abbrev pub word_at : List ℕ → ℕ → List ℕ
word_at word line = word ++ 32 ∷ decimal line

abbrev pub why_words : Why → List ℕ
why_words whys.NoRule = codes "norule"
why_words whys.Directory = codes "directory"
why_words whys.NoDirectory = codes "nodirectory"
why_words (whys.Script fault) = word_at (codes "script") fault.line ++ 32 ∷ reason_word fault.why
why_words (whys.Exit status) = word_at (codes "exit") status
why_words (whys.Depends line) = word_at (codes "depends") line
why_words (whys.Unquoted line) = word_at (codes "unquoted") line
why_words (whys.Outside line) = word_at (codes "outside") line
why_words (whys.Undeclared line) = word_at (codes "undeclared") line
why_words (whys.Exists line) = word_at (codes "exists") line
why_words (whys.Buildable line) = word_at (codes "buildable") line
why_words (whys.Direct line) = word_at (codes "direct") line
why_words (whys.Elsewhere line) = word_at (codes "elsewhere") line
why_words whys.BothOutputs = codes "both"
why_words (whys.TooLarge line) = word_at (codes "toolarge") line
why_words (whys.Format line) = word_at (codes "format") line

abbrev pub outcome_words : Outcome → List ℕ
outcome_words outcomes.Source = codes "source"
outcome_words (outcomes.Built None) = codes "built none"
outcome_words (outcomes.Built (Some bytes)) = codes "built " ++ decimal (length bytes)
outcome_words (outcomes.Failed why) = codes "failed " ++ why_words why
outcome_words outcomes.Cyclic = codes "cyclic"

-- Lines

abbrev pub path_line : List ℕ → List ℕ
path_line path = path ++ 10 ∷ []

-- an entry of a record; `always` has no path
abbrev pub dep_words : DepKind → List ℕ → List ℕ
dep_words kinds.Change path = codes "change " ++ path
dep_words kinds.Create path = codes "create " ++ path
dep_words kinds.Always path = codes "always"

abbrev pub dep_line : Dep → List ℕ
dep_line dep = codes "dep " ++ dep_words dep.kind dep.path ++ 10 ∷ []

-- what became of the path, the path, and its record
abbrev pub row_text : Row → List ℕ
row_text row = outcome_words row.outcome ++ 32 ∷ path_line row.path ++ flat_map dep_line (arc_value row.deps)

abbrev pub begun_line : List ℕ → List ℕ
begun_line path = codes "begun " ++ path_line path

-- a built file, in a bundle's form
abbrev pub file_text : List ℕ × List ℕ → List ℕ
file_text file = spelling (file.0, File file.1)

-- the line before a file's bytes: how many they are, and the path
abbrev pub file_head : ℕ → List ℕ → List ℕ
file_head size path = codes "file " ++ decimal size ++ 32 ∷ path_line path

-- the rows with their records, and the begun scripts
abbrev pub head_text : Report → List ℕ
head_text report = flat_map row_text report.rows.items ++ flat_map begun_line report.begun.items

-- the rows with their records, the begun scripts, the built files if they are wanted, and the end
abbrev pub report_text : Report → Bool → List ℕ
report_text report with_files =
    head_text report ++ (if with_files then flat_map file_text report.files.items else []) ++ codes "end\n"
