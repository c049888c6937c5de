-- What is told of the targets of a report that failed: which, and where in their scripts.
use Rattle.std.specs.Prelude.{◌≡◌, ◌⊎◌, ◌+◌, ◌≤◌, ◌==◌, ℕ, List, [], ◌∷◌, Option, Some, None, Contains, IfSome, flat_map}
use Rattle.std.specs.Prelude.{if◌then◌else◌, length, map, option_map, take}
use Rattle.std.specs.Arc.{arc_value}
use Rattle.redo_names.specs.Paths.{IsAmong}
use Rattle.redo_script.specs.Texts.{first_line}
use Rattle.redo_script.specs.Tokens.{line_after}
use Rattle.redo_tree.specs.Tree.{Tree}
use Rattle.redo_which.specs.Rule.{Arguments, Rule, found_of}
use Rattle.redo_record.specs.Progress.{changes}
use Rattle.redo_record.specs.declared.outcome.Outcome.{Outcome}
use Rattle.redo_record.specs.declared.outcome.Outcome.TheVariants as outcomes
use Rattle.redo_record.specs.declared.outcome.Why.{Why}
use Rattle.redo_record.specs.declared.outcome.Why.TheVariants as whys
use Rattle.redo_report.specs.declared.report.Row.{Row}
use Rattle.redo_diagnose.specs.declared.diagnosis.Diagnosed.{Diagnosed}
use Rattle.redo_diagnose.specs.declared.diagnosis.Diagnosis.{Diagnosis}
use Rattle.redo_diagnose.specs.declared.diagnosis.Place.{Place}

-- Which targets

-- a target's own reason; none if another one failed
abbrev pub own_reason : Why → Option Why
own_reason whys.NoRule = Some whys.NoRule
own_reason whys.Directory = Some whys.Directory
own_reason whys.NoDirectory = Some whys.NoDirectory
own_reason (whys.Script fault) = Some (whys.Script fault)
own_reason (whys.Exit status) = Some (whys.Exit status)
own_reason (whys.Depends line) = None
own_reason (whys.Unquoted line) = Some (whys.Unquoted line)
own_reason (whys.Outside line) = Some (whys.Outside line)
own_reason (whys.Undeclared line) = Some (whys.Undeclared line)
own_reason (whys.Exists line) = Some (whys.Exists line)
own_reason (whys.Buildable line) = Some (whys.Buildable line)
own_reason (whys.Direct line) = Some (whys.Direct line)
own_reason (whys.Elsewhere line) = Some (whys.Elsewhere line)
own_reason whys.BothOutputs = Some whys.BothOutputs
own_reason (whys.TooLarge line) = Some (whys.TooLarge line)
own_reason (whys.Format line) = Some (whys.Format line)

-- the own reason of a path that failed
abbrev pub reason_in : Outcome → Option Why
reason_in outcomes.Source = None
reason_in (outcomes.Built file) = None
reason_in (outcomes.Failed why) = own_reason why
reason_in outcomes.Cyclic = None

-- a path with its reason, if it has one
abbrev pub with_reason : List ℕ → Option Why → List (List ℕ × Why)
with_reason path None = []
with_reason path (Some why) = (path, why) ∷ []

-- the targets of some rows that failed for reasons of their own, in order, each with its reason
abbrev pub failures : List Row → List (List ℕ × Why)
failures rows = flat_map (λ row. with_reason row.path (reason_in row.outcome)) rows

-- a diagnosis tells of this target and this reason
abbrev pub told_of : Diagnosis → List ℕ × Why
told_of d = (d.target, d.why)

-- the diagnoses are those of the first failures, at most so many, and the others are counted
pub record AreFirst (rows : List Row) (most : ℕ) (diagnosed : Diagnosed) : Type 0 where
  pub first : map told_of diagnosed.diagnoses.items ≡ take most (failures rows)
  pub others : length (failures rows) ≡ length diagnosed.diagnoses.items + diagnosed.more

-- Where

-- the text from the line with this number on, if its first byte is in line `here`; none if it has fewer lines
abbrev pub rest_at : ℕ → ℕ → List ℕ → Option (List ℕ)
rest_at here number [] = if here == number then Some [] else None
rest_at here number (b ∷ bs) = if here == number then Some (b ∷ bs) else rest_at (line_after here b) number bs

-- the line of a text with this number, from 1, without its newline; none if the text has fewer
abbrev pub line_in : List ℕ → ℕ → Option (List ℕ)
line_in text number = option_map first_line (rest_at 1 number text)

-- the line that a reason names, if it names one
abbrev pub line_named : Why → Option ℕ
line_named whys.NoRule = None
line_named whys.Directory = None
line_named whys.NoDirectory = None
line_named (whys.Script fault) = Some fault.line
line_named (whys.Exit status) = None
line_named (whys.Depends line) = Some line
line_named (whys.Unquoted line) = Some line
line_named (whys.Outside line) = Some line
line_named (whys.Undeclared line) = Some line
line_named (whys.Exists line) = Some line
line_named (whys.Buildable line) = Some line
line_named (whys.Direct line) = Some line
line_named (whys.Elsewhere line) = Some line
line_named whys.BothOutputs = None
line_named (whys.TooLarge line) = Some line
line_named (whys.Format line) = Some line

-- a place marks bytes of this line of a text
pub record IsMark (text : List ℕ) (line : ℕ) (place : Place) : Type 0 where
  pub number : place.line ≡ line
  pub text_is : line_in text line ≡ Some place.text.items
  pub begins : 1 ≤ place.column
  pub ends : place.column + place.length ≤ 1 + length place.text.items

-- a place marks bytes of this file, which has this text, in the line that the reason names, if it names one
pub record IsIn (file text : List ℕ) (why : Why) (place : Place) : Type 0 where
  pub of_file : place.file ≡ file
  pub mark : IsMark text place.line place
  pub named : IfSome (line_named why) (λ line. place.line ≡ line)

-- a place marks bytes of a line in a source
abbrev pub MarksIn : (List ℕ → Option (List ℕ)) → Place → Type 0
MarksIn source place = (text : List ℕ) × (source place.file ≡ Some text) × IsMark text place.line place

-- the same in the line that the reason names, if it names one
abbrev pub IsInSource : (List ℕ → Option (List ℕ)) → Why → Place → Type 0
IsInSource source why place = MarksIn source place × IfSome (line_named why) (λ line. place.line ≡ line)

-- a diagnosis with a place marks it in a source
abbrev pub MarksSource : (List ℕ → Option (List ℕ)) → Diagnosis → Type 0
MarksSource source d = IfSome d.place (IsInSource source d.why)

-- In which script

-- the search over these sources finds this script for a target
abbrev pub IsScriptOf : Tree → List ℕ → List ℕ → Type 0
IsScriptOf tree target file = (missing : List (List ℕ)) × (arguments : Arguments) × (found_of tree target ≡ Rule file missing arguments)

-- a target failed without a script of its own
abbrev pub HasNoScript : Why → Type 0
HasNoScript why = (why ≡ whys.NoRule) ⊎ (why ≡ whys.Directory) ⊎ (why ≡ whys.NoDirectory)

-- the script of a row's target failed in this line as what it asks for failed, and asks for this path
abbrev pub FailsFor : Row → List ℕ → ℕ → Type 0
FailsFor row path line = (row.outcome ≡ outcomes.Failed (whys.Depends line)) × IsAmong (changes (arc_value row.deps)) path

-- a place is in the line in which a script failed that asks for this path
abbrev pub IsAskedAt : Tree → List Row → List ℕ → Place → Type 0
IsAskedAt tree rows path place =
    (row : Row) × Contains rows row × FailsFor row path place.line × IsScriptOf tree row.path place.file

-- a place is in the script of a target that failed for this reason; if it failed without one, in a script that asks for it
pub record IsPlaced (tree : Tree) (rows : List Row) (target : List ℕ) (why : Why) (place : Place) : Type 0 where
  pub own : (HasNoScript why → ⊥) → IsScriptOf tree target place.file
  pub asked : HasNoScript why → IsAskedAt tree rows target place

-- a diagnosis with a place has it there
abbrev pub MarksScript : Tree → List Row → Diagnosis → Type 0
MarksScript tree rows d = IfSome d.place (IsPlaced tree rows d.target d.why)
