-- The operands of commands, and what each comes to by itself.
use Rattle.std.specs.Prelude.{ℕ, true, List, [], ◌∷◌, ◌++◌, map, Option, Some, None, Result, Ok, Err, if◌then◌else◌}
use Rattle.redo_script.specs.Syntax.{Word, Redirection, Test, is_file, equal, differ, Writer, echo, printf, cat}
use Rattle.redo_script.specs.Syntax.{Command, write, test, change, create, always, always_true, always_false, exit}
use Rattle.redo_script.specs.Syntax.{Condition, if_test, if_true, if_false}
use Rattle.redo_script.specs.Syntax.{byte, quoted, bare, named_quoted, named_bare}
use Rattle.redo_script.specs.declared.ast.Parameter.{Parameter}
use Rattle.redo_record.specs.declared.deps.Dep.{Dep}
use Rattle.redo_record.specs.declared.outcome.Why.TheVariants as why
use Rattle.redo_record.specs.Paths.{Path}
use Rattle.redo_record.specs.Answers.{Ask}
use Rattle.redo_step.specs.declared.operands.Role.{Role}
use Rattle.redo_step.specs.declared.operands.Role.TheVariants.{Text, Format, Shown, Tested, Changed, Created, Goal}
use Rattle.redo_step.specs.Value.{is_fit, value_of, value_bound}
use Rattle.redo_step.specs.Setting.{Setting}
use Rattle.redo_step.specs.Runs.{End, exited, faulted, or_else, ◌>>=◌}
use Rattle.redo_step.specs.Words.{text_of, path_of}
use Rattle.redo_step.specs.Files.{file_of}
use Rattle.redo_step.specs.Declaring.{has_failed, free_paths}
use Rattle.redo_step.specs.Outputs.{goal_at}

-- a word, and what is done with its value
pub record Operand : Type 0 where
  pub role : Role
  pub word : Word

-- words with the same role
abbrev pub all_as : Role → List Word → List Operand
all_as role ws = map (λ w. record { role = role; word = w }) ws

-- the word of a redirection
abbrev pub goal_operands : Option Redirection → List Operand
goal_operands None = []
goal_operands (Some r) = all_as Goal (r.word ∷ [])

-- the words of a command that writes
abbrev pub writer_operands : Writer Word → List Operand
writer_operands (echo ws) = all_as Text ws
writer_operands (printf f ws) = all_as Format (f ∷ []) ++ all_as Text ws
writer_operands (cat ws) = all_as Shown ws

-- the words of a test
abbrev pub test_operands : Test Word → List Operand
test_operands (is_file w) = all_as Tested (w ∷ [])
test_operands (equal v w) = all_as Text (v ∷ w ∷ [])
test_operands (differ v w) = all_as Text (v ∷ w ∷ [])

-- the words behind a command's name, then that of its redirection
abbrev pub command_operands : Command → List Operand
command_operands (write w r) = writer_operands w ++ goal_operands r
command_operands (test t) = test_operands t
command_operands (change ws) = all_as Changed ws
command_operands (create ws) = all_as Created ws
command_operands always = []
command_operands always_true = []
command_operands always_false = []
command_operands (exit n) = []

-- the words of a condition
abbrev pub condition_operands : Condition → List Operand
condition_operands (if_test t) = test_operands t
condition_operands if_true = []
condition_operands if_false = []

-- nothing but whether there is a value
abbrev pub checked : {A : Type 0} → Result A End → Result (Unit {0}) End
checked (Ok x) = Ok tt
checked (Err e) = Err e

-- a path that redo-ifchange declares: one that failed is the fault Depends
abbrev pub unless_failed : Setting → Ask → ℕ → Path → Result (Unit {0}) End
unless_failed setting ask line p = if has_failed setting ask p then Err (faulted (why.Depends line)) else Ok tt

-- a path for redo-ifchange; the faults are Outside, and then Depends
abbrev pub made_check : Setting → Ask → ℕ → List ℕ → Result (Unit {0}) End
made_check setting ask line text = path_of setting line text >>= unless_failed setting ask line

-- a path for a redirection; the faults are Outside, and then Direct and Elsewhere
abbrev pub goal_check : Setting → ℕ → List ℕ → Result (Unit {0}) End
goal_check setting line text = checked (path_of setting line text >>= goal_at setting line true)

-- What a value comes to by itself, with these entries. A format is at fault for Format, whatever printf is given.
abbrev pub value_check : Setting → Ask → ℕ → List Dep → Role → List ℕ → Result (Unit {0}) End
value_check setting ask line es Text text = Ok tt
value_check setting ask line es Format text = Err (faulted (why.Format line))
value_check setting ask line es Shown text = checked (file_of setting ask es line text >>= or_else (exited 1))
value_check setting ask line es Tested text = checked (file_of setting ask es line text)
value_check setting ask line es Changed text = made_check setting ask line text
value_check setting ask line es Created text = checked (free_paths setting line (text ∷ []))
value_check setting ask line es Goal text = goal_check setting line text

-- what an operand comes to by itself, with these entries
abbrev pub operand_check : Setting → Ask → ℕ → List Dep → Operand → Result (Unit {0}) End
operand_check setting ask line es o = text_of setting line o.word >>= value_check setting ask line es o.role

-- these bytes if they aren't fit to stand outside quotes, else the others
abbrev pub unfit_or : List ℕ → List ℕ → List ℕ
unfit_or bytes others = if is_fit bytes then others else bytes

-- what the first parameter or name outside quotes stands for that isn't fit; no bytes if all are
abbrev pub first_unfit : (parameters : Parameter → List ℕ) → (names : List ℕ → List ℕ) → Word → List ℕ
first_unfit parameters names [] = []
first_unfit parameters names (byte b ∷ word) = first_unfit parameters names word
first_unfit parameters names (quoted p ∷ word) = first_unfit parameters names word
first_unfit parameters names (bare p ∷ word) = unfit_or (parameters p) (first_unfit parameters names word)
first_unfit parameters names (named_quoted n ∷ word) = first_unfit parameters names word
first_unfit parameters names (named_bare n ∷ word) = unfit_or (names n) (first_unfit parameters names word)

-- the value of a word; where it has none, what the first parameter or name stands for that isn't fit
abbrev pub shown_value : (parameters : Parameter → List ℕ) → (names : List ℕ → List ℕ) → Word → List ℕ
shown_value parameters names word =
    elim (value_of parameters names word) [ None ↦ first_unfit parameters names word | Some value ↦ value ]

-- the same in a setting
abbrev pub shown_in : Setting → Word → List ℕ
shown_in setting word = shown_value setting.stands_for (value_bound setting.bound) word
