-- A syntax tree as contracts see it.
use Rattle.std.specs.Prelude.{List, [], ◌∷◌, map, option_map}
use Rattle.std.specs.List.{flat_map}
use Rattle.redo_script.specs.declared.ast.Part.{Part}
use Rattle.redo_script.specs.declared.ast.Part.TheVariants as parts
use Rattle.redo_script.specs.declared.ast.Word.{Word as WordTree}
use Rattle.redo_script.specs.declared.ast.Word.TheVariants as words
use Rattle.redo_script.specs.declared.ast.Redirection.{Redirection as RedirectionTree}
use Rattle.redo_script.specs.declared.ast.Test.{Test as TestTree}
use Rattle.redo_script.specs.declared.ast.Test.TheVariants as tests
use Rattle.redo_script.specs.declared.ast.Writer.{Writer as WriterTree}
use Rattle.redo_script.specs.declared.ast.Writer.TheVariants as writers
use Rattle.redo_script.specs.declared.ast.Command.{Command as CommandTree}
use Rattle.redo_script.specs.declared.ast.Command.TheVariants as commands
use Rattle.redo_script.specs.declared.ast.Condition.{Condition as ConditionTree}
use Rattle.redo_script.specs.declared.ast.Condition.TheVariants as conditions
use Rattle.redo_script.specs.declared.ast.Stmt.{Stmt}
use Rattle.redo_script.specs.declared.ast.Stmt.TheOpen.{Stmt-F}
use Rattle.redo_script.specs.declared.ast.Stmt.TheOpen as stmts
use Rattle.redo_script.specs.declared.ast.Stmt.TheFolds.{fold-Stmt}
use Rattle.redo_script.specs.Syntax.{Symbol, byte, quoted, bare, named_quoted, named_bare, Word}
use Rattle.redo_script.specs.Syntax.{Redirection, Test, is_file, equal, differ}
use Rattle.redo_script.specs.Syntax.{Writer, echo, printf, cat, Command, write, test, change, create, always}
use Rattle.redo_script.specs.Syntax.{always_true, always_false, exit, Condition, if_test, if_true, if_false, Script}
use Rattle.redo_script.specs.Syntax.{finish, simple, choice, loop}

-- the symbols of a piece of a word
abbrev pub symbols_of_part : Part → List Symbol
symbols_of_part (parts.Lit bytes) = map byte bytes
symbols_of_part (parts.Quoted p) = quoted p ∷ []
symbols_of_part (parts.Bare p) = bare p ∷ []
symbols_of_part (parts.NamedQuoted name) = named_quoted name ∷ []
symbols_of_part (parts.NamedBare name) = named_bare name ∷ []

-- the symbols of pieces, in order
abbrev pub symbols_of : List Part → Word
symbols_of ps = flat_map symbols_of_part ps

-- the symbols of a word; how its bytes are split into pieces isn't seen
abbrev pub word_of : WordTree → Word
word_of (words.Literal bytes) = map byte bytes
word_of (words.Mixed pieces) = symbols_of pieces.items

-- words, each as symbols
abbrev pub words_of : List WordTree → List Word
words_of ws = map word_of ws

-- a redirection, with its word as symbols
abbrev pub redirection_of : RedirectionTree → Redirection
redirection_of r = record { appends = r.appends; word = word_of r.word }

-- what test checks, with words as symbols
abbrev pub test_of : TestTree → Test Word
test_of (tests.IsFile w) = is_file (word_of w)
test_of (tests.Equal a b) = equal (word_of a) (word_of b)
test_of (tests.Differ a b) = differ (word_of a) (word_of b)

-- a command that writes, with words as symbols
abbrev pub writer_of : WriterTree → Writer Word
writer_of (writers.Echo ws) = echo (words_of ws.items)
writer_of (writers.Printf f ws) = printf (word_of f) (words_of ws.items)
writer_of (writers.Cat ws) = cat (words_of ws.items)

-- a simple command, with words as symbols
abbrev pub command_of : CommandTree → Command
command_of (commands.Write w r) = write (writer_of w) (option_map redirection_of r)
command_of (commands.Test t) = test (test_of t)
command_of (commands.Change ws) = change (words_of ws.items)
command_of (commands.Create ws) = create (words_of ws.items)
command_of commands.Always = always
command_of commands.True = always_true
command_of commands.False = always_false
command_of (commands.Exit n) = exit n

-- a condition, with words as symbols
abbrev pub condition_of : ConditionTree → Condition
condition_of (conditions.Test t) = if_test (test_of t)
condition_of conditions.True = if_true
condition_of conditions.False = if_false

-- statements in order, each given as what puts it before others
abbrev pub in_a_row : List (Script → Script) → Script
in_a_row [] = finish
in_a_row (first ∷ others) = first (in_a_row others)

-- a statement before the rest, with its parts given as what puts them before others
abbrev pub stmt_step : Stmt-F (Script → Script) → Script → Script
stmt_step (stmts.Simple line c) rest = simple line (command_of c) rest
stmt_step (stmts.If line c a b) rest = choice line (condition_of c) (in_a_row a.items) (in_a_row b.items) rest
stmt_step (stmts.Loop line name ws body) rest = loop line name (words_of ws.items) (in_a_row body.items) rest

-- the statement, then the rest
abbrev pub before : Stmt → Script → Script
before = fold-Stmt (Script → Script) stmt_step

-- statements in order
abbrev pub script_of : List Stmt → Script
script_of ss = in_a_row (map before ss)
