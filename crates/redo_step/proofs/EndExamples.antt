-- Where small scripts end, and by which operand.
use Rattle.std.specs.Prelude.{◌≡◌, [], ◌∷◌, ◌++◌, Some, None, Ok, Err, codes, refl}
use Rattle.std.specs.Str.{bytes_eq}
use Rattle.std.specs.Prelude.{if◌then◌else◌}
use Rattle.redo_script.specs.declared.ast.Parameter.TheVariants.{One}
use Rattle.redo_script.specs.Syntax.{bare, quoted, cat, echo, write, always_true, if_false}
use Rattle.redo_script.specs.Syntax.{Command, finish, simple, choice, loop}
use Rattle.redo_script.specs.Bytes.{is_plain}
use Rattle.redo_record.specs.declared.outcome.Why.TheVariants as why
use Rattle.redo_record.specs.declared.outcome.Outcome.TheVariants as outcomes
use Rattle.redo_record.specs.Answers.{Ask}
use Rattle.redo_step.specs.declared.operands.Role.TheVariants.{Text, Changed, Goal}
use Rattle.redo_step.specs.Setting.{Setting}
use Rattle.redo_step.specs.Runs.{start, faulted}
use Rattle.redo_step.specs.Statements.{run}
use Rattle.redo_step.specs.Path.{resolved}
use Rattle.redo_step.specs.Operands.{operand_check, shown_in}
use Rattle.redo_step.specs.Ends.{ComesTo, to_command, in_second, behind, moment_of, command}
use Rattle.redo_step.proofs.RowExamples.{word, setting, no_source, no_answers}

-- the target is `a b`
abbrev here : Setting
here = setting (codes "a b") no_source 1000

-- all but `good` failed
abbrev one_good : Ask
one_good p = if bytes_eq p (codes "good") then Some (outcomes.Built None) else Some (outcomes.Failed (why.Exit 1))

abbrev shows : Command
shows = write (cat (word (codes "src") ∷ [])) None

-- The branch that isn't taken counts: if false; then echo; else cat src; fi
in_the_second : ComesTo no_answers here (choice 1 if_false (simple 2 (write (echo []) None) finish) (simple 4 shows finish) finish) start 2 (moment_of here 4 (command shows) start)
in_the_second = in_second refl to_command

-- The body of a loop counts once, however often it is run: for x in a a; do true; done; cat src
behind_a_loop : ComesTo no_answers here (loop 1 (codes "x") (word (codes "a") ∷ word (codes "a") ∷ []) (simple 1 always_true finish) (simple 2 shows finish)) start 2 (moment_of here 2 (command shows) start)
unfolding run is_plain
behind_a_loop = behind refl to_command

-- of redo-ifchange good bad, only the second fails
good_operand : operand_check here one_good 3 [] (record { role = Changed; word = word (codes "good") }) ≡ Ok tt
unfolding resolved
good_operand = refl

bad_operand : operand_check here one_good 3 [] (record { role = Changed; word = word (codes "bad") }) ≡ Err (faulted (why.Depends 3))
unfolding resolved
bad_operand = refl

-- $1 outside quotes has a blank, which is what is told
bare_operand : operand_check here no_answers 3 [] (record { role = Text; word = word (codes "x") ++ bare One ∷ [] }) ≡ Err (faulted (why.Unquoted 3))
unfolding is_plain
bare_operand = refl

bare_shown : shown_in here (word (codes "x") ++ bare One ∷ []) ≡ codes "a b"
unfolding is_plain
bare_shown = refl

quoted_shown : shown_in here (word (codes "x") ++ quoted One ∷ []) ≡ codes "xa b"
quoted_shown = refl

-- > 'a b'
to_the_target : operand_check here no_answers 3 [] (record { role = Goal; word = word (codes "a b") }) ≡ Err (faulted (why.Direct 3))
unfolding resolved
to_the_target = refl
