-- Small scripts, computed.
use Rattle.std.specs.Prelude.{◌≡◌, ℕ, Bool, true, false, List, [], ◌∷◌, ◌++◌, Option, Some, None, codes, refl}
use Rattle.std.specs.Prelude.{if◌then◌else◌}
use Rattle.redo_script.specs.declared.ast.Parameter.{Parameter}
use Rattle.redo_script.specs.declared.ast.Parameter.TheVariants.{One, Two, Three}
use Rattle.redo_script.specs.Syntax.{byte, bare, named_quoted, named_bare, Word, Redirection, is_file, equal, Writer}
use Rattle.redo_script.specs.Syntax.{echo, printf, cat, write, change, create, always, always_false, exit, if_test}
use Rattle.redo_script.specs.Syntax.{Script, finish, simple, choice, loop}
use Rattle.redo_script.specs.Bytes.{is_plain}
use Rattle.redo_record.specs.declared.deps.DepKind.TheVariants as kinds
use Rattle.redo_record.specs.declared.outcome.Why.TheVariants as why
use Rattle.std.specs.Str.{bytes_eq}
use Rattle.redo_record.specs.declared.outcome.Outcome.{Outcome}
use Rattle.redo_record.specs.declared.outcome.Outcome.TheVariants as outcomes
use Rattle.redo_record.specs.Paths.{Path}
use Rattle.redo_step.specs.Path.{resolved}
use Rattle.redo_step.specs.Setting.{Setting}
use Rattle.redo_step.specs.Runs.{stopped, goes, ends}
use Rattle.redo_step.specs.Statements.{meaning, run, Made, made, not_made, result_of}
use Rattle.redo_record.specs.Answers.{Ask}
use Rattle.redo_record.specs.declared.deps.Dep.{Dep}

abbrev pub word : List ℕ → Word
word [] = []
word (b ∷ bs) = byte b ∷ word bs

abbrev pub arguments : List ℕ → Parameter → List ℕ
arguments target One = target
arguments target Two = target
arguments target Three = target ++ codes ".redo.tmp"

abbrev pub setting : List ℕ → (Path → Option (List ℕ)) → ℕ → Setting
setting target source limit = record {
  source = source;
  is_directory = λ _. false;
  has_rule = λ p. bytes_eq p (codes "none.do");
  target = target;
  directory = [];
  stands_for = arguments target;
  third = Some (target ++ codes ".redo.tmp");
  limit = limit;
  bound = [];
}

abbrev pub no_source : Path → Option (List ℕ)
no_source p = None

abbrev pub one_source : Path → Option (List ℕ)
one_source p = if bytes_eq p (codes "src") then Some (codes "x" ++ 10 ∷ []) else None

abbrev pub no_answers : Ask
no_answers p = None

abbrev third_word : Word
third_word = bare Three ∷ []

abbrev to_third : Bool → Option Redirection
to_third appends = Some (record { appends = appends; word = third_word })

-- cat src, undeclared
undeclared_source : result_of (meaning (setting (codes "t") one_source 1000) no_answers (simple 1 (write (cat (word (codes "src") ∷ [])) None) finish)) ≡ Some (not_made (why.Undeclared 1))
unfolding meaning run resolved is_plain
undeclared_source = refl

declared_source : result_of (meaning (setting (codes "t") one_source 1000) no_answers (simple 1 (change (word (codes "src") ∷ [])) (simple 2 (write (cat (word (codes "src") ∷ [])) None) finish))) ≡ Some (made (Some (codes "x" ++ 10 ∷ [])))
unfolding meaning run resolved is_plain
declared_source = refl

both_outputs : result_of (meaning (setting (codes "w") no_source 1000) no_answers (simple 1 (write (echo (word (codes "a") ∷ [])) None) (simple 2 (write (echo (word (codes "b") ∷ [])) (to_third false)) finish))) ≡ Some (not_made why.BothOutputs)
unfolding meaning run resolved is_plain
both_outputs = refl

third_twice : result_of (meaning (setting (codes "w") no_source 1000) no_answers (simple 1 (write (echo (word (codes "a") ∷ [])) (to_third false)) (simple 2 (write (echo (word (codes "b") ∷ [])) (to_third true)) finish))) ≡ Some (made (Some (97 ∷ 10 ∷ 98 ∷ 10 ∷ [])))
unfolding meaning run resolved is_plain
third_twice = refl

-- printf '%s-%s\n' a b c
format_again : result_of (meaning (setting (codes "f") no_source 1000) no_answers (simple 1 (write (printf (word (codes "%s-%s" ++ 92 ∷ 110 ∷ [])) (word (codes "a") ∷ word (codes "b") ∷ word (codes "c") ∷ [])) None) finish)) ≡ Some (made (Some (codes "a-b" ++ 10 ∷ 99 ∷ 45 ∷ 10 ∷ [])))
unfolding meaning run resolved is_plain
format_again = refl

operands_without_a_place : result_of (meaning (setting (codes "f") no_source 1000) no_answers (simple 1 (write (printf (word (codes "x")) (word (codes "a") ∷ [])) None) finish)) ≡ Some (not_made (why.Format 1))
unfolding meaning run resolved is_plain
operands_without_a_place = refl

declared_for_creation : meaning (setting (codes "p") no_source 1000) no_answers (simple 1 (create (word (codes "none") ∷ [])) (simple 2 (write (echo (word (codes "ok") ∷ [])) None) finish)) ≡ goes (record { output = codes "ok" ++ 10 ∷ []; third = None; entries = record { kind = kinds.Create; path = codes "none" } ∷ [] })
unfolding meaning run resolved is_plain
declared_for_creation = refl

-- redo-always, and again: one entry, and it goes on
in_any_case : meaning (setting (codes "p") no_source 1000) no_answers (simple 1 always (simple 2 always (simple 3 (write (echo (word (codes "ok") ∷ [])) None) finish))) ≡ goes (record { output = codes "ok" ++ 10 ∷ []; third = None; entries = record { kind = kinds.Always; path = [] } ∷ [] })
unfolding meaning run resolved is_plain
in_any_case = refl

a_choice : result_of (meaning (setting (codes "g") no_source 1000) no_answers (choice 1 (if_test (equal (word (codes "a")) (word (codes "b")))) (simple 1 always_false finish) finish finish)) ≡ Some (made None)
unfolding meaning run resolved is_plain
a_choice = refl

too_large : result_of (meaning (setting (codes "big") no_source 3) no_answers (simple 1 (write (echo (word (codes "hey") ∷ [])) None) finish)) ≡ Some (not_made (why.TooLarge 1))
unfolding meaning run resolved is_plain
too_large = refl

outside : result_of (meaning (setting (codes "t") no_source 1000) no_answers (simple 1 (change (word (codes "../x") ∷ [])) finish)) ≡ Some (not_made (why.Outside 1))
unfolding meaning run resolved is_plain
outside = refl

into_the_target : result_of (meaning (setting (codes "t") no_source 1000) no_answers (simple 1 (write (echo (word (codes "a") ∷ [])) (Some (record { appends = false; word = bare One ∷ [] }))) finish)) ≡ Some (not_made (why.Direct 1))
unfolding meaning run resolved is_plain
into_the_target = refl

-- echo $1, for a target whose name has a blank
unquoted_blank : result_of (meaning (setting (codes "a b") no_source 1000) no_answers (simple 1 (write (echo ((bare One ∷ []) ∷ [])) None) finish)) ≡ Some (not_made (why.Unquoted 1))
unfolding meaning run resolved is_plain
unquoted_blank = refl

-- redo-ifchange a b, and echo x
abbrev two_operands : Script
two_operands = simple 1 (change (word (codes "a") ∷ word (codes "b") ∷ [])) (simple 2 (write (echo (word (codes "x") ∷ [])) None) finish)

abbrev knows_a : Outcome → Ask
knows_a answer p = if bytes_eq p (codes "a") then Some answer else None

abbrev knows_both : Outcome → Ask
knows_both answer p = if bytes_eq p (codes "a") then Some answer else Some (outcomes.Built None)

abbrev both_entries : List Dep
both_entries = record { kind = kinds.Change; path = codes "a" } ∷ record { kind = kinds.Change; path = codes "b" } ∷ []

stops : meaning (setting (codes "t") no_source 1000) no_answers two_operands ≡ ends (stopped (codes "a" ∷ codes "b" ∷ [])) (record { output = []; third = None; entries = both_entries })
unfolding meaning run resolved is_plain
stops = refl

stops_again : meaning (setting (codes "t") no_source 1000) (knows_a (outcomes.Built None)) two_operands ≡ ends (stopped (codes "b" ∷ [])) (record { output = []; third = None; entries = both_entries })
unfolding meaning run resolved is_plain
stops_again = refl

depends : result_of (meaning (setting (codes "t") no_source 1000) (knows_both (outcomes.Failed (why.Exit 1))) two_operands) ≡ Some (not_made (why.Depends 1))
unfolding meaning run resolved is_plain
depends = refl

goes_on : result_of (meaning (setting (codes "t") no_source 1000) (knows_both (outcomes.Built None)) two_operands) ≡ Some (made (Some (120 ∷ 10 ∷ [])))
unfolding meaning run resolved is_plain
goes_on = refl

-- a line
abbrev writes : ℕ → Writer Word → Option Redirection → Script → Script
writes line w r rest = simple line (write w r) rest

abbrev result : ℕ → Script → Option Made
result limit script = result_of (meaning (setting (codes "t") one_source limit) no_answers script)

abbrev to : List ℕ → Option Redirection
to path = Some (record { appends = false; word = word path })

exactly_the_limit : result 3 (writes 1 (echo (word (codes "hi") ∷ [])) None finish) ≡ Some (made (Some (codes "hi" ++ 10 ∷ [])))
unfolding meaning run resolved is_plain
exactly_the_limit = refl

-- a limit counts after the command's own work
too_large_last : result 3 (simple 1 (change (word (codes "src") ∷ [])) (writes 2 (cat (word (codes "src") ∷ word (codes "src") ∷ word (codes "x") ∷ [])) None finish)) ≡ Some (not_made (why.Undeclared 2))
unfolding meaning run resolved is_plain
too_large_last = refl

-- a redirection counts before it
elsewhere_first : result 9 (writes 1 (cat (word (codes "src") ∷ [])) (to (codes "other")) finish) ≡ Some (not_made (why.Elsewhere 1))
unfolding meaning run resolved is_plain
elsewhere_first = refl

outside_first : result 9 (writes 1 (cat (word (codes "src") ∷ [])) (to (codes "../y")) finish) ≡ Some (not_made (why.Outside 1))
unfolding meaning run resolved is_plain
outside_first = refl

empty_third : result 9 (writes 1 (printf (word []) []) (to_third false) finish) ≡ Some (made (Some []))
unfolding meaning run resolved is_plain
empty_third = refl

empty_third_and_output : result 9 (writes 1 (printf (word (codes "x")) []) None (writes 2 (printf (word []) []) (to_third false) finish)) ≡ Some (not_made why.BothOutputs)
unfolding meaning run resolved is_plain
empty_third_and_output = refl

keeps_no_file : result 9 (writes 1 (echo (word (codes "a") ∷ [])) (to_third false) (simple 2 (exit 3) finish)) ≡ Some (not_made (why.Exit 3))
unfolding meaning run resolved is_plain
keeps_no_file = refl

ends_well : result 9 (writes 1 (echo (word (codes "a") ∷ [])) None (simple 2 (exit 0) (simple 3 always_false finish))) ≡ Some (made (Some (97 ∷ 10 ∷ [])))
unfolding meaning run resolved is_plain
ends_well = refl

all_are_resolved_first : result 9 (simple 1 (create (word (codes "src") ∷ word (codes "../x") ∷ [])) finish) ≡ Some (not_made (why.Outside 1))
unfolding meaning run resolved is_plain
all_are_resolved_first = refl

there_already : result 9 (simple 1 (create (word (codes "none") ∷ word (codes "src") ∷ [])) finish) ≡ Some (not_made (why.Exists 1))
unfolding meaning run resolved is_plain
there_already = refl

made_by_a_rule : result 9 (simple 1 (create (word (codes "none.do") ∷ word (codes "src") ∷ [])) finish) ≡ Some (not_made (why.Buildable 1))
unfolding meaning run resolved is_plain
made_by_a_rule = refl

-- a path that was declared for its coming alone has no file
no_file_yet : result 9 (simple 1 (create (word (codes "none") ∷ [])) (writes 2 (cat (word (codes "none") ∷ [])) None finish)) ≡ Some (not_made (why.Exit 1))
unfolding meaning run resolved is_plain
no_file_yet = refl

-- a test that may not look is a fault, and no status
undeclared_condition : result 9 (choice 1 (if_test (is_file (word (codes "src")))) finish finish finish) ≡ Some (not_made (why.Undeclared 1))
unfolding meaning run resolved is_plain
undeclared_condition = refl

no_operands : result 9 (simple 1 (change []) (simple 2 (create []) finish)) ≡ Some (made None)
unfolding meaning run resolved is_plain
no_operands = refl

one_round : result 9 (writes 1 (printf (word (codes "%s")) []) None finish) ≡ Some (made None)
unfolding meaning run resolved is_plain
one_round = refl

last_round_filled : result 9 (writes 1 (printf (word (codes "%s%s")) (word (codes "a") ∷ word (codes "b") ∷ word (codes "c") ∷ [])) None finish) ≡ Some (made (Some (codes "abc")))
unfolding meaning run resolved is_plain
last_round_filled = refl

lone_percent : result 9 (writes 1 (printf (word (codes "%s%")) []) None finish) ≡ Some (not_made (why.Format 1))
unfolding meaning run resolved is_plain
lone_percent = refl

-- Loops

abbrev x_bare : Word
x_bare = named_bare (codes "x") ∷ []

abbrev x_quoted : Word
x_quoted = named_quoted (codes "x") ∷ []

abbrev over : List Word → Script → Script
over ws body = loop 1 (codes "x") ws body finish

-- for x in p q; do redo-ifchange $x; cat $x; done
abbrev each_in_turn : Script
each_in_turn = over (word (codes "p") ∷ word (codes "q") ∷ []) (simple 2 (change (x_bare ∷ [])) (writes 3 (cat (x_bare ∷ [])) None finish))

abbrev entry : List ℕ → Dep
entry p = record { kind = kinds.Change; path = p }

stops_in_the_first_turn : meaning (setting (codes "t") no_source 1000) no_answers each_in_turn ≡ ends (stopped (codes "p" ∷ [])) (record { output = []; third = None; entries = entry (codes "p") ∷ [] })
unfolding meaning run resolved is_plain
stops_in_the_first_turn = refl

stops_in_the_second_turn : meaning (setting (codes "t") no_source 1000) (λ p. if bytes_eq p (codes "p") then Some (outcomes.Built (Some (codes "1"))) else None) each_in_turn ≡ ends (stopped (codes "q" ∷ [])) (record { output = codes "1"; third = None; entries = entry (codes "p") ∷ entry (codes "q") ∷ [] })
unfolding meaning run resolved is_plain
stops_in_the_second_turn = refl

all_turns : result_of (meaning (setting (codes "t") no_source 1000) (λ p. Some (outcomes.Built (Some p))) each_in_turn) ≡ Some (made (Some (codes "pq")))
unfolding meaning run resolved is_plain
all_turns = refl

-- for x in; do false; done
no_turns : result 9 (over [] (simple 1 always_false finish)) ≡ Some (made None)
unfolding meaning run resolved is_plain
no_turns = refl

-- a turn that fails ends the loop
fails_in_a_turn : result 9 (over (word (codes "a") ∷ word (codes "b") ∷ []) (writes 2 (echo (x_bare ∷ [])) None (simple 3 always_false finish))) ≡ Some (not_made (why.Exit 1))
unfolding meaning run resolved is_plain
fails_in_a_turn = refl

-- so does one that ends well
ends_well_in_a_turn : result 9 (over (word (codes "a") ∷ word (codes "b") ∷ []) (writes 2 (echo (x_bare ∷ [])) None (simple 3 (exit 0) finish))) ≡ Some (made (Some (97 ∷ 10 ∷ [])))
unfolding meaning run resolved is_plain
ends_well_in_a_turn = refl

-- a value is judged where it stands outside quotes
empty_bare_value : result 9 (over (word [] ∷ []) (writes 2 (echo (x_bare ∷ [])) None finish)) ≡ Some (not_made (why.Unquoted 2))
unfolding meaning run resolved is_plain
empty_bare_value = refl

empty_quoted_value : result 9 (over (word [] ∷ []) (writes 2 (echo (x_quoted ∷ [])) None finish)) ≡ Some (made (Some (10 ∷ [])))
unfolding meaning run resolved is_plain
empty_quoted_value = refl

-- for x in $1, for a target whose name has a blank: at the line of the loop, and before its first turn
unquoted_word : result_of (meaning (setting (codes "a b") no_source 1000) no_answers (over (word (codes "a") ∷ (bare One ∷ []) ∷ []) (simple 2 (exit 7) finish))) ≡ Some (not_made (why.Unquoted 1))
unfolding meaning run resolved is_plain
unquoted_word = refl

-- a loop in a loop, whose words have the outer value
a_loop_in_a_loop : result 99 (over (word (codes "a") ∷ word (codes "b") ∷ []) (loop 2 (codes "y") (x_bare ∷ word (codes "c") ∷ []) (writes 3 (printf (x_bare ++ named_bare (codes "y") ∷ []) []) None finish) finish)) ≡ Some (made (Some (codes "aaacbbbc")))
unfolding meaning run resolved is_plain
a_loop_in_a_loop = refl
