-- What is wrong with commands is never want of memory.
use Rattle.std.proofs.Common.{◌≡◌, ◌≢◌, ℕ, Bool, true, false, if◌then◌else◌, List, [], ◌∷◌, Option, Some, None}
use Rattle.std.proofs.Common.{Result, Ok, Err}
use Rattle.std.specs.Prelude.{codes, length, nat_lt}
use Rattle.redo_script.specs.declared.fault.ScriptFault.{ScriptFault}
use Rattle.redo_script.specs.Faults.{◌>>=◌}
use Rattle.redo_script.specs.Syntax.{Script}
use Rattle.redo_script.specs.Tokens.{Token, word, semicolon, newline, redirect}
use Rattle.redo_script.specs.Forms.{Item, is_named, command_form, condition_form, name_of, is_bound, knows_word}
use Rattle.redo_script.specs.Forms.{knows}
use Rattle.redo_script.specs.Parsing.{PartialCommand, Phase, at_command, in_command, behind_if, in_condition}
use Rattle.redo_script.specs.Parsing.{before_then, behind_fi, behind_for, behind_name, in_words, before_do}
use Rattle.redo_script.specs.Parsing.{behind_done, Open, open_if, open_loop, ifs_in, names_in, Parser, is_empty}
use Rattle.redo_script.specs.Parsing.{is_one_of, commands, words_outside, loop_words, if_words, or_shape, if_known}
use Rattle.redo_script.specs.Parsing.{is_unfinished, no_redirection, ended_command, ended_condition, with_command}
use Rattle.redo_script.specs.Parsing.{with_condition, at_else, at_fi, at_done, first_word, misplaced, loop_named}
use Rattle.redo_script.specs.Parsing.{next_token, unless_open, end_by_phase, parse_on, statements_of}
use Rattle.redo_script.specs.declared.fault.Reason.TheVariants as reasons

abbrev pub Blames : {A : Type 0} → Result A ScriptFault → Type 0
Blames (Ok x) = Unit {0}
Blames (Err f) = f.why ≢ reasons.Memory

pub by_if : {A : Type 0} (t : Bool) (x y : Result A ScriptFault) → Blames x → Blames y → Blames (if t then x else y)
by_if true x y f g = f
by_if false x y f g = g

pub bound : {A C : Type 0} (m : Result A ScriptFault) (f : A → Result C ScriptFault) → Blames m → ((a : A) → Blames (f a)) → Blames (m >>= f)
bound (Ok a) f h k = k a
bound (Err e) f h k = h

pub blamed : {A : Type 0} (m : Result A ScriptFault) (fault : ScriptFault) → Blames m → m ≡ Err fault → fault.why ≢ reasons.Memory
blamed m fault h e = rw e at h

formed : {A : Type 0} (l : ℕ) (ill : Bool) (o : Option A) (known : Bool) → Blames (or_shape l ill o >>= if_known l known)
formed l true o known = λ e. cc e
formed l false None known = λ e. cc e
formed l false (Some x) true = tt
formed l false (Some x) false = λ e. cc e

command : (p : Parser) (b : PartialCommand) → Blames (with_command p b)
command p b = bound (ended_command (names_in p.opens) b) _ (formed b.line (is_unfinished b) (command_form b.name b.items b.redirection) (knows (names_in p.opens) b.items b.redirection)) (λ c. tt)

condition : (p : Parser) (b : PartialCommand) → Blames (with_condition p b)
condition p b = bound (ended_condition (names_in p.opens) b) _ (formed b.line (is_unfinished b) (no_redirection b.redirection (condition_form b.name b.items)) (knows (names_in p.opens) b.items b.redirection)) (λ c. tt)

else_blames : (p : Parser) (l : ℕ) (os : List Open) → Blames (at_else p l os)
else_blames p l [] = λ e. cc e
else_blames p l (open_loop k name ws before ∷ os) = λ e. cc e
else_blames p l (open_if k c (Some first) before ∷ os) = λ e. cc e
else_blames p l (open_if k c None before ∷ os) = by_if (is_empty p.so_far) _ _ (λ e. cc e) tt

fi_blames : (p : Parser) (l : ℕ) (os : List Open) → Blames (at_fi p l os)
fi_blames p l [] = λ e. cc e
fi_blames p l (open_loop k name ws before ∷ os) = λ e. cc e
fi_blames p l (open_if k c first before ∷ os) = by_if (is_empty p.so_far) _ _ (λ e. cc e) tt

done_blames : (p : Parser) (l : ℕ) (os : List Open) → Blames (at_done p l os)
done_blames p l [] = λ e. cc e
done_blames p l (open_if k c first before ∷ os) = λ e. cc e
done_blames p l (open_loop k name ws before ∷ os) = by_if (is_empty p.so_far) _ _ (λ e. cc e) tt

first_blames : (p : Parser) (l : ℕ) (i : Item) → Blames (first_word p l i)
first_blames p l i =
    by_if (is_named (codes "if") i) _ _ (by_if (nat_lt (ifs_in p.opens) 16) _ _ tt (λ e. cc e)) (
    by_if (is_named (codes "then") i) _ _ (λ e. cc e) (
    by_if (is_named (codes "else") i) _ _ (else_blames p l p.opens) (
    by_if (is_named (codes "fi") i) _ _ (fi_blames p l p.opens) (
    by_if (is_named (codes "for") i) _ _ (by_if (nat_lt (length (names_in p.opens)) 2) _ _ tt (λ e. cc e)) (
    by_if (is_named (codes "do") i) _ _ (λ e. cc e) (
    by_if (is_named (codes "done") i) _ _ (done_blames p l p.opens) (
    bound _ _ (by_if (is_one_of commands i) _ _ tt (by_if (is_one_of words_outside i) _ _ (λ e. cc e) (λ e. cc e))) (λ none. tt))))))))

misplaced_blames : (line at : ℕ) (i : Item) → Blames (misplaced {A = Parser} line at i)
misplaced_blames line at i = by_if (is_one_of loop_words i) _ _ (λ e. cc e) (λ e. cc e)

named_blames : (p : Parser) (line at : ℕ) (o : Option (List ℕ)) → Blames (loop_named p line at o)
named_blames p line at None = λ e. cc e
named_blames p line at (Some name) = by_if (is_bound (names_in p.opens) name) _ _ (λ e. cc e) tt

abbrev at : Phase → List Open → Script → Parser
at phase os s = record { phase = phase; opens = os; so_far = s }

token_blames : (phase : Phase) (os : List Open) (s : Script) (t : Token) → Blames (next_token (at phase os s) t)
token_blames at_command os s (word l p w) = first_blames (at at_command os s) l (record { is_plain = p; word = w })
token_blames (in_command b) os s (word l p w) = tt
token_blames (behind_if k) os s (word l p w) = by_if (is_one_of (codes "test" ∷ codes "true" ∷ codes "false" ∷ []) (record { is_plain = p; word = w })) _ _ tt (misplaced_blames k l (record { is_plain = p; word = w }))
token_blames (in_condition b) os s (word l p w) = tt
token_blames (before_then k c) os s (word l p w) = by_if (is_named (codes "then") (record { is_plain = p; word = w })) _ _ tt (misplaced_blames l l (record { is_plain = p; word = w }))
token_blames (behind_fi k) os s (word l p w) = misplaced_blames k l (record { is_plain = p; word = w })
token_blames (behind_for k) os s (word l p w) = named_blames (at (behind_for k) os s) k l (name_of (record { is_plain = p; word = w }))
token_blames (behind_name k name) os s (word l p w) = by_if (is_named (codes "in") (record { is_plain = p; word = w })) _ _ tt (λ e. cc e)
token_blames (in_words k name ws) os s (word l p w) = by_if (knows_word (names_in os) w) _ _ tt (λ e. cc e)
token_blames (before_do k name ws) os s (word l p w) = by_if (is_named (codes "do") (record { is_plain = p; word = w })) _ _ tt (by_if (is_one_of if_words (record { is_plain = p; word = w })) _ _ (λ e. cc e) (λ e. cc e))
token_blames (behind_done k) os s (word l p w) = λ e. cc e
token_blames at_command os s (semicolon l) = λ e. cc e
token_blames (in_command b) os s (semicolon l) = command (at (in_command b) os s) b
token_blames (behind_if k) os s (semicolon l) = λ e. cc e
token_blames (in_condition b) os s (semicolon l) = condition (at (in_condition b) os s) b
token_blames (before_then k c) os s (semicolon l) = λ e. cc e
token_blames (behind_fi k) os s (semicolon l) = tt
token_blames (behind_for k) os s (semicolon l) = λ e. cc e
token_blames (behind_name k name) os s (semicolon l) = λ e. cc e
token_blames (in_words k name ws) os s (semicolon l) = tt
token_blames (before_do k name ws) os s (semicolon l) = λ e. cc e
token_blames (behind_done k) os s (semicolon l) = tt
token_blames at_command os s (newline l) = tt
token_blames (in_command b) os s (newline l) = command (at (in_command b) os s) b
token_blames (behind_if k) os s (newline l) = λ e. cc e
token_blames (in_condition b) os s (newline l) = condition (at (in_condition b) os s) b
token_blames (before_then k c) os s (newline l) = tt
token_blames (behind_fi k) os s (newline l) = tt
token_blames (behind_for k) os s (newline l) = λ e. cc e
token_blames (behind_name k name) os s (newline l) = λ e. cc e
token_blames (in_words k name ws) os s (newline l) = tt
token_blames (before_do k name ws) os s (newline l) = tt
token_blames (behind_done k) os s (newline l) = tt
token_blames at_command os s (redirect l a) = λ e. cc e
token_blames (in_command b) os s (redirect l a) = tt
token_blames (behind_if k) os s (redirect l a) = λ e. cc e
token_blames (in_condition b) os s (redirect l a) = tt
token_blames (before_then k c) os s (redirect l a) = λ e. cc e
token_blames (behind_fi k) os s (redirect l a) = λ e. cc e
token_blames (behind_for k) os s (redirect l a) = λ e. cc e
token_blames (behind_name k name) os s (redirect l a) = λ e. cc e
token_blames (in_words k name ws) os s (redirect l a) = λ e. cc e
token_blames (before_do k name ws) os s (redirect l a) = λ e. cc e
token_blames (behind_done k) os s (redirect l a) = λ e. cc e

closed_blames : (os : List Open) (s : Script) → Blames (unless_open os s)
closed_blames [] s = tt
closed_blames (open_if l c first before ∷ os) s = λ e. cc e
closed_blames (open_loop l name ws before ∷ os) s = λ e. cc e

end_blames : (phase : Phase) (p : Parser) → Blames (end_by_phase phase p)
end_blames at_command p = closed_blames p.opens p.so_far
end_blames (in_command b) p = bound (with_command p b) _ (command p b) (λ q. closed_blames q.opens q.so_far)
end_blames (behind_if l) p = λ e. cc e
end_blames (in_condition b) p = bound (with_condition p b) _ (condition p b) (λ q e. cc e)
end_blames (before_then l c) p = λ e. cc e
end_blames (behind_fi l) p = closed_blames p.opens p.so_far
end_blames (behind_for l) p = λ e. cc e
end_blames (behind_name l name) p = λ e. cc e
end_blames (in_words l name ws) p = λ e. cc e
end_blames (before_do l name ws) p = λ e. cc e
end_blames (behind_done l) p = closed_blames p.opens p.so_far

parse_blames : (ts : List Token) (p : Parser) → Blames (parse_on p ts)
unfolding parse_on
parse_blames [] p = end_blames p.phase p
parse_blames (t ∷ ts) p = bound (next_token p t) _ (token_blames p.phase p.opens p.so_far t) (λ q. parse_blames ts q)

-- a fault among commands
pub of_commands : (p : Parser) (ts : List Token) (fault : ScriptFault) → parse_on p ts ≡ Err fault → fault.why ≢ reasons.Memory
of_commands p ts fault e = blamed (parse_on p ts) fault (parse_blames ts p) e

pub statements_blame : (ts : List Token) → Blames (statements_of ts)
unfolding statements_of
statements_blame ts = parse_blames ts _
