-- Tokens that have a fault of the table are refused with it.
use Rattle.std.proofs.Common.{◌≡◌, ℕ, ◌<◌, ◌≤◌, Bool, true, false, List, [], ◌∷◌, length, Option, Some, None, Result}
use Rattle.std.proofs.Common.{Ok, Err, refl, sym, ap, ◌∙◌, subst, inl, inr, map}
use Rattle.std.specs.Prelude.{codes}
use Rattle.std.specs.Option.{is_some}
use Rattle.std.proofs.lemmas.Bool.{cases_Bool, lt-ltb, le-ltb, or_parts}
use Rattle.redo_script.specs.declared.fault.ScriptFault.{ScriptFault}
use Rattle.redo_script.specs.Faults.{fault_at}
use Rattle.redo_script.specs.Syntax.{byte, Word, Redirection, Command, Condition, Script, finish}
use Rattle.redo_script.specs.Tokens.{Token, word, semicolon, newline, redirect}
use Rattle.redo_script.specs.Forms.{Item, spells, is_named, command_form, condition_form, name_of, is_bound}
use Rattle.redo_script.specs.Forms.{knows}
use Rattle.redo_grammar.specs.Grammar.{AtSeparator}
use Rattle.redo_script.specs.Parsing.{Opening, an_if, a_loop, Nest, nest_in, in_if, PartialCommand, behind_if}
use Rattle.redo_script.specs.Parsing.{behind_for, behind_name, before_do, Open, open_if, open_loop}
use Rattle.redo_script.specs.Parsing.{opening_of, openings, ifs_in, names_in, is_empty, is_one_of, commands}
use Rattle.redo_script.specs.Parsing.{words_outside, loop_words, if_words, is_unfinished, no_redirection, closed, with_last}
use Rattle.redo_script.specs.Parsing.{ended_command, ended_condition, unless_open, parse_on, statements_of}
use Rattle.redo_script.specs.Parsing.{conditions}
use Rattle.redo_grammar.specs.Refusals.{a_separator, behind_fi, behind_done, IsPart, bare, full, IsOpened, to_then}
use Rattle.redo_grammar.specs.Refusals.{to_else, to_do, IsPlace, outside, inside, AtOneOf, IsNoThen, IsNoDo, IsNoName}
use Rattle.redo_grammar.specs.Refusals.{line_of, MayElse, MayFi, MayDone, fault_inside, HasCondition, a_condition}
use Rattle.redo_grammar.specs.Refusals.{some_words, IsWrong, a_redirection, too_deep, no_condition, loop_behind_if}
use Rattle.redo_grammar.specs.Refusals.{no_test, unbound_test, no_then, loop_before_then, ends_before_then}
use Rattle.redo_grammar.specs.Refusals.{then_alone, no_else_here, no_fi_here, loop_behind_fi, ends_inside}
use Rattle.redo_grammar.specs.Refusals.{ends_behind, loop_too_deep, no_name, ends_behind_for, no_in, redirected_words}
use Rattle.redo_grammar.specs.Refusals.{unbound_word, no_do, if_before_do, ends_before_do, do_alone, no_done_here}
use Rattle.redo_grammar.specs.Refusals.{left_out, unknown, no_form, unbound, FaultStands}
use Rattle.redo_script.proofs.NameLemmas.{item, spells_is}
use Rattle.redo_grammar.proofs.CommandLemmas.{command_named, condition_named, not_named}
use Rattle.redo_grammar.proofs.OneTokenLemmas.{parts, in_place, within, within_condition, awaiting_then, behind}
use Rattle.redo_grammar.proofs.OneTokenLemmas.{past_done, items_at, items_read, condition_items_read, newlines_read}
use Rattle.redo_grammar.proofs.OneTokenLemmas.{condition_ends, else_read, command_begins, if_begins, for_begins}
use Rattle.redo_grammar.proofs.OneTokenLemmas.{words_end}
use Rattle.redo_grammar.proofs.OnlyScriptLemmas.{command_read, block_read, if_read, list_read_on, loop_read}
use Rattle.redo_grammar.proofs.FoundScriptLemmas.{TakesOf, word_continues, redirect_continues, formed_ok, takes_end}
use Rattle.redo_grammar.proofs.FoundScriptLemmas.{parser}
use Rattle.redo_grammar.proofs.FoundScriptLemmas.{no_redirection_is}
use Rattle.redo_grammar.proofs.PartialCommandLemmas.{formed_err}
use Rattle.redo_script.specs.declared.fault.Reason.TheVariants as reasons

-- Reading up to a place of the grammar

record PartRead (opens : List Open) (b : Bool) (ts rest : List Token) : Type 0 where
  s : Script
  bare_is : is_empty s ≡ b
  reads : parse_on (in_place opens finish) ts ≡ parse_on (in_place opens s) rest

part_read : {n : Nest} {b : Bool} {ts rest : List Token} → IsPart n b ts rest → (opens : List Open) → nest_in (openings opens) ≡ n → PartRead opens b ts rest
part_read (bare g) opens e = record { s = finish; bare_is = refl; reads = newlines_read g opens finish }
part_read (full {script} g) opens e =
    let r = block_read g in
    record { s = script; bare_is = r.full; reads = r.reads opens finish e }

record OpenedRead (o : Opening) (opens : List Open) (s : Script) (ts rest : List Token) : Type 0 where
  one : Open
  same : opening_of one ≡ o
  reads : parse_on (in_place opens s) ts ≡ parse_on (in_place (one ∷ opens) finish) rest

opened_read : {n : Nest} {o : Opening} {ts rest : List Token} → IsOpened n o ts rest → (opens : List Open) (s : Script) → nest_in (openings opens) ≡ n → OpenedRead o opens s ts rest
opened_read (to_then {l} {c} lt g) opens s e = record { one = open_if l c None s; same = refl; reads = if_read g opens s (ap (λ (x : Nest). x.names) e) (subst (λ (x : Nest). x.ifs < 16) (sym e) lt) }
opened_read (to_else {l} {c} {first} lt g h k) opens s e =
    let r = block_read h in
    record {
      one = open_if l c (Some first) s;
      same = refl;
      reads = if_read g opens s (ap (λ (x : Nest). x.names) e) (subst (λ (x : Nest). x.ifs < 16) (sym e) lt) ∙ (r.reads (open_if l c None s ∷ opens) finish (ap in_if e) ∙ else_read k l c s opens first r.full);
    }
opened_read (to_do {l} {name} {ws} lt g) opens s e = record { one = open_loop l name ws s; same = refl; reads = loop_read g opens s (ap (λ (x : Nest). x.names) e) (subst (λ (x : Nest). length x.names < 2) (sym e) lt) }

record PlaceRead (os : List Opening) (b : Bool) (ts rest : List Token) : Type 0 where
  opens : List Open
  s : Script
  same : openings opens ≡ os
  bare_is : is_empty s ≡ b
  reads : parse_on (in_place [] finish) ts ≡ parse_on (in_place opens s) rest

place_read : {os : List Opening} {b : Bool} {ts rest : List Token} → IsPlace os b ts rest → PlaceRead os b ts rest
place_read (outside g) =
    let r = part_read g [] refl in
    record { opens = []; s = r.s; same = refl; bare_is = r.bare_is; reads = r.reads }
place_read (inside {o} {os} g op p) =
    let r = place_read g in
    let one = opened_read op r.opens r.s (ap nest_in r.same) in
    let same : openings (one.one ∷ r.opens) ≡ o ∷ os = rw (one.same, r.same) refl in
    let q = part_read p (one.one ∷ r.opens) (ap nest_in same) in
    record { opens = one.one ∷ r.opens; s = q.s; same = same; bare_is = q.bare_is; reads = r.reads ∙ (one.reads ∙ q.reads) }

-- Commands and conditions that have no form

abbrev NoForm : PartialCommand → List Token → Type 0
NoForm b ts = (items : List Item) (r : Option Redirection) (rest : List Token) (c : Command) → TakesOf b ts items r rest → command_form b.name items r ≡ Some c → ⊥

abbrev NoTest : PartialCommand → List Token → Type 0
NoTest b ts = (items : List Item) (rest : List Token) (c : Condition) → TakesOf b ts items None rest → condition_form b.name items ≡ Some c → ⊥

ended_ill : (names : List (List ℕ)) (b : PartialCommand) (ts : List Token) → AtSeparator ts → NoForm b ts → ended_command names b ≡ fault_at b.line reasons.Shape
ended_ill names b ts a none = go (ended_command names b) refl
  where
    go : (x : Result Command ScriptFault) → ended_command names b ≡ x → x ≡ fault_at b.line reasons.Shape
    go (Ok c) e =
        let form = formed_ok b.line (is_unfinished b) (command_form b.name b.items b.redirection) (knows names b.items b.redirection) c e in
        absurd (none b.items b.redirection ts c (takes_end b.is_ill b.awaits b.redirection b.items ts a form.0) form.1)
    go (Err f) e = elim (formed_err b.line (is_unfinished b) (command_form b.name b.items b.redirection) (knows names b.items b.redirection) f e) [
      | inl i ↦ ap (λ x. Err x) i.0
      | inr u ↦ absurd (none b.items b.redirection ts u.2.0 (takes_end b.is_ill b.awaits b.redirection b.items ts a u.1) u.2.1)
    ]

ended_test : (names : List (List ℕ)) (b : PartialCommand) (ts : List Token) → AtSeparator ts → NoTest b ts → ended_condition names b ≡ fault_at b.line reasons.Shape
ended_test names b ts a none = go (ended_condition names b) refl
  where
    has_none : (c : Condition) → is_unfinished b ≡ false → no_redirection b.redirection (condition_form b.name b.items) ≡ Some c → ⊥
    has_none c ill form =
        let n = no_redirection_is b.redirection (condition_form b.name b.items) c form in
        let takes : TakesOf b ts b.items b.redirection ts = takes_end b.is_ill b.awaits b.redirection b.items ts a ill in
        none b.items ts c (subst (λ (x : Option Redirection). TakesOf b ts b.items x ts) n.0 takes) n.1

    go : (x : Result Condition ScriptFault) → ended_condition names b ≡ x → x ≡ fault_at b.line reasons.Shape
    go (Ok c) e =
        let form = formed_ok b.line (is_unfinished b) (no_redirection b.redirection (condition_form b.name b.items)) (knows names b.items b.redirection) c e in
        absurd (has_none c form.0 form.1)
    go (Err f) e = elim (formed_err b.line (is_unfinished b) (no_redirection b.redirection (condition_form b.name b.items)) (knows names b.items b.redirection) f e) [
      | inl i ↦ ap (λ x. Err x) i.0
      | inr u ↦ absurd (has_none u.2.0 u.1 u.2.1)
    ]

abbrev shape_at : ℕ → Result Script ScriptFault
shape_at l = fault_at l reasons.Shape

command_ill : (ts : List Token) (b : PartialCommand) (os : List Open) (s : Script) → NoForm b ts → parse_on (within b os s) ts ≡ shape_at b.line
unfolding parse_on
command_ill [] b os s none = rw (ended_ill (names_in os) b [] tt none) refl
command_ill (semicolon l ∷ ts) b os s none = rw (ended_ill (names_in os) b (semicolon l ∷ ts) tt none) refl
command_ill (newline l ∷ ts) b os s none = rw (ended_ill (names_in os) b (newline l ∷ ts) tt none) refl
command_ill (word k p w ∷ ts) b os s none =
    let c = word_continues b.line b.name b.items b.is_ill b.awaits b.redirection k p w ts in
    command_ill ts _ os s (λ items r rest d t form. none items r rest d (c.takes items r rest t) (rw c.name at form)) ∙ ap shape_at c.line
command_ill (redirect k a ∷ ts) b os s none =
    let c = redirect_continues b.line b.name b.items b.is_ill b.awaits b.redirection k a ts in
    command_ill ts _ os s (λ items r rest d t form. none items r rest d (c.takes items r rest t) (rw c.name at form)) ∙ ap shape_at c.line

test_ill : (ts : List Token) (b : PartialCommand) (os : List Open) (s : Script) → NoTest b ts → parse_on (within_condition b os s) ts ≡ shape_at b.line
unfolding parse_on
test_ill [] b os s none = rw (ended_test (names_in os) b [] tt none) refl
test_ill (semicolon l ∷ ts) b os s none = rw (ended_test (names_in os) b (semicolon l ∷ ts) tt none) refl
test_ill (newline l ∷ ts) b os s none = rw (ended_test (names_in os) b (newline l ∷ ts) tt none) refl
test_ill (word k p w ∷ ts) b os s none =
    let c = word_continues b.line b.name b.items b.is_ill b.awaits b.redirection k p w ts in
    test_ill ts _ os s (λ items rest d t form. none items rest d (c.takes items None rest t) (rw c.name at form)) ∙ ap shape_at c.line
test_ill (redirect k a ∷ ts) b os s none =
    let c = redirect_continues b.line b.name b.items b.is_ill b.awaits b.redirection k a ts in
    test_ill ts _ os s (λ items rest d t form. none items rest d (c.takes items None rest t) (rw c.name at form)) ∙ ap shape_at c.line

-- Commands and conditions in which a name isn't bound

command_unbound : (rest : List Token) → AtSeparator rest → (l : ℕ) (n : Item) (items : List Item) (r : Option Redirection) (c : Command) (os : List Open) (s : Script) → command_form n items r ≡ Some c → knows (names_in os) items r ≡ false → parse_on (within (parts l n items r) os s) rest ≡ fault_at l reasons.Unsupported
unfolding parse_on
command_unbound [] a l n items r c os s e known = rw (e, known) refl
command_unbound (semicolon k ∷ ts) a l n items r c os s e known = rw (e, known) refl
command_unbound (newline k ∷ ts) a l n items r c os s e known = rw (e, known) refl
command_unbound (word k p w ∷ ts) a l n items r c os s e known = absurd a
command_unbound (redirect k p ∷ ts) a l n items r c os s e known = absurd a

test_unbound : (rest : List Token) → AtSeparator rest → (l : ℕ) (n : Item) (items : List Item) (c : Condition) (os : List Open) (s : Script) → condition_form n items ≡ Some c → knows (names_in os) items None ≡ false → parse_on (within_condition (parts l n items None) os s) rest ≡ fault_at l reasons.Unsupported
unfolding parse_on
test_unbound [] a l n items c os s e known = rw (e, known) refl
test_unbound (semicolon k ∷ ts) a l n items c os s e known = rw (e, known) refl
test_unbound (newline k ∷ ts) a l n items c os s e known = rw (e, known) refl
test_unbound (word k p w ∷ ts) a l n items c os s e known = absurd a
test_unbound (redirect k p ∷ ts) a l n items c os s e known = absurd a

-- The rows of the table

condition_ill : (l : ℕ) (ts : List Token) (os : List Open) (s : Script) → (AtOneOf conditions ts → ⊥) → (AtOneOf loop_words ts → ⊥) → parse_on (parser (behind_if l) os s) ts ≡ fault_at l reasons.IfShape
unfolding parse_on
condition_ill l [] os s n m = refl
condition_ill l (semicolon k ∷ ts) os s n m = refl
condition_ill l (newline k ∷ ts) os s n m = refl
condition_ill l (redirect k a ∷ ts) os s n m = refl
condition_ill l (word k p w ∷ ts) os s n m = elim (cases_Bool (is_one_of conditions (item p w))) [
  | inl e ↦ absurd (n e)
  | inr e ↦ elim (cases_Bool (is_one_of loop_words (item p w))) [ inl g ↦ absurd (m g) | inr g ↦ rw (e, g) refl ]
]

then_ill : (t : Token) (ts : List Token) (l : ℕ) (c : Condition) (os : List Open) (s : Script) → IsNoThen t → parse_on (awaiting_then l c os s) (t ∷ ts) ≡ fault_at (line_of t) reasons.IfShape
unfolding parse_on
then_ill (semicolon k) ts l c os s n = refl
then_ill (newline k) ts l c os s n = absurd n
then_ill (redirect k a) ts l c os s n = refl
then_ill (word k p w) ts l c os s n = let q = or_parts (is_named (codes "then") (item p w)) (is_one_of loop_words (item p w)) n in rw (q.0, q.1) refl

record TestRead (l : ℕ) (os : List Open) (s : Script) (ts mid : List Token) : Type 0 where
  name : Item
  items : List Item
  c : Condition
  form : condition_form name items ≡ Some c
  known : knows (names_in os) items None ≡ true
  reads : parse_on (in_place os s) ts ≡ parse_on (within_condition (parts l name items None) os s) mid

test_read : {n : Nest} {l : ℕ} {ts mid : List Token} → HasCondition n l ts mid → (os : List Open) (s : Script) → nest_in (openings os) ≡ n → TestRead l os s ts mid
test_read (a_condition {l} {k} {p} {v} {w} {ts} {items} {c} e lt g h known) os s d = record {
  name = item p w;
  items = items;
  c = c;
  form = h;
  known = ap (λ (x : Nest). knows x.names items None) d ∙ known;
  reads = if_begins l k v w p ts os s e (subst (λ (x : Nest). x.ifs < 16) (sym d) lt) (condition_named (item p w) items c h) ∙ condition_items_read g l (item p w) [] os s;
}

else_ill : (l : ℕ) (w : Word) (ts : List Token) (os : List Open) (s : Script) → spells w (codes "else") ≡ true → (MayElse (openings os) (is_empty s) → ⊥) → parse_on (in_place os s) (word l true w ∷ ts) ≡ fault_at l reasons.IfShape
unfolding parse_on
else_ill l w ts [] s e n = rw (spells_is w (codes "else") e) refl
else_ill l w ts (open_loop k name ws before ∷ os) s e n = rw (spells_is w (codes "else") e) refl
else_ill l w ts (open_if k c (Some f) before ∷ os) s e n = rw (spells_is w (codes "else") e) refl
else_ill l w ts (open_if k c None before ∷ os) s e n = elim (cases_Bool (is_empty s)) [ inl none ↦ rw (spells_is w (codes "else") e, none) refl | inr some ↦ absurd (n (refl, some)) ]

fi_ill : (l : ℕ) (w : Word) (ts : List Token) (os : List Open) (s : Script) → spells w (codes "fi") ≡ true → (MayFi (openings os) (is_empty s) → ⊥) → parse_on (in_place os s) (word l true w ∷ ts) ≡ fault_at l reasons.IfShape
unfolding parse_on
fi_ill l w ts [] s e n = rw (spells_is w (codes "fi") e) refl
fi_ill l w ts (open_loop k name ws before ∷ os) s e n = rw (spells_is w (codes "fi") e) refl
fi_ill l w ts (open_if k c first before ∷ os) s e n = elim (cases_Bool (is_empty s)) [ inl none ↦ rw (spells_is w (codes "fi") e, none) refl | inr some ↦ absurd (n some) ]

done_ill : (l : ℕ) (w : Word) (ts : List Token) (os : List Open) (s : Script) → spells w (codes "done") ≡ true → (MayDone (openings os) (is_empty s) → ⊥) → parse_on (in_place os s) (word l true w ∷ ts) ≡ fault_at l reasons.Shape
unfolding parse_on
done_ill l w ts [] s e n = rw (spells_is w (codes "done") e) refl
done_ill l w ts (open_if k c first before ∷ os) s e n = rw (spells_is w (codes "done") e) refl
done_ill l w ts (open_loop k name ws before ∷ os) s e n = elim (cases_Bool (is_empty s)) [ inl none ↦ rw (spells_is w (codes "done") e, none) refl | inr some ↦ absurd (n some) ]

behind_ill : (l : ℕ) (ts : List Token) (os : List Open) (s : Script) → (AtSeparator ts → ⊥) → (AtOneOf loop_words ts → ⊥) → parse_on (behind l os s) ts ≡ fault_at l reasons.IfShape
unfolding parse_on
behind_ill l [] os s n m = absurd (n tt)
behind_ill l (semicolon k ∷ ts) os s n m = absurd (n tt)
behind_ill l (newline k ∷ ts) os s n m = absurd (n tt)
behind_ill l (redirect k a ∷ ts) os s n m = refl
behind_ill l (word k p w ∷ ts) os s n m = elim (cases_Bool (is_one_of loop_words (item p w))) [ inl g ↦ absurd (m g) | inr g ↦ rw g refl ]

past_ill : (l : ℕ) (ts : List Token) (os : List Open) (s : Script) → (AtSeparator ts → ⊥) → parse_on (past_done l os s) ts ≡ fault_at l reasons.Shape
unfolding parse_on
past_ill l [] os s n = absurd (n tt)
past_ill l (semicolon k ∷ ts) os s n = absurd (n tt)
past_ill l (newline k ∷ ts) os s n = absurd (n tt)
past_ill l (redirect k a ∷ ts) os s n = refl
past_ill l (word k p w ∷ ts) os s n = refl

fi_behind : (l : ℕ) (w : Word) (ts : List Token) (os : List Open) (s : Script) → spells w (codes "fi") ≡ true → MayFi (openings os) (is_empty s) → (AtSeparator ts → ⊥) → (AtOneOf loop_words ts → ⊥) → parse_on (in_place os s) (word l true w ∷ ts) ≡ fault_at l reasons.IfShape
unfolding parse_on
fi_behind l w ts [] s e m n o = absurd m
fi_behind l w ts (open_loop k name ws before ∷ os) s e m n o = absurd m
fi_behind l w ts (open_if k c first before ∷ os) s e m n o = rw (spells_is w (codes "fi") e, m) (behind_ill l ts os (closed (open_if k c first before) s) n o)

fi_loop : (l : ℕ) (v : Word) (k : ℕ) (p : Bool) (w : Word) (ts : List Token) (os : List Open) (s : Script) → spells v (codes "fi") ≡ true → MayFi (openings os) (is_empty s) → is_one_of loop_words (item p w) ≡ true → parse_on (in_place os s) (word l true v ∷ word k p w ∷ ts) ≡ fault_at k reasons.Shape
unfolding parse_on
fi_loop l v k p w ts [] s e m n = absurd m
fi_loop l v k p w ts (open_loop j name ws before ∷ os) s e m n = absurd m
fi_loop l v k p w ts (open_if j c first before ∷ os) s e m n = rw (spells_is v (codes "fi") e, m, n) refl

done_behind : (l : ℕ) (w : Word) (ts : List Token) (os : List Open) (s : Script) → spells w (codes "done") ≡ true → MayDone (openings os) (is_empty s) → (AtSeparator ts → ⊥) → parse_on (in_place os s) (word l true w ∷ ts) ≡ fault_at l reasons.Shape
unfolding parse_on
done_behind l w ts [] s e m n = absurd m
done_behind l w ts (open_if k c first before ∷ os) s e m n = absurd m
done_behind l w ts (open_loop k name ws before ∷ os) s e m n = rw (spells_is w (codes "done") e, m) (past_ill l ts os (closed (open_loop k name ws before) s) n)

-- a loop's head
name_ill : (t : Token) (ts : List Token) (l : ℕ) (os : List Open) (s : Script) → IsNoName (names_in os) t → parse_on (parser (behind_for l) os s) (t ∷ ts) ≡ fault_at (line_of t) reasons.Shape
unfolding parse_on
name_ill (semicolon k) ts l os s n = refl
name_ill (newline k) ts l os s n = refl
name_ill (redirect k a) ts l os s n = refl
name_ill (word k p w) ts l os s n = word_ill (name_of (item p w)) refl
  where
    word_ill : (o : Option (List ℕ)) → name_of (item p w) ≡ o → parse_on (parser (behind_for l) os s) (word k p w ∷ ts) ≡ fault_at k reasons.Shape
    word_ill None e = rw e refl
    word_ill (Some name) e = rw (e, n name e) refl

in_ill : (ts : List Token) (l : ℕ) (name : List ℕ) (os : List Open) (s : Script) → (AtOneOf (codes "in" ∷ []) ts → ⊥) → parse_on (parser (behind_name l name) os s) ts ≡ fault_at l reasons.Shape
unfolding parse_on
in_ill [] l name os s n = refl
in_ill (semicolon k ∷ ts) l name os s n = refl
in_ill (newline k ∷ ts) l name os s n = refl
in_ill (redirect k a ∷ ts) l name os s n = refl
in_ill (word k p w ∷ ts) l name os s n = elim (cases_Bool (is_named (codes "in") (item p w))) [ inl e ↦ absurd (n (rw e refl)) | inr e ↦ rw e refl ]

do_ill : (t : Token) (ts : List Token) (l : ℕ) (name : List ℕ) (ws : List Word) (os : List Open) (s : Script) → IsNoDo t → parse_on (parser (before_do l name ws) os s) (t ∷ ts) ≡ fault_at (line_of t) reasons.Shape
unfolding parse_on
do_ill (semicolon k) ts l name ws os s n = refl
do_ill (newline k) ts l name ws os s n = absurd n
do_ill (redirect k a) ts l name ws os s n = refl
do_ill (word k p w) ts l name ws os s n = let q = or_parts (is_named (codes "do") (item p w)) (is_one_of if_words (item p w)) n in rw (q.0, q.1) refl

still_open : (opens : List Open) (s : Script) (o : Opening) (os : List Opening) → openings opens ≡ o ∷ os → unless_open opens s ≡ Err (fault_inside o)
still_open [] s o os e = absurd (cc e)
still_open (open_if l c first before ∷ xs) s o os e =
    let same : an_if l (is_some first) ≡ o = cc e in
    ap (λ (y : Opening). Err (fault_inside y)) same
still_open (open_loop l name ws before ∷ xs) s o os e =
    let same : a_loop l name ≡ o = cc e in
    ap (λ (y : Opening). Err (fault_inside y)) same

unknown_ill : (l : ℕ) (p : Bool) (w : Word) (ts : List Token) (os : List Open) (s : Script) → is_one_of (codes "if" ∷ if_words) (item p w) ≡ false → is_one_of loop_words (item p w) ≡ false → is_one_of commands (item p w) ≡ false → is_one_of words_outside (item p w) ≡ false → parse_on (in_place os s) (word l p w ∷ ts) ≡ fault_at l reasons.UnknownCommand
unfolding parse_on
unknown_ill l false w ts os s e d f g = refl
unknown_ill l true w ts os s e d f g =
    let p1 = or_parts (spells w (codes "if")) _ e in
    let p2 = or_parts (spells w (codes "then")) _ p1.1 in
    let p3 = or_parts (spells w (codes "else")) _ p2.1 in
    let p4 = or_parts (spells w (codes "fi")) _ p3.1 in
    let q1 = or_parts (spells w (codes "for")) _ d in
    let q2 = or_parts (spells w (codes "do")) _ q1.1 in
    let q3 = or_parts (spells w (codes "done")) _ q2.1 in
    rw (p1.0, p2.0, p3.0, p4.0, q1.0, q2.0, q3.0, f, g) refl

-- what is open round a place, as both see it
few_ifs : (opens : List Open) (os : List Opening) → openings opens ≡ os → (nest_in os).ifs < 16 → ifs_in opens < 16
few_ifs opens os e lt = subst (λ (x : List Opening). (nest_in x).ifs < 16) (sym e) lt

few_loops : (opens : List Open) (os : List Opening) → openings opens ≡ os → length (nest_in os).names < 2 → length (names_in opens) < 2
few_loops opens os e lt = subst (λ (x : List Opening). length (nest_in x).names < 2) (sym e) lt

same_names : (opens : List Open) (os : List Opening) → openings opens ≡ os → names_in opens ≡ (nest_in os).names
same_names opens os e = ap (λ (x : List Opening). (nest_in x).names) e

wrong_read : {os : List Opening} {b : Bool} {rest : List Token} {fault : ScriptFault} → IsWrong os b rest fault → (opens : List Open) (s : Script) → openings opens ≡ os → is_empty s ≡ b → parse_on (in_place opens s) rest ≡ Err fault
unfolding parse_on
wrong_read a_separator opens s e f = refl
wrong_read a_redirection opens s e f = refl
wrong_read (too_deep i ge) opens s e f = rw (i, le-ltb (ifs_in opens) 16 (subst (λ (x : List Opening). 16 ≤ (nest_in x).ifs) (sym e) ge)) refl
wrong_read (no_condition {os} {l} {ts} i lt n m) opens s e f = rw (i, lt-ltb (ifs_in opens) 16 (few_ifs opens os e lt)) (condition_ill l ts opens s n m)
wrong_read (loop_behind_if {os} {p} {w} i lt m) opens s e f =
    let no : (name : List ℕ) → is_one_of loop_words (item true (map byte name)) ≡ false → is_named name (item p w) ≡ false = λ name out. not_named loop_words name p w out m in
    rw (i, lt-ltb (ifs_in opens) 16 (few_ifs opens os e lt), no (codes "test") refl, no (codes "true") refl, no (codes "false") refl, m) refl
wrong_read (no_test {os} {p} {l} {k} {v} {w} {ts} i lt named n) opens s e f =
    if_begins l k v w p ts opens s i (few_ifs opens os e lt) named
    ∙ test_ill ts (parts l (item p w) [] None) opens s (λ items rest c t form. n items rest c (rw t.2 t.1) form)
wrong_read (unbound_test {os} {p} {l} {k} {v} {w} {ts} {rest} {items} {c} i lt g form new) opens s e f =
    if_begins l k v w p ts opens s i (few_ifs opens os e lt) (condition_named (item p w) items c form)
    ∙ (condition_items_read g l (item p w) [] opens s
    ∙ test_unbound rest (items_at g) l (item p w) items c opens s form (ap (λ x. knows x items None) (same_names opens os e) ∙ new))
wrong_read (no_then {os} {l} {t} {ts} {mid} {rest} g sep n) opens s e f =
    let r = test_read g opens s (ap nest_in e) in
    r.reads ∙ (condition_ends sep l r.name r.items r.c opens s r.form r.known ∙ then_ill t rest l r.c opens s n)
wrong_read (loop_before_then {os} {p} {l} {k} {w} {ts} {mid} {rest} g sep m) opens s e f =
    let r = test_read g opens s (ap nest_in e) in
    r.reads ∙ (condition_ends sep l r.name r.items r.c opens s r.form r.known ∙ rw (not_named loop_words (codes "then") p w refl m, m) refl)
wrong_read (ends_before_then {l} g (inl none)) opens s e f =
    let r = test_read g opens s (ap nest_in e) in
    r.reads ∙ (ap (λ (x : List Token). parse_on (within_condition (parts l r.name r.items None) opens s) x) none ∙ rw (r.form, r.known) refl)
wrong_read (ends_before_then {l} g (inr sep)) opens s e f =
    let r = test_read g opens s (ap nest_in e) in
    r.reads ∙ condition_ends sep l r.name r.items r.c opens s r.form r.known
wrong_read (then_alone {w} i) opens s e f = rw (spells_is w (codes "then") i) refl
wrong_read (no_else_here {os} {b} {l} {w} {ts} i n) opens s e f = else_ill l w ts opens s i (rw (e, f) n)
wrong_read (no_fi_here {os} {b} {l} {w} {ts} i n) opens s e f = fi_ill l w ts opens s i (rw (e, f) n)
wrong_read (behind_fi {os} {b} {l} {w} {ts} i m n o) opens s e f = fi_behind l w ts opens s i (rw (e, f) m) n o
wrong_read (loop_behind_fi {os} {b} {p} {l} {k} {v} {w} {ts} i m n) opens s e f = fi_loop l v k p w ts opens s i (rw (e, f) m) n
wrong_read (ends_inside {o} {os}) opens s e f = still_open opens s o os e
wrong_read (ends_behind {o} {os} c) opens s e f =
    let r = command_read c in
    r.reads opens s (ap nest_in e) tt ∙ still_open opens (with_last s r.one) o os e
wrong_read (loop_too_deep {w} i ge) opens s e f = rw (spells_is w (codes "for") i, le-ltb (length (names_in opens)) 2 (subst (λ (x : List Opening). 2 ≤ length (nest_in x).names) (sym e) ge)) refl
wrong_read (no_name {os} {l} {w} {t} {ts} i lt n) opens s e f =
    rw (spells_is w (codes "for") i, lt-ltb (length (names_in opens)) 2 (few_loops opens os e lt)) (name_ill t ts l opens s (subst (λ (x : List Opening). IsNoName (nest_in x).names t) (sym e) n))
wrong_read (ends_behind_for {os} {w} i lt) opens s e f = rw (spells_is w (codes "for") i, lt-ltb (length (names_in opens)) 2 (few_loops opens os e lt)) refl
wrong_read (no_in {os} {p} {l} {k} {v} {w} {name} {ts} i lt is_name new n) opens s e f =
    for_begins l k v w p name ts opens s i (few_loops opens os e lt) is_name (ap (λ x. is_bound x name) (same_names opens os e) ∙ new)
    ∙ in_ill ts l name opens s n
wrong_read (redirected_words {os} (some_words lt g)) opens s e f =
    list_read_on g opens s (same_names opens os e) (few_loops opens os e lt)
wrong_read (unbound_word {os} (some_words lt g) new) opens s e f =
    list_read_on g opens s (same_names opens os e) (few_loops opens os e lt) ∙ rw (same_names opens os e, new) refl
wrong_read (no_do {os} {l} {t} {ts} {mid} {rest} (some_words {name} {ws} lt g) sep n) opens s e f =
    list_read_on g opens s (same_names opens os e) (few_loops opens os e lt)
    ∙ (words_end sep l name ws opens s ∙ do_ill t rest l name ws opens s n)
wrong_read (if_before_do {os} {p} {l} {k} {w} {ts} {mid} {rest} (some_words {name} {ws} lt g) sep m) opens s e f =
    list_read_on g opens s (same_names opens os e) (few_loops opens os e lt)
    ∙ (words_end sep l name ws opens s ∙ rw (not_named if_words (codes "do") p w refl m, m) refl)
wrong_read (ends_before_do {os} (some_words lt g) (inl none)) opens s e f =
    list_read_on g opens s (same_names opens os e) (few_loops opens os e lt) ∙ rw none refl
wrong_read (ends_before_do {os} {l} (some_words {name} {ws} lt g) (inr sep)) opens s e f =
    list_read_on g opens s (same_names opens os e) (few_loops opens os e lt) ∙ words_end sep l name ws opens s
wrong_read (do_alone {w} i) opens s e f = rw (spells_is w (codes "do") i) refl
wrong_read (no_done_here {os} {b} {l} {w} {ts} i n) opens s e f = done_ill l w ts opens s i (rw (e, f) n)
wrong_read (behind_done {os} {b} {l} {w} {ts} i m n) opens s e f = done_behind l w ts opens s i (rw (e, f) m) n
wrong_read (left_out {w} i) opens s e f =
    let no : (name : List ℕ) → is_one_of words_outside (item true (map byte name)) ≡ false → is_named name (item true w) ≡ false = λ name out. not_named words_outside name true w out i in
    let none : is_one_of commands (item true w) ≡ false = rw (no (codes "echo") refl, no (codes "printf") refl, no (codes "cat") refl, no (codes "test") refl, no (codes "redo-ifchange") refl, no (codes "redo-ifcreate") refl, no (codes "redo-always") refl, no (codes "true") refl, no (codes "false") refl, no (codes "exit") refl) refl in
    rw (no (codes "if") refl, no (codes "then") refl, no (codes "else") refl, no (codes "fi") refl, no (codes "for") refl, no (codes "do") refl, no (codes "done") refl, none, i) refl
wrong_read (unknown {p} {l} {w} {ts} i d j k) opens s e f = unknown_ill l p w ts opens s i d j k
wrong_read (no_form {p} {l} {w} {ts} named n) opens s e f =
    command_begins l p w ts opens s named
    ∙ command_ill ts (parts l (item p w) [] None) opens s (λ items r rest c t form. n items r rest c (rw t.2 t.1) form)
wrong_read (unbound {os} {p} {l} {w} {ts} {rest} {items} {r} {c} g form new) opens s e f =
    command_begins l p w ts opens s (command_named (item p w) items r c form)
    ∙ (items_read g l (item p w) [] opens s
    ∙ command_unbound rest (items_at g) l (item p w) items r c opens s form (ap (λ x. knows x items r) (same_names opens os e) ∙ new))

pub refusing : (ts : List Token) (fault : ScriptFault) → FaultStands ts fault → statements_of ts ≡ Err fault
unfolding statements_of
refusing ts fault g =
    let r = place_read g.place in
    r.reads ∙ wrong_read g.is_wrong r.opens r.s r.same r.bare_is
