-- What is read without a fault is a program by the grammar, with this tree.
use Rattle.std.proofs.Common.{◌≡◌, ◌⊎◌, ℕ, ◌<◌, Bool, true, false, ◌||◌, List, [], ◌∷◌, ◌++◌, length, Option, Some}
use Rattle.std.proofs.Common.{None, Result, Ok, refl, sym, ap, ◌∙◌, subst, append_assoc, inl, inr}
use Rattle.std.specs.Prelude.{codes, nat_lt}
use Rattle.std.proofs.lemmas.List.{append-nil}
use Rattle.std.proofs.lemmas.Bool.{cases_Bool, both_ways, ltb-true}
use Rattle.redo_script.specs.declared.fault.ScriptFault.{ScriptFault}
use Rattle.redo_script.specs.Faults.{◌>>=◌, fault_at}
use Rattle.redo_script.specs.Syntax.{Word, Redirection, Command, Condition, Script, finish, simple, choice, loop}
use Rattle.redo_script.specs.Tokens.{Token, word, semicolon, newline, redirect}
use Rattle.redo_script.specs.Forms.{Item, spells, command_form, condition_form, name_of, is_bound, knows_word, knows}
use Rattle.redo_grammar.specs.Grammar.{AtSeparator, IsItems, none_left, one_item, redirected, SkipsNewlines, here}
use Rattle.redo_grammar.specs.Grammar.{past, Separates, by_semicolon, by_newline, IsKeyword, keyword, TakesWords}
use Rattle.redo_grammar.specs.Grammar.{no_word, one_word, lists_words, opens_loop, opens_if, IsCommand, a_command}
use Rattle.redo_grammar.specs.Grammar.{if_then, if_else, for_done, IsBlock, after_newlines, last, more, empty}
use Rattle.redo_grammar.specs.Grammar.{unended, continues, IsProgram}
use Rattle.redo_script.specs.Parsing.{Nest, nest_in, outermost, PartialCommand, Phase, at_command, in_command}
use Rattle.redo_script.specs.Parsing.{behind_if, in_condition, before_then, behind_fi, behind_for, behind_name}
use Rattle.redo_script.specs.Parsing.{in_words, before_do, behind_done, Open, open_if, open_loop, openings, ifs_in}
use Rattle.redo_script.specs.Parsing.{names_in, Parser, is_empty, with_last, is_one_of, commands, words_outside}
use Rattle.redo_script.specs.Parsing.{loop_words, if_words, begin_command, closed, or_shape, if_known, is_unfinished}
use Rattle.redo_script.specs.Parsing.{with_word, with_redirect, no_redirection, parse_on, statements_of, with_command}
use Rattle.redo_script.specs.Parsing.{with_condition, ended_command, ended_condition, unless_open, conditions}
use Rattle.redo_script.proofs.BitLemmas.{never, injected}
use Rattle.redo_grammar.proofs.ByteLemmas.{bind_ok}
use Rattle.redo_script.proofs.NameLemmas.{item, spells_is}
use Rattle.redo_grammar.proofs.CommandLemmas.{none_some}
use Rattle.redo_grammar.proofs.OneTokenLemmas.{in_place, awaiting_then, behind, command_begins}
use Rattle.redo_grammar.proofs.OnlyScriptLemmas.{with_finish, with_both}
use Rattle.redo_script.specs.declared.fault.Reason.TheVariants as reasons

-- What the rest of the tokens must be, by the place where reading stands.
-- In a command's place outside each if
record Top (s : Script) (ts : List Token) (script : Script) : Type 0 where
  more : Script
  is : IsProgram ts more
  all : with_last s more ≡ script

record Separated (R : List Token → Type 0) (ts : List Token) : Type 0 where
  next : List Token
  is : Separates ts next
  goes : R next

-- this word comes next, and what follows goes on so
record At (name : List ℕ) (E : List Token → Type 0) (ts : List Token) : Type 0 where
  rest : List Token
  is : IsKeyword name ts rest
  goes : E rest

record AtElse (n : Nest) (E : Script → List Token → Type 0) (ts : List Token) : Type 0 where
  begins : List Token
  second : Script
  ends : List Token
  is : IsKeyword (codes "else") ts begins
  block : IsBlock n begins second ends
  goes : At (codes "fi") (E second) ends

-- some commands more, or none, and then what closes the branch or the loop
record Part (n : Nest) (s : Script) (ts : List Token) (K : Script → List Token → Type 0) : Type 0 where
  others : Script
  mid : List Token
  is : (SkipsNewlines ts mid × (others ≡ finish)) ⊎ IsBlock n ts others mid
  full : is_empty (with_last s others) ≡ false
  closes : K (with_last s others) mid

abbrev nest_of : List Open → Nest
nest_of os = nest_in (openings os)

abbrev Closes : Open → Nest → (Script → List Token → Type 0) → Script → List Token → Type 0
Closes (open_if l c None before) n E branch mid = At (codes "fi") (E (closed (open_if l c None before) branch)) mid ⊎ AtElse n (λ second. E (closed (open_if l c (Some branch) before) second)) mid
Closes (open_if l c (Some f) before) n E branch mid = At (codes "fi") (E (closed (open_if l c (Some f) before) branch)) mid
Closes (open_loop l name ws before) n E body mid = At (codes "done") (E (closed (open_loop l name ws before) body)) mid

abbrev EndsAll : List Open → Script → List Token → Script → Type 0
EndsAll [] s ts script = (ts ≡ []) × (s ≡ script)
EndsAll (o ∷ os) s ts script = ⊥

-- in a command's place
abbrev Rest : List Open → Script → List Token → Script → Type 0
Rest [] s ts script = Top s ts script
Rest (o ∷ os) s ts script = Part (nest_of (o ∷ os)) s ts (λ branch mid. Closes o (nest_of (o ∷ os)) (λ x rest. EndsAll os x rest script ⊎ Separated (λ next. Rest os x next script) rest) branch mid)

-- behind a command
abbrev Ended : List Open → Script → List Token → Script → Type 0
Ended os s ts script = EndsAll os s ts script ⊎ Separated (λ next. Rest os s next script) ts

-- What is left of a command of which these items, this redirection, or > alone, were read
abbrev pub Takes : Bool → Option Bool → Option Redirection → List Item → List Token → List Item → Option Redirection → List Token → Type 0
Takes true a red its ts items r rest = ⊥
Takes false (Some a) red its ts items r rest = (k : ℕ) × (p : Bool) × (w : Word) × (ts ≡ word k p w ∷ rest) × AtSeparator rest × (items ≡ its) × (r ≡ Some (record { appends = a; word = w }))
Takes false None (Some red) its ts items r rest = AtSeparator ts × (ts ≡ rest) × (items ≡ its) × (r ≡ Some red)
Takes false None None its ts items r rest = (others : List Item) × IsItems ts others r rest × (items ≡ its ++ others)

record InCommand (b : PartialCommand) (os : List Open) (s : Script) (ts : List Token) (script : Script) : Type 0 where
  items : List Item
  r : Option Redirection
  rest : List Token
  c : Command
  takes : Takes b.is_ill b.awaits b.redirection b.items ts items r rest
  form : command_form b.name items r ≡ Some c
  known : knows (names_in os) items r ≡ true
  goes : Ended os (with_last s (simple b.line c finish)) rest script

abbrev AtThen : ℕ → Condition → List Open → Script → List Token → Script → Type 0
AtThen l c os s ts script = At (codes "then") (λ rest. Rest (open_if l c None s ∷ os) finish rest script) ts

record InCondition (b : PartialCommand) (os : List Open) (s : Script) (ts : List Token) (script : Script) : Type 0 where
  items : List Item
  r : Option Redirection
  rest : List Token
  c : Condition
  takes : Takes b.is_ill b.awaits b.redirection b.items ts items r rest
  form : no_redirection r (condition_form b.name items) ≡ Some c
  known : knows (names_in os) items r ≡ true
  next : List Token
  separates : Separates rest next
  goes : AtThen b.line c os s next script

record BeforeThen (l : ℕ) (c : Condition) (os : List Open) (s : Script) (ts : List Token) (script : Script) : Type 0 where
  next : List Token
  skips : SkipsNewlines ts next
  goes : AtThen l c os s next script

record BehindIf (l : ℕ) (os : List Open) (s : Script) (ts : List Token) (script : Script) : Type 0 where
  k : ℕ
  p : Bool
  w : Word
  others : List Token
  is : ts ≡ word k p w ∷ others
  goes : InCondition (begin_command l (item p w)) os s others script

abbrev AtDo : ℕ → List ℕ → List Word → List Open → Script → List Token → Script → Type 0
AtDo l name ws os s ts script = At (codes "do") (λ rest. Rest (open_loop l name ws s ∷ os) finish rest script) ts

record BeforeDo (l : ℕ) (name : List ℕ) (ws : List Word) (os : List Open) (s : Script) (ts : List Token) (script : Script) : Type 0 where
  next : List Token
  skips : SkipsNewlines ts next
  goes : AtDo l name ws os s next script

record InWords (l : ℕ) (name : List ℕ) (ws : List Word) (os : List Open) (s : Script) (ts : List Token) (script : Script) : Type 0 where
  others : List Word
  rest : List Token
  takes : TakesWords (names_in os) ts others rest
  next : List Token
  separates : Separates rest next
  goes : AtDo l name (ws ++ others) os s next script

abbrev BehindName : ℕ → List ℕ → List Open → Script → List Token → Script → Type 0
BehindName l name os s ts script = At (codes "in") (λ rest. InWords l name [] os s rest script) ts

record BehindFor (l : ℕ) (os : List Open) (s : Script) (ts : List Token) (script : Script) : Type 0 where
  k : ℕ
  p : Bool
  w : Word
  name : List ℕ
  others : List Token
  is : ts ≡ word k p w ∷ others
  is_name : name_of (item p w) ≡ Some name
  new : is_bound (names_in os) name ≡ false
  goes : BehindName l name os s others script

abbrev After : Phase → List Open → Script → List Token → Script → Type 0
After at_command os s ts script = Rest os s ts script
After (in_command b) os s ts script = InCommand b os s ts script
After (behind_if l) os s ts script = BehindIf l os s ts script
After (in_condition b) os s ts script = InCondition b os s ts script
After (before_then l c) os s ts script = BeforeThen l c os s ts script
After (behind_fi l) os s ts script = Ended os s ts script
After (behind_for l) os s ts script = BehindFor l os s ts script
After (behind_name l name) os s ts script = BehindName l name os s ts script
After (in_words l name ws) os s ts script = InWords l name ws os s ts script
After (before_do l name ws) os s ts script = BeforeDo l name ws os s ts script
After (behind_done l) os s ts script = Ended os s ts script

abbrev pub parser : Phase → List Open → Script → Parser
parser phase os s = record { phase = phase; opens = os; so_far = s }

abbrev Found : List Token → Type 0
Found ts = (phase : Phase) (os : List Open) (s script : Script) → parse_on (parser phase os s) ts ≡ Ok script → After phase os s ts script

-- tools
-- what a form gives, where each name is bound
pub formed_ok : {A : Type 0} (l : ℕ) (ill : Bool) (o : Option A) (known : Bool) (x : A) → (or_shape l ill o >>= if_known l known) ≡ Ok x → (ill ≡ false) × (o ≡ Some x) × (known ≡ true)
formed_ok l true o known x h = never h
formed_ok l false None known x h = never h
formed_ok l false (Some y) true x h = (refl, ap (λ z. Some z) (injected h), refl)
formed_ok l false (Some y) false x h = never h

pub skips_both : {ts mid rest : List Token} → SkipsNewlines ts mid → SkipsNewlines mid rest → SkipsNewlines ts rest
skips_both here k = k
skips_both (past g) k = past (skips_both g k)

pub separates_on : {ts mid rest : List Token} → Separates ts mid → SkipsNewlines mid rest → Separates ts rest
separates_on (by_semicolon g) k = by_semicolon (skips_both g k)
separates_on (by_newline g) k = by_newline (skips_both g k)

is_full : {C : Type 0} (s : Script) → s ≡ finish → is_empty s ≡ false → C
is_full {C} s e h = absurd (both_ways true (sym (ap is_empty e) ∙ h) refl)

block_before : {n : Nest} (one : Script) {ts rest next others' : List Token} {others : Script} → ((after : Script) → IsCommand n ts rest after (with_last one after)) → Separates rest next → IsBlock n next others others' → IsBlock n ts (with_last one others) others'
block_before one c sep (after_newlines {script} g k) = after_newlines here (more (c script) (separates_on sep g) k)

-- one command, and then what may follow
before_rest : (os : List Open) (s one : Script) (ts rest : List Token) (script : Script) → ((after : Script) → IsCommand (nest_of os) ts rest after (with_last one after)) → Ended os (with_last s one) rest script → Rest os s ts script
before_rest [] s one ts rest script c (inl g) = record {
  more = with_last one finish;
  is = (ts, here, unended (subst (λ (x : List Token). IsCommand outermost ts x finish (with_last one finish)) g.0 (c finish)));
  all = ap (λ x. with_last s x) (with_finish one) ∙ g.1;
}
before_rest [] s one ts rest script c (inr g) = record {
  more = with_last one g.goes.more;
  is = (ts, here, continues (c g.goes.more) (separates_on g.is g.goes.is.1) g.goes.is.2);
  all = sym (with_both s one g.goes.more) ∙ g.goes.all;
}
before_rest (o ∷ os) s one ts rest script c (inl g) = absurd g
before_rest (o ∷ os) s one ts rest script c (inr g) = record {
  others = with_last one g.goes.others;
  mid = g.goes.mid;
  is = inr (elim g.goes.is [
    | inl k ↦ after_newlines here (last (subst (λ (x : Script). IsCommand (nest_of (o ∷ os)) ts rest x (with_last one g.goes.others)) k.1 (c g.goes.others)) (separates_on g.is k.0))
    | inr b ↦ block_before one c g.is b
  ]);
  full = subst (λ (x : Script). is_empty x ≡ false) (with_both s one g.goes.others) g.goes.full;
  closes = subst (λ (x : Script). Closes o (nest_of (o ∷ os)) (λ y rest'. Ended os y rest' script) x g.goes.mid) (with_both s one g.goes.others) g.goes.closes;
}

newline_rest : (os : List Open) (s : Script) (l : ℕ) (ts : List Token) (script : Script) → Rest os s ts script → Rest os s (newline l ∷ ts) script
newline_rest [] s l ts script g = record { more = g.more; is = (g.is.0, past g.is.1, g.is.2); all = g.all }
newline_rest (o ∷ os) s l ts script g = record {
  others = g.others;
  mid = g.mid;
  is = elim g.is [ inl k ↦ inl (past k.0, k.1) | inr b ↦ inr (past_block b) ];
  full = g.full;
  closes = g.closes;
}
  where
    past_block : {n : Nest} {next others' : List Token} {others : Script} → IsBlock n next others others' → IsBlock n (newline l ∷ next) others others'
    past_block (after_newlines g k) = after_newlines (past g) k

-- a branch that isn't empty
is_block : {n : Nest} {ts mid : List Token} {others : Script} → is_empty others ≡ false → (SkipsNewlines ts mid × (others ≡ finish)) ⊎ IsBlock n ts others mid → IsBlock n ts others mid
is_block {others} full (inl k) = is_full others k.1 full
is_block full (inr b) = b

pub no_redirection_is : (r : Option Redirection) (o : Option Condition) (c : Condition) → no_redirection r o ≡ Some c → (r ≡ None) × (o ≡ Some c)
no_redirection_is None o c h = (refl, h)
no_redirection_is (Some r) o c h = none_some h

if_closes : (os : List Open) (s : Script) (l k : ℕ) (v w : Word) (p : Bool) (t1 : List Token) (script : Script) → spells v (codes "if") ≡ true → ifs_in os < 16 → InCondition (begin_command l (item p w)) os s t1 script → Rest os s (word l true v ∷ word k p w ∷ t1) script
if_closes os s l k v w p t1 script e lt g =
    let n = no_redirection_is g.r (condition_form (item p w) g.items) g.c g.form in
    let items : IsItems t1 g.items None g.rest = subst (λ (x : Option Redirection). IsItems t1 g.items x g.rest) n.0 (subst (λ (x : List Item). IsItems t1 x g.r g.rest) (sym g.takes.2) g.takes.1) in
    let known : knows (names_in os) g.items None ≡ true = subst (λ (x : Option Redirection). knows (names_in os) g.items x ≡ true) n.0 g.known in
    let branch = g.goes.goes in
    let block : IsBlock (nest_of (open_if l g.c None s ∷ os)) g.goes.rest branch.others branch.mid = is_block branch.full branch.is in
    elim branch.closes [
      | inl fi ↦ before_rest os s (choice l g.c branch.others finish finish) (word l true v ∷ word k p w ∷ t1) fi.rest script (λ after. if_then lt (opens_if e items n.1 known g.separates g.goes.is) block fi.is) fi.goes
      | inr el ↦ before_rest os s (choice l g.c branch.others el.second finish) (word l true v ∷ word k p w ∷ t1) el.goes.rest script (λ after. if_else lt (opens_if e items n.1 known g.separates g.goes.is) block el.is el.block el.goes.is) el.goes.goes
    ]

loop_closes : (os : List Open) (s : Script) (l k : ℕ) (v w : Word) (p : Bool) (name : List ℕ) (t1 : List Token) (script : Script) → spells v (codes "for") ≡ true → length (names_in os) < 2 → name_of (item p w) ≡ Some name → is_bound (names_in os) name ≡ false → BehindName l name os s t1 script → Rest os s (word l true v ∷ word k p w ∷ t1) script
loop_closes os s l k v w p name t1 script e lt is_name new g =
    let body = g.goes.goes.goes in
    let block : IsBlock (nest_of (open_loop l name g.goes.others s ∷ os)) g.goes.goes.rest body.others body.mid = is_block body.full body.is in
    before_rest os s (loop l name g.goes.others body.others finish) (word l true v ∷ word k p w ∷ t1) body.closes.rest script (λ after. for_done lt (opens_loop (lists_words e is_name new g.is g.goes.takes) g.goes.separates g.goes.goes.is) block body.closes.is) body.closes.goes

-- a word that is none of the shell's own with a place of its own
abbrev pub IsNoKeyword : Word → Type 0
IsNoKeyword w = (spells w (codes "if") ≡ false) × (spells w (codes "then") ≡ false) × (spells w (codes "else") ≡ false) × (spells w (codes "fi") ≡ false) × (spells w (codes "for") ≡ false) × (spells w (codes "do") ≡ false) × (spells w (codes "done") ≡ false)

-- a word in a command's place, by what follows it
else_in_place : (ts : List Token) → Found ts → (l : ℕ) (w : Word) (os : List Open) (s script : Script) → spells w (codes "else") ≡ true → parse_on (in_place os s) (word l true w ∷ ts) ≡ Ok script → Rest os s (word l true w ∷ ts) script
unfolding parse_on
else_in_place ts f l w [] s script e h = never (rw (spells_is w (codes "else") e) at h)
else_in_place ts f l w (open_loop k name ws before ∷ os) s script e h = never (rw (spells_is w (codes "else") e) at h)
else_in_place ts f l w (open_if k c (Some first) before ∷ os) s script e h = never (rw (spells_is w (codes "else") e) at h)
else_in_place ts f l w (open_if k c None before ∷ os) s script e h = elim (cases_Bool (is_empty s)) [
  | inl none ↦ never (rw (spells_is w (codes "else") e, none) at h)
  | inr full ↦
      let g : Rest (open_if k c (Some s) before ∷ os) finish ts script = f at_command (open_if k c (Some s) before ∷ os) finish script (rw (spells_is w (codes "else") e, full) at h) in
      record {
        others = finish;
        mid = word l true w ∷ ts;
        is = inl (here, refl);
        full = rw (with_finish s) full;
        closes = subst (λ (x : Script). Closes (open_if k c None before) (nest_of (open_if k c None before ∷ os)) (λ y rest. Ended os y rest script) x (word l true w ∷ ts)) (sym (with_finish s)) (inr (record { begins = ts; second = g.others; ends = g.mid; is = keyword e; block = is_block g.full g.is; goes = g.closes }));
      }
]

fi_in_branch : (ts : List Token) (l : ℕ) (w : Word) (k : ℕ) (c : Condition) (first : Option Script) (before : Script) (n : Nest) (E : Script → List Token → Type 0) (s : Script) → spells w (codes "fi") ≡ true → E (closed (open_if k c first before) s) ts → Closes (open_if k c first before) n E s (word l true w ∷ ts)
fi_in_branch ts l w k c None before n E s e g = inl (record { rest = ts; is = keyword e; goes = g })
fi_in_branch ts l w k c (Some first) before n E s e g = record { rest = ts; is = keyword e; goes = g }

fi_in_place : (ts : List Token) → Found ts → (l : ℕ) (w : Word) (os : List Open) (s script : Script) → spells w (codes "fi") ≡ true → parse_on (in_place os s) (word l true w ∷ ts) ≡ Ok script → Rest os s (word l true w ∷ ts) script
unfolding parse_on
fi_in_place ts f l w [] s script e h = never (rw (spells_is w (codes "fi") e) at h)
fi_in_place ts f l w (open_loop k name ws before ∷ os) s script e h = never (rw (spells_is w (codes "fi") e) at h)
fi_in_place ts f l w (open_if k c first before ∷ os) s script e h = elim (cases_Bool (is_empty s)) [
  | inl none ↦ never (rw (spells_is w (codes "fi") e, none) at h)
  | inr full ↦
      let g : Ended os (closed (open_if k c first before) s) ts script = f (behind_fi l) os (closed (open_if k c first before) s) script (rw (spells_is w (codes "fi") e, full) at h) in
      record {
        others = finish;
        mid = word l true w ∷ ts;
        is = inl (here, refl);
        full = rw (with_finish s) full;
        closes = subst (λ (x : Script). Closes (open_if k c first before) (nest_of (open_if k c first before ∷ os)) (λ y rest. Ended os y rest script) x (word l true w ∷ ts)) (sym (with_finish s)) (fi_in_branch ts l w k c first before (nest_of (open_if k c first before ∷ os)) (λ y rest. Ended os y rest script) s e g);
      }
]

done_in_place : (ts : List Token) → Found ts → (l : ℕ) (w : Word) (os : List Open) (s script : Script) → spells w (codes "done") ≡ true → parse_on (in_place os s) (word l true w ∷ ts) ≡ Ok script → Rest os s (word l true w ∷ ts) script
unfolding parse_on
done_in_place ts f l w [] s script e h = never (rw (spells_is w (codes "done") e) at h)
done_in_place ts f l w (open_if k c first before ∷ os) s script e h = never (rw (spells_is w (codes "done") e) at h)
done_in_place ts f l w (open_loop k name ws before ∷ os) s script e h = elim (cases_Bool (is_empty s)) [
  | inl none ↦ never (rw (spells_is w (codes "done") e, none) at h)
  | inr full ↦
      let g : Ended os (closed (open_loop k name ws before) s) ts script = f (behind_done l) os (closed (open_loop k name ws before) s) script (rw (spells_is w (codes "done") e, full) at h) in
      record {
        others = finish;
        mid = word l true w ∷ ts;
        is = inl (here, refl);
        full = rw (with_finish s) full;
        closes = subst (λ (x : Script). Closes (open_loop k name ws before) (nest_of (open_loop k name ws before ∷ os)) (λ y rest. Ended os y rest script) x (word l true w ∷ ts)) (sym (with_finish s)) (record { rest = ts; is = keyword e; goes = g });
      }
]

if_in_place : (ts : List Token) → Found ts → (l : ℕ) (w : Word) (os : List Open) (s script : Script) → spells w (codes "if") ≡ true → parse_on (in_place os s) (word l true w ∷ ts) ≡ Ok script → Rest os s (word l true w ∷ ts) script
unfolding parse_on
if_in_place ts f l w os s script e h = elim (cases_Bool (nat_lt (ifs_in os) 16)) [
  | inl lt ↦
      let g = f (behind_if l) os s script (rw (e, lt) at h) in
      subst (λ (x : List Token). Rest os s (word l true w ∷ x) script) (sym g.is) (if_closes os s l g.k w g.w g.p g.others script e (ltb-true (ifs_in os) 16 lt) g.goes)
  | inr ge ↦ never (rw (e, ge) at h)
]

for_in_place : (ts : List Token) → Found ts → (l : ℕ) (w : Word) (os : List Open) (s script : Script) → spells w (codes "for") ≡ true → parse_on (in_place os s) (word l true w ∷ ts) ≡ Ok script → Rest os s (word l true w ∷ ts) script
unfolding parse_on
for_in_place ts f l w os s script e h = elim (cases_Bool (nat_lt (length (names_in os)) 2)) [
  | inl lt ↦
      let g = f (behind_for l) os s script (rw (spells_is w (codes "for") e, lt) at h) in
      subst (λ (x : List Token). Rest os s (word l true w ∷ x) script) (sym g.is) (loop_closes os s l g.k w g.w g.p g.name g.others script e (ltb-true (length (names_in os)) 2 lt) g.is_name g.new g.goes)
  | inr ge ↦ never (rw (spells_is w (codes "for") e, ge) at h)
]

command_in_place : (ts : List Token) → Found ts → (l : ℕ) (w : Word) (os : List Open) (s script : Script) → is_one_of commands (item true w) ≡ true → parse_on (in_place os s) (word l true w ∷ ts) ≡ Ok script → Rest os s (word l true w ∷ ts) script
command_in_place ts f l w os s script e h =
    let g = f (in_command (begin_command l (item true w))) os s script (sym (command_begins l true w ts os s e) ∙ h) in
    let items : IsItems ts g.items g.r g.rest = subst (λ (x : List Item). IsItems ts x g.r g.rest) (sym g.takes.2) g.takes.1 in
    before_rest os s (simple l g.c finish) (word l true w ∷ ts) g.rest script (λ after. a_command items g.form g.known) g.goes

-- a word by what it is among the shell's own
pub word_kinds : {C : Type 0} (w : Word) → (spells w (codes "if") ≡ true → C) → (spells w (codes "then") ≡ true → C) → (spells w (codes "else") ≡ true → C) → (spells w (codes "fi") ≡ true → C) → (spells w (codes "for") ≡ true → C) → (spells w (codes "do") ≡ true → C) → (spells w (codes "done") ≡ true → C) → (IsNoKeyword w → C) → C
word_kinds w k1 k2 k3 k4 k5 k6 k7 k8 = elim (cases_Bool (spells w (codes "if"))) [
  | inl e ↦ k1 e
  | inr e1 ↦ elim (cases_Bool (spells w (codes "then"))) [
    | inl e ↦ k2 e
    | inr e2 ↦ elim (cases_Bool (spells w (codes "else"))) [
      | inl e ↦ k3 e
      | inr e3 ↦ elim (cases_Bool (spells w (codes "fi"))) [
        | inl e ↦ k4 e
        | inr e4 ↦ elim (cases_Bool (spells w (codes "for"))) [
          | inl e ↦ k5 e
          | inr e5 ↦ elim (cases_Bool (spells w (codes "do"))) [
            | inl e ↦ k6 e
            | inr e6 ↦ elim (cases_Bool (spells w (codes "done"))) [ inl e ↦ k7 e | inr e7 ↦ k8 (e1, e2, e3, e4, e5, e6, e7) ]
          ]
        ]
      ]
    ]
  ]
]

name_in_place : (ts : List Token) → Found ts → (l : ℕ) (w : Word) (os : List Open) (s script : Script) → IsNoKeyword w → parse_on (in_place os s) (word l true w ∷ ts) ≡ Ok script → Rest os s (word l true w ∷ ts) script
unfolding parse_on
name_in_place ts f l w os s script n h = elim (cases_Bool (is_one_of commands (item true w))) [
  | inl e ↦ command_in_place ts f l w os s script e h
  | inr e5 ↦ elim (cases_Bool (is_one_of words_outside (item true w))) [
    | inl e ↦ never (rw (n.0, n.1, n.2, n.3, n.4, n.5, n.6, e5, e) at h)
    | inr e ↦ never (rw (n.0, n.1, n.2, n.3, n.4, n.5, n.6, e5, e) at h)
  ]
]

word_in_place : (ts : List Token) → Found ts → (l : ℕ) (p : Bool) (w : Word) (os : List Open) (s script : Script) → parse_on (in_place os s) (word l p w ∷ ts) ≡ Ok script → Rest os s (word l p w ∷ ts) script
unfolding parse_on
word_in_place ts f l false w os s script h = never h
word_in_place ts f l true w os s script h =
    word_kinds w
    (λ e. if_in_place ts f l w os s script e h)
    (λ e. never (rw (spells_is w (codes "then") e) at h))
    (λ e. else_in_place ts f l w os s script e h)
    (λ e. fi_in_place ts f l w os s script e h)
    (λ e. for_in_place ts f l w os s script e h)
    (λ e. never (rw (spells_is w (codes "do") e) at h))
    (λ e. done_in_place ts f l w os s script e h)
    (λ n. name_in_place ts f l w os s script n h)

-- commands that were begun
abbrev pub TakesOf : PartialCommand → List Token → List Item → Option Redirection → List Token → Type 0
TakesOf b ts items r rest = Takes b.is_ill b.awaits b.redirection b.items ts items r rest

-- what b takes from ts' is what b' takes from ts
pub record Continues (b b' : PartialCommand) (ts ts' : List Token) : Type 0 where
  pub line : b'.line ≡ b.line
  pub name : b'.name ≡ b.name
  pub takes : (items : List Item) (r : Option Redirection) (rest : List Token) → TakesOf b' ts items r rest → TakesOf b ts' items r rest

abbrev pub state : ℕ → Item → List Item → Bool → Option Bool → Option Redirection → PartialCommand
state l n its ill aw red = record { line = l; name = n; items = its; redirection = red; is_ill = ill; awaits = aw }

pub word_continues : (l : ℕ) (n : Item) (its : List Item) (ill : Bool) (aw : Option Bool) (red : Option Redirection) (k : ℕ) (p : Bool) (w : Word) (ts : List Token) → Continues (state l n its ill aw red) (with_word (state l n its ill aw red) (item p w)) ts (word k p w ∷ ts)
word_continues l n its true (Some a) red k p w ts = record { line = refl; name = refl; takes = λ items r rest x. absurd x }
word_continues l n its true None (Some red) k p w ts = record { line = refl; name = refl; takes = λ items r rest x. absurd x }
word_continues l n its true None None k p w ts = record { line = refl; name = refl; takes = λ items r rest x. absurd x }
word_continues l n its false (Some a) red k p w ts = record { line = refl; name = refl; takes = λ items r rest x. (k, p, w, ap (λ t. word k p w ∷ t) x.1, subst AtSeparator x.1 x.0, x.2, x.3) }
word_continues l n its false None (Some red) k p w ts = record { line = refl; name = refl; takes = λ items r rest x. absurd x }
word_continues l n its false None None k p w ts = record { line = refl; name = refl; takes = λ items r rest x. (item p w ∷ x.0, one_item x.1, x.2 ∙ append_assoc its (item p w ∷ []) x.0) }

pub redirect_continues : (l : ℕ) (n : Item) (its : List Item) (ill : Bool) (aw : Option Bool) (red : Option Redirection) (k : ℕ) (a : Bool) (ts : List Token) → Continues (state l n its ill aw red) (with_redirect (state l n its ill aw red) a) ts (redirect k a ∷ ts)
redirect_continues l n its ill (Some b) red k a ts = record { line = refl; name = refl; takes = λ items r rest x. absurd x }
redirect_continues l n its ill None (Some red) k a ts = record { line = refl; name = refl; takes = λ items r rest x. absurd x }
redirect_continues l n its true None None k a ts = record { line = refl; name = refl; takes = λ items r rest x. absurd x }
redirect_continues l n its false None None k a ts = record { line = refl; name = refl; takes = λ items r rest x. ([], subst (λ (y : Option Redirection). IsItems (redirect k a ∷ ts) [] y rest) (sym x.6) (subst (λ (y : List Token). IsItems (redirect k a ∷ y) [] (Some (record { appends = a; word = x.2 })) rest) (sym x.3) (redirected x.4)), x.5 ∙ sym (append-nil its)) }

command_goes : (b b' : PartialCommand) (os : List Open) (s : Script) (ts ts' : List Token) (script : Script) → Continues b b' ts ts' → InCommand b' os s ts script → InCommand b os s ts' script
command_goes b b' os s ts ts' script k g = record {
  items = g.items;
  r = g.r;
  rest = g.rest;
  c = g.c;
  takes = k.takes g.items g.r g.rest g.takes;
  form = subst (λ (x : Item). command_form x g.items g.r ≡ Some g.c) k.name g.form;
  known = g.known;
  goes = subst (λ (x : ℕ). Ended os (with_last s (simple x g.c finish)) g.rest script) k.line g.goes;
}

condition_goes : (b b' : PartialCommand) (os : List Open) (s : Script) (ts ts' : List Token) (script : Script) → Continues b b' ts ts' → InCondition b' os s ts script → InCondition b os s ts' script
condition_goes b b' os s ts ts' script k g = record {
  items = g.items;
  r = g.r;
  rest = g.rest;
  c = g.c;
  takes = k.takes g.items g.r g.rest g.takes;
  form = subst (λ (x : Item). no_redirection g.r (condition_form x g.items) ≡ Some g.c) k.name g.form;
  known = g.known;
  next = g.next;
  separates = g.separates;
  goes = subst (λ (x : ℕ). AtThen x g.c os s g.next script) k.line g.goes;
}

pub takes_end : (ill : Bool) (aw : Option Bool) (red : Option Redirection) (its : List Item) (ts : List Token) → AtSeparator ts → (ill || elim aw [ Some a ↦ true | None ↦ false ]) ≡ false → Takes ill aw red its ts its red ts
takes_end true aw red its ts a e = absurd (both_ways true e refl)
takes_end false (Some x) red its ts a e = absurd (both_ways true e refl)
takes_end false None (Some red) its ts a e = (a, refl, refl, refl)
takes_end false None None its ts a e = ([], none_left a, sym (append-nil its))

-- a command ends, and what is behind it goes on
command_ended : (b : PartialCommand) (os : List Open) (s : Script) (ts : List Token) (script : Script) → AtSeparator ts → (go : Parser → Result Script ScriptFault) → (with_command (parser (in_command b) os s) b >>= go) ≡ Ok script → ((c : Command) → go (in_place os (with_last s (simple b.line c finish))) ≡ Ok script → Ended os (with_last s (simple b.line c finish)) ts script) → InCommand b os s ts script
command_ended b os s ts script a go h next =
    let one = bind_ok (with_command (parser (in_command b) os s) b) go script h in
    let two = bind_ok (ended_command (names_in os) b) (λ c. Ok (in_place os (with_last s (simple b.line c finish)))) one.0 one.1 in
    let form = formed_ok b.line (is_unfinished b) (command_form b.name b.items b.redirection) (knows (names_in os) b.items b.redirection) two.0 two.1 in
    record {
      items = b.items;
      r = b.redirection;
      rest = ts;
      c = two.0;
      takes = takes_end b.is_ill b.awaits b.redirection b.items ts a form.0;
      form = form.1;
      known = form.2;
      goes = next two.0 (subst (λ (x : Parser). go x ≡ Ok script) (sym (injected two.2)) one.2);
    }

condition_ended : (b : PartialCommand) (os : List Open) (s : Script) (t : Token) (ts : List Token) (script : Script) → AtSeparator (t ∷ ts) → ((next : List Token) → SkipsNewlines ts next → Separates (t ∷ ts) next) → Found ts → (with_condition (parser (in_condition b) os s) b >>= λ q. parse_on q ts) ≡ Ok script → InCondition b os s (t ∷ ts) script
condition_ended b os s t ts script a sep f h =
    let one = bind_ok (with_condition (parser (in_condition b) os s) b) (λ q. parse_on q ts) script h in
    let two = bind_ok (ended_condition (names_in os) b) (λ c. Ok (parser (before_then b.line c) os s)) one.0 one.1 in
    let form = formed_ok b.line (is_unfinished b) (no_redirection b.redirection (condition_form b.name b.items)) (knows (names_in os) b.items b.redirection) two.0 two.1 in
    let g = f (before_then b.line two.0) os s script (subst (λ (x : Parser). parse_on x ts ≡ Ok script) (sym (injected two.2)) one.2) in
    record {
      items = b.items;
      r = b.redirection;
      rest = t ∷ ts;
      c = two.0;
      takes = takes_end b.is_ill b.awaits b.redirection b.items (t ∷ ts) a form.0;
      form = form.1;
      known = form.2;
      next = g.next;
      separates = sep g.next g.skips;
      goes = g.goes;
    }

all_closed : (os : List Open) (s script : Script) → unless_open os s ≡ Ok script → Rest os s [] script
all_closed [] s script h = record { more = finish; is = ([], here, empty); all = with_finish s ∙ injected h }
all_closed (open_if l c first before ∷ os) s script h = never h
all_closed (open_loop l name ws before ∷ os) s script h = never h

all_ended : (os : List Open) (s script : Script) → unless_open os s ≡ Ok script → Ended os s [] script
all_ended [] s script h = inl (refl, injected h)
all_ended (open_if l c first before ∷ os) s script h = never h
all_ended (open_loop l name ws before ∷ os) s script h = never h

at_once : Found []
unfolding parse_on
at_once at_command os s script h = all_closed os s script h
at_once (in_command b) os s script h = command_ended b os s [] script tt (λ q. unless_open q.opens q.so_far) h (λ c k. all_ended os (with_last s (simple b.line c finish)) script k)
at_once (behind_if l) os s script h = never h
at_once (in_condition b) os s script h = never (bind_ok (with_condition (parser (in_condition b) os s) b) (λ q. fault_at {A = Script} b.line reasons.IfShape) script h).2
at_once (before_then l c) os s script h = never h
at_once (behind_fi l) os s script h = all_ended os s script h
at_once (behind_for l) os s script h = never h
at_once (behind_name l name) os s script h = never h
at_once (in_words l name ws) os s script h = never h
at_once (before_do l name ws) os s script h = never h
at_once (behind_done l) os s script h = all_ended os s script h

then_found : (ts : List Token) → Found ts → (l : ℕ) (c : Condition) (k : ℕ) (p : Bool) (w : Word) (os : List Open) (s script : Script) → parse_on (awaiting_then l c os s) (word k p w ∷ ts) ≡ Ok script → BeforeThen l c os s (word k p w ∷ ts) script
unfolding parse_on
then_found ts f l c k false w os s script h = never h
then_found ts f l c k true w os s script h = elim (cases_Bool (spells w (codes "then"))) [
  | inl e ↦ record { next = word k true w ∷ ts; skips = here; goes = record { rest = ts; is = keyword e; goes = f at_command (open_if l c None s ∷ os) finish script (rw e at h) } }
  | inr e ↦ elim (cases_Bool (is_one_of loop_words (item true w))) [ inl g ↦ never (rw (e, g) at h) | inr g ↦ never (rw (e, g) at h) ]
]

condition_found : (ts : List Token) → Found ts → (l k : ℕ) (p : Bool) (w : Word) (os : List Open) (s script : Script) → parse_on (parser (behind_if l) os s) (word k p w ∷ ts) ≡ Ok script → BehindIf l os s (word k p w ∷ ts) script
unfolding parse_on
condition_found ts f l k p w os s script h = elim (cases_Bool (is_one_of conditions (item p w))) [
  | inl e ↦ record { k = k; p = p; w = w; others = ts; is = refl; goes = f (in_condition (begin_command l (item p w))) os s script (rw e at h) }
  | inr e ↦ elim (cases_Bool (is_one_of loop_words (item p w))) [ inl g ↦ never (rw (e, g) at h) | inr g ↦ never (rw (e, g) at h) ]
]

fi_followed : {C : Type 0} (l k : ℕ) (p : Bool) (w : Word) (ts : List Token) (os : List Open) (s script : Script) → parse_on (behind l os s) (word k p w ∷ ts) ≡ Ok script → C
unfolding parse_on
fi_followed l k p w ts os s script h = elim (cases_Bool (is_one_of loop_words (item p w))) [ inl e ↦ never (rw e at h) | inr e ↦ never (rw e at h) ]

name_found : (ts : List Token) → Found ts → (l k : ℕ) (p : Bool) (w : Word) (os : List Open) (s script : Script) → parse_on (parser (behind_for l) os s) (word k p w ∷ ts) ≡ Ok script → BehindFor l os s (word k p w ∷ ts) script
unfolding parse_on
name_found ts f l k p w os s script h = go (name_of (item p w)) refl
  where
    go : (o : Option (List ℕ)) → name_of (item p w) ≡ o → BehindFor l os s (word k p w ∷ ts) script
    go None e = never (rw e at h)
    go (Some name) e = elim (cases_Bool (is_bound (names_in os) name)) [
      | inl bound ↦ never (rw (e, bound) at h)
      | inr new ↦ record { k = k; p = p; w = w; name = name; others = ts; is = refl; is_name = e; new = new; goes = f (behind_name l name) os s script (rw (e, new) at h) }
    ]

in_found : (ts : List Token) → Found ts → (l : ℕ) (name : List ℕ) (k : ℕ) (p : Bool) (w : Word) (os : List Open) (s script : Script) → parse_on (parser (behind_name l name) os s) (word k p w ∷ ts) ≡ Ok script → BehindName l name os s (word k p w ∷ ts) script
unfolding parse_on
in_found ts f l name k false w os s script h = never h
in_found ts f l name k true w os s script h = elim (cases_Bool (spells w (codes "in"))) [
  | inl e ↦ record { rest = ts; is = keyword e; goes = f (in_words l name []) os s script (rw e at h) }
  | inr e ↦ never (rw e at h)
]

words_found : (ts : List Token) → Found ts → (l : ℕ) (name : List ℕ) (ws : List Word) (k : ℕ) (p : Bool) (w : Word) (os : List Open) (s script : Script) → parse_on (parser (in_words l name ws) os s) (word k p w ∷ ts) ≡ Ok script → InWords l name ws os s (word k p w ∷ ts) script
unfolding parse_on
words_found ts f l name ws k p w os s script h = elim (cases_Bool (knows_word (names_in os) w)) [
  | inl e ↦
      let g = f (in_words l name (ws ++ w ∷ [])) os s script (rw e at h) in
      record { others = w ∷ g.others; rest = g.rest; takes = one_word e g.takes; next = g.next; separates = g.separates; goes = subst (λ (x : List Word). AtDo l name x os s g.next script) (append_assoc ws (w ∷ []) g.others) g.goes }
  | inr e ↦ never (rw e at h)
]

words_over : (ts : List Token) → Found ts → (l : ℕ) (name : List ℕ) (ws : List Word) (t : Token) (os : List Open) (s script : Script) → ((next : List Token) → SkipsNewlines ts next → Separates (t ∷ ts) next) → parse_on (parser (before_do l name ws) os s) ts ≡ Ok script → InWords l name ws os s (t ∷ ts) script
words_over ts f l name ws t os s script sep h =
    let g = f (before_do l name ws) os s script h in
    record { others = []; rest = t ∷ ts; takes = no_word; next = g.next; separates = sep g.next g.skips; goes = subst (λ (x : List Word). AtDo l name x os s g.next script) (sym (append-nil ws)) g.goes }

do_found : (ts : List Token) → Found ts → (l : ℕ) (name : List ℕ) (ws : List Word) (k : ℕ) (p : Bool) (w : Word) (os : List Open) (s script : Script) → parse_on (parser (before_do l name ws) os s) (word k p w ∷ ts) ≡ Ok script → BeforeDo l name ws os s (word k p w ∷ ts) script
unfolding parse_on
do_found ts f l name ws k false w os s script h = never h
do_found ts f l name ws k true w os s script h = elim (cases_Bool (spells w (codes "do"))) [
  | inl e ↦ record { next = word k true w ∷ ts; skips = here; goes = record { rest = ts; is = keyword e; goes = f at_command (open_loop l name ws s ∷ os) finish script (rw e at h) } }
  | inr e ↦ elim (cases_Bool (is_one_of if_words (item true w))) [ inl g ↦ never (rw (e, g) at h) | inr g ↦ never (rw (e, g) at h) ]
]

one_token : (t : Token) (ts : List Token) → Found ts → Found (t ∷ ts)
unfolding parse_on
one_token (word l p w) ts f at_command os s script h = word_in_place ts f l p w os s script h
one_token (word l p w) ts f (in_command b) os s script h = command_goes b (with_word b (item p w)) os s ts (word l p w ∷ ts) script (word_continues b.line b.name b.items b.is_ill b.awaits b.redirection l p w ts) (f (in_command (with_word b (item p w))) os s script h)
one_token (word l p w) ts f (behind_if k) os s script h = condition_found ts f k l p w os s script h
one_token (word l p w) ts f (in_condition b) os s script h = condition_goes b (with_word b (item p w)) os s ts (word l p w ∷ ts) script (word_continues b.line b.name b.items b.is_ill b.awaits b.redirection l p w ts) (f (in_condition (with_word b (item p w))) os s script h)
one_token (word l p w) ts f (before_then k c) os s script h = then_found ts f k c l p w os s script h
one_token (word l p w) ts f (behind_fi k) os s script h = fi_followed k l p w ts os s script h
one_token (word l p w) ts f (behind_for k) os s script h = name_found ts f k l p w os s script h
one_token (word l p w) ts f (behind_name k name) os s script h = in_found ts f k name l p w os s script h
one_token (word l p w) ts f (in_words k name ws) os s script h = words_found ts f k name ws l p w os s script h
one_token (word l p w) ts f (before_do k name ws) os s script h = do_found ts f k name ws l p w os s script h
one_token (word l p w) ts f (behind_done k) os s script h = never h
one_token (semicolon l) ts f at_command os s script h = never h
one_token (semicolon l) ts f (in_command b) os s script h = command_ended b os s (semicolon l ∷ ts) script tt (λ q. parse_on q ts) h (λ c k. inr (record { next = ts; is = by_semicolon here; goes = f at_command os (with_last s (simple b.line c finish)) script k }))
one_token (semicolon l) ts f (behind_if k) os s script h = never h
one_token (semicolon l) ts f (in_condition b) os s script h = condition_ended b os s (semicolon l) ts script tt (λ next g. by_semicolon g) f h
one_token (semicolon l) ts f (before_then k c) os s script h = never h
one_token (semicolon l) ts f (behind_fi k) os s script h = inr (record { next = ts; is = by_semicolon here; goes = f at_command os s script h })
one_token (semicolon l) ts f (behind_for k) os s script h = never h
one_token (semicolon l) ts f (behind_name k name) os s script h = never h
one_token (semicolon l) ts f (in_words k name ws) os s script h = words_over ts f k name ws (semicolon l) os s script (λ next g. by_semicolon g) h
one_token (semicolon l) ts f (before_do k name ws) os s script h = never h
one_token (semicolon l) ts f (behind_done k) os s script h = inr (record { next = ts; is = by_semicolon here; goes = f at_command os s script h })
one_token (newline l) ts f at_command os s script h = newline_rest os s l ts script (f at_command os s script h)
one_token (newline l) ts f (in_command b) os s script h = command_ended b os s (newline l ∷ ts) script tt (λ q. parse_on q ts) h (λ c k. inr (record { next = ts; is = by_newline here; goes = f at_command os (with_last s (simple b.line c finish)) script k }))
one_token (newline l) ts f (behind_if k) os s script h = never h
one_token (newline l) ts f (in_condition b) os s script h = condition_ended b os s (newline l) ts script tt (λ next g. by_newline g) f h
one_token (newline l) ts f (before_then k c) os s script h =
    let g = f (before_then k c) os s script h in
    record { next = g.next; skips = past g.skips; goes = g.goes }
one_token (newline l) ts f (behind_fi k) os s script h = inr (record { next = ts; is = by_newline here; goes = f at_command os s script h })
one_token (newline l) ts f (behind_for k) os s script h = never h
one_token (newline l) ts f (behind_name k name) os s script h = never h
one_token (newline l) ts f (in_words k name ws) os s script h = words_over ts f k name ws (newline l) os s script (λ next g. by_newline g) h
one_token (newline l) ts f (before_do k name ws) os s script h =
    let g = f (before_do k name ws) os s script h in
    record { next = g.next; skips = past g.skips; goes = g.goes }
one_token (newline l) ts f (behind_done k) os s script h = inr (record { next = ts; is = by_newline here; goes = f at_command os s script h })
one_token (redirect l a) ts f at_command os s script h = never h
one_token (redirect l a) ts f (in_command b) os s script h = command_goes b (with_redirect b a) os s ts (redirect l a ∷ ts) script (redirect_continues b.line b.name b.items b.is_ill b.awaits b.redirection l a ts) (f (in_command (with_redirect b a)) os s script h)
one_token (redirect l a) ts f (behind_if k) os s script h = never h
one_token (redirect l a) ts f (in_condition b) os s script h = condition_goes b (with_redirect b a) os s ts (redirect l a ∷ ts) script (redirect_continues b.line b.name b.items b.is_ill b.awaits b.redirection l a ts) (f (in_condition (with_redirect b a)) os s script h)
one_token (redirect l a) ts f (before_then k c) os s script h = never h
one_token (redirect l a) ts f (behind_fi k) os s script h = never h
one_token (redirect l a) ts f (behind_for k) os s script h = never h
one_token (redirect l a) ts f (behind_name k name) os s script h = never h
one_token (redirect l a) ts f (in_words k name ws) os s script h = never h
one_token (redirect l a) ts f (before_do k name ws) os s script h = never h
one_token (redirect l a) ts f (behind_done k) os s script h = never h

found : (ts : List Token) → Found ts
found [] = at_once
found (t ∷ ts) = one_token t ts (found ts)

pub found_programs : (ts : List Token) (script : Script) → statements_of ts ≡ Ok script → IsProgram ts script
unfolding statements_of
found_programs ts script h =
    let g = found ts at_command [] finish script h in
    subst (λ (x : Script). IsProgram ts x) g.all g.is
