-- What is a program by the grammar is read, with its tree.
use Rattle.std.proofs.Common.{◌≡◌, ℕ, ◌<◌, true, false, List, [], ◌∷◌, length, Some, None, Ok, refl, sym, ap, ◌∙◌}
use Rattle.std.proofs.Common.{subst}
use Rattle.redo_script.specs.Syntax.{Word, Condition, Script, finish, simple, choice, loop}
use Rattle.redo_script.specs.Tokens.{Token}
use Rattle.redo_script.specs.Forms.{is_bound, knows}
use Rattle.redo_grammar.specs.Grammar.{AtSeparator, keyword, OpensIf, opens_if, ListsWords, lists_words, OpensLoop, opens_loop}
use Rattle.redo_grammar.specs.Grammar.{IsCommand, a_command, if_then, if_else, for_done, IsBlock, after_newlines}
use Rattle.redo_grammar.specs.Grammar.{IsList, last, more, IsWhole, empty, unended, continues, IsProgram}
use Rattle.redo_script.specs.Parsing.{Nest, nest_in, in_if, in_loop, in_words, Open, open_if, open_loop, openings}
use Rattle.redo_script.specs.Parsing.{ifs_in, names_in, is_empty, with_last, parse_on, statements_of}
use Rattle.redo_script.proofs.NameLemmas.{item}
use Rattle.redo_grammar.proofs.CommandLemmas.{command_named, condition_named}
use Rattle.redo_grammar.proofs.OneTokenLemmas.{state_at, in_place, behind, items_read, condition_items_read}
use Rattle.redo_grammar.proofs.OneTokenLemmas.{command_ends, separates_at, newlines_read, separators_read}
use Rattle.redo_grammar.proofs.OneTokenLemmas.{condition_ends, fi_read, else_read, command_begins}
use Rattle.redo_grammar.proofs.OneTokenLemmas.{if_begins, for_begins, words_read, words_end}
use Rattle.redo_grammar.proofs.OneTokenLemmas.{done_read}

pub with_finish : (s : Script) → with_last s finish ≡ s
with_finish finish = refl
with_finish (simple l c rest) = ap (λ x. simple l c x) (with_finish rest)
with_finish (choice l c a b rest) = ap (λ x. choice l c a b x) (with_finish rest)
with_finish (loop l n ws b rest) = ap (λ x. loop l n ws b x) (with_finish rest)

pub with_both : (s t u : Script) → with_last (with_last s t) u ≡ with_last s (with_last t u)
with_both finish t u = refl
with_both (simple l c rest) t u = ap (λ x. simple l c x) (with_both rest t u)
with_both (choice l c a b rest) t u = ap (λ x. choice l c a b x) (with_both rest t u)
with_both (loop l n ws b rest) t u = ap (λ x. loop l n ws b x) (with_both rest t u)

pub stays_full : (s t : Script) → is_empty s ≡ false → is_empty (with_last s t) ≡ false
stays_full finish t e = absurd (Rattle.std.proofs.lemmas.Bool.both_ways true e refl)
stays_full (simple l c rest) t e = refl
stays_full (choice l c a b rest) t e = refl
stays_full (loop l n ws b rest) t e = refl

-- a command is read as one statement
pub record ReadsOne (n : Nest) (ts rest : List Token) (after whole : Script) : Type 0 where
  pub one : Script
  pub makes : with_last one after ≡ whole
  pub full : is_empty one ≡ false
  pub reads : (os : List Open) (s : Script) → nest_in (openings os) ≡ n → AtSeparator rest → parse_on (in_place os s) ts ≡ parse_on (behind 0 os (with_last s one)) rest

pub record ReadsList (n : Nest) (ts : List Token) (script : Script) (rest : List Token) : Type 0 where
  pub full : is_empty script ≡ false
  pub reads : (os : List Open) (s : Script) → nest_in (openings os) ≡ n → parse_on (in_place os s) ts ≡ parse_on (in_place os (with_last s script)) rest

-- an if up to its then
pub if_read : {names : List (List ℕ)} {l : ℕ} {c : Condition} {ts rest : List Token} → OpensIf names l c ts rest → (os : List Open) (s : Script) → names_in os ≡ names → ifs_in os < 16 → parse_on (in_place os s) ts ≡ parse_on (in_place (open_if l c None s ∷ os) finish) rest
unfolding parse_on
if_read (opens_if {l} {k} {p} {v} {w} {t1 = others} {items} {c} e g h known sep (keyword is_then)) os s same lt =
    if_begins l k v w p others os s e lt (condition_named (item p w) items c h)
    ∙ (condition_items_read g l (item p w) [] os s
    ∙ (condition_ends sep l (item p w) items c os s h (ap (λ x. knows x items None) same ∙ known)
    ∙ rw is_then refl))

-- a loop's words
pub list_read_on : {names : List (List ℕ)} {l : ℕ} {name : List ℕ} {ws : List Word} {ts rest : List Token} → ListsWords names l name ws ts rest → (os : List Open) (s : Script) → names_in os ≡ names → length (names_in os) < 2 → parse_on (in_place os s) ts ≡ parse_on (state_at (in_words l name ws) os s) rest
unfolding parse_on
list_read_on (lists_words {l} {k} {p} {v} {w} {name} {t1} {ws} e is_name new (keyword is_in) g) os s same lt =
    for_begins l k v w p name t1 os s e lt is_name (ap (λ x. is_bound x name) same ∙ new)
    ∙ rw is_in (words_read g l name [] os s same)

-- a loop up to its do
pub loop_read : {names : List (List ℕ)} {l : ℕ} {name : List ℕ} {ws : List Word} {ts rest : List Token} → OpensLoop names l name ws ts rest → (os : List Open) (s : Script) → names_in os ≡ names → length (names_in os) < 2 → parse_on (in_place os s) ts ≡ parse_on (in_place (open_loop l name ws s ∷ os) finish) rest
unfolding parse_on
loop_read (opens_loop {l} {name} {ws} g sep (keyword is_do)) os s same lt =
    list_read_on g os s same lt ∙ (words_end sep l name ws os s ∙ rw is_do refl)

list_ends : {n : Nest} {ts mid rest : List Token} {whole : Script} → ReadsOne n ts mid finish whole → Rattle.redo_grammar.specs.Grammar.Separates mid rest → ReadsList n ts whole rest
list_ends {n} {ts} {mid} {rest} {whole} c g =
    let same : c.one ≡ whole = sym (with_finish c.one) ∙ c.makes in
    record {
      full = subst (λ (x : Script). is_empty x ≡ false) same c.full;
      reads = λ os s e. c.reads os s e (separates_at g) ∙ (separators_read g 0 os (with_last s c.one) ∙ ap (λ x. parse_on (in_place os (with_last s x)) rest) same);
    }

list_more : {n : Nest} {ts mid next rest : List Token} {whole script : Script} → ReadsOne n ts mid script whole → Rattle.redo_grammar.specs.Grammar.Separates mid next → ReadsList n next script rest → ReadsList n ts whole rest
list_more {n} {ts} {mid} {next} {rest} {whole} {script} c g k = record {
  full = subst (λ (x : Script). is_empty x ≡ false) c.makes (stays_full c.one script c.full);
  reads = λ os s e. c.reads os s e (separates_at g) ∙ (separators_read g 0 os (with_last s c.one) ∙ (k.reads os (with_last s c.one) e ∙ ap (λ x. parse_on (in_place os x) rest) (with_both s c.one script ∙ ap (λ x. with_last s x) c.makes)));
}

mutual
  pub command_read : {n : Nest} {ts rest : List Token} {after whole : Script} → IsCommand n ts rest after whole → ReadsOne n ts rest after whole
  command_read (a_command {n} {l} {p} {w} {ts} {rest} {items} {r} {c} {after} g e known) = record {
    one = simple l c finish;
    makes = refl;
    full = refl;
    reads = λ os s d a. command_begins l p w ts os s (command_named (item p w) items r c e) ∙ (items_read g l (item p w) [] os s ∙ command_ends rest a l (item p w) items r c os s e (ap (λ (x : Nest). knows x.names items r) d ∙ known));
  }
  command_read (if_then {n} {l} {c} {t1} {t2} {rest} {first} {after} lt opens block is_fi) =
      let b : ReadsList (in_if n) t1 first t2 = block_read block in
      record {
        one = choice l c first finish finish;
        makes = refl;
        full = refl;
        reads = λ os s d a.
            if_read opens os s (ap (λ (x : Nest). x.names) d) (subst (λ (x : Nest). x.ifs < 16) (sym d) lt)
            ∙ (b.reads (open_if l c None s ∷ os) finish (ap in_if d)
            ∙ fi_read is_fi l c None s os first b.full a);
      }
  command_read (if_else {n} {l} {c} {t1} {t2} {t3} {t4} {rest} {first} {second} {after} lt opens block is_else other is_fi) =
      let b : ReadsList (in_if n) t1 first t2 = block_read block in
      let b' : ReadsList (in_if n) t3 second t4 = block_read other in
      record {
        one = choice l c first second finish;
        makes = refl;
        full = refl;
        reads = λ os s d a.
            if_read opens os s (ap (λ (x : Nest). x.names) d) (subst (λ (x : Nest). x.ifs < 16) (sym d) lt)
            ∙ (b.reads (open_if l c None s ∷ os) finish (ap in_if d)
            ∙ (else_read is_else l c s os first b.full
            ∙ (b'.reads (open_if l c (Some first) s ∷ os) finish (ap in_if d)
            ∙ fi_read is_fi l c (Some first) s os second b'.full a)));
      }
  command_read (for_done {n} {l} {name} {ws} {t1} {t2} {rest} {body} {after} lt opens block is_done) =
      let b : ReadsList (in_loop name n) t1 body t2 = block_read block in
      record {
        one = loop l name ws body finish;
        makes = refl;
        full = refl;
        reads = λ os s d a.
            loop_read opens os s (ap (λ (x : Nest). x.names) d) (subst (λ (x : Nest). length x.names < 2) (sym d) lt)
            ∙ (b.reads (open_loop l name ws s ∷ os) finish (ap (in_loop name) d)
            ∙ done_read is_done l name ws s os body b.full a);
      }

  pub block_read : {n : Nest} {ts rest : List Token} {script : Script} → IsBlock n ts script rest → ReadsList n ts script rest
  block_read (after_newlines {n} {ts} {rest} {more} {script} g k) =
      let b : ReadsList n rest script more = list_read k in
      record { full = b.full; reads = λ os s e. newlines_read g os s ∙ b.reads os s e }

  list_read : {n : Nest} {ts rest : List Token} {script : Script} → IsList n ts script rest → ReadsList n ts script rest
  list_read (last c g) = list_ends (command_read c) g
  list_read (more c g k) = list_more (command_read c) g (list_read k)

whole_read : {ts : List Token} {script : Script} → IsWhole ts script → (s : Script) → parse_on (in_place [] s) ts ≡ Ok (with_last s script)
unfolding parse_on
whole_read empty s = ap (λ x. Ok x) (sym (with_finish s))
whole_read (unended {ts} {whole} c) s =
    let g = command_read c in
    g.reads [] s refl tt ∙ ap (λ x. Ok (with_last s x)) (sym (with_finish g.one) ∙ g.makes)
whole_read (continues {ts} {mid} {rest} {whole} {script} c sep k) s =
    let g = command_read c in
    g.reads [] s refl (separates_at sep) ∙ (separators_read sep 0 [] (with_last s g.one) ∙ (whole_read k (with_last s g.one) ∙ ap (λ x. Ok x) (with_both s g.one script ∙ ap (λ x. with_last s x) g.makes)))

pub only_programs : (ts : List Token) (script : Script) → IsProgram ts script → statements_of ts ≡ Ok script
unfolding statements_of
only_programs ts script g = newlines_read g.1 [] finish ∙ whole_read g.2 finish
