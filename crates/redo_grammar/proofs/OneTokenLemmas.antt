-- What tokens do to the reading of statements, by the place where they stand.
use Rattle.std.proofs.Common.{◌≡◌, ℕ, ◌<◌, Bool, true, false, List, [], ◌∷◌, ◌++◌, Option, Some, None, refl, sym, ap}
use Rattle.std.proofs.Common.{◌∙◌, append_assoc, map}
use Rattle.std.specs.Prelude.{codes, length}
use Rattle.std.proofs.lemmas.List.{append-nil}
use Rattle.std.proofs.lemmas.Bool.{lt-ltb}
use Rattle.redo_script.specs.Syntax.{byte, Word, Redirection, Command, Condition, Script, finish, simple}
use Rattle.redo_script.specs.Tokens.{Token, word, semicolon, newline, redirect}
use Rattle.redo_script.specs.Forms.{Item, spells, is_named, command_form, condition_form, name_of, is_bound}
use Rattle.redo_script.specs.Forms.{knows}
use Rattle.redo_grammar.specs.Grammar.{AtSeparator, IsItems, none_left, one_item, redirected, SkipsNewlines, here}
use Rattle.redo_grammar.specs.Grammar.{past, Separates, by_semicolon, by_newline, IsKeyword, keyword, TakesWords}
use Rattle.redo_grammar.specs.Grammar.{no_word, one_word}
use Rattle.redo_script.specs.Parsing.{PartialCommand, at_command, in_command, in_condition, before_then, behind_fi}
use Rattle.redo_script.specs.Parsing.{behind_name, in_words, before_do, behind_done, Phase, Open, open_if, open_loop}
use Rattle.redo_script.specs.Parsing.{Parser, ifs_in, names_in, is_empty, with_last, is_one_of, commands, closed}
use Rattle.redo_script.specs.Parsing.{parse_on, conditions}
use Rattle.redo_script.proofs.NameLemmas.{item, spells_is}
use Rattle.redo_grammar.proofs.CommandLemmas.{not_named}

abbrev pub parts : ℕ → Item → List Item → Option Redirection → PartialCommand
parts l n items r = record { line = l; name = n; items = items; redirection = r; is_ill = false; awaits = None }

abbrev pub state_at : Phase → List Open → Script → Parser
state_at phase os s = record { phase = phase; opens = os; so_far = s }

abbrev pub in_place : List Open → Script → Parser
in_place os s = record { phase = at_command; opens = os; so_far = s }

abbrev pub within : PartialCommand → List Open → Script → Parser
within b os s = record { phase = in_command b; opens = os; so_far = s }

abbrev pub within_condition : PartialCommand → List Open → Script → Parser
within_condition b os s = record { phase = in_condition b; opens = os; so_far = s }

abbrev pub awaiting_then : ℕ → Condition → List Open → Script → Parser
awaiting_then l c os s = record { phase = before_then l c; opens = os; so_far = s }

-- behind a command
abbrev pub behind : ℕ → List Open → Script → Parser
behind l os s = record { phase = behind_fi l; opens = os; so_far = s }

pub items_at : {ts rest : List Token} {items : List Item} {r : Option Redirection} → IsItems ts items r rest → AtSeparator rest
items_at (none_left a) = a
items_at (one_item g) = items_at g
items_at (redirected a) = a

pub items_read : {ts rest : List Token} {items : List Item} {r : Option Redirection} → IsItems ts items r rest → (l : ℕ) (n : Item) (is : List Item) (os : List Open) (s : Script) → parse_on (within (parts l n is None) os s) ts ≡ parse_on (within (parts l n (is ++ items) r) os s) rest
unfolding parse_on
items_read (none_left {ts} a) l n is os s = ap (λ x. parse_on (within (parts l n x None) os s) ts) (sym (append-nil is))
items_read (one_item {l = k} {p} {w} {ts} {rest} {items} {r} g) l n is os s = items_read g l n (is ++ item p w ∷ []) os s ∙ ap (λ x. parse_on (within (parts l n x r) os s) rest) (append_assoc is (item p w ∷ []) items)
items_read (redirected {l = k} {k = j} {a} {p} {w} {ts} h) l n is os s = ap (λ x. parse_on (within (parts l n x (Some (record { appends = a; word = w }))) os s) ts) (sym (append-nil is))

pub condition_items_read : {ts rest : List Token} {items : List Item} {r : Option Redirection} → IsItems ts items r rest → (l : ℕ) (n : Item) (is : List Item) (os : List Open) (s : Script) → parse_on (within_condition (parts l n is None) os s) ts ≡ parse_on (within_condition (parts l n (is ++ items) r) os s) rest
unfolding parse_on
condition_items_read (none_left {ts} a) l n is os s = ap (λ x. parse_on (within_condition (parts l n x None) os s) ts) (sym (append-nil is))
condition_items_read (one_item {l = k} {p} {w} {ts} {rest} {items} {r} g) l n is os s = condition_items_read g l n (is ++ item p w ∷ []) os s ∙ ap (λ x. parse_on (within_condition (parts l n x r) os s) rest) (append_assoc is (item p w ∷ []) items)
condition_items_read (redirected {l = k} {k = j} {a} {p} {w} {ts} h) l n is os s = ap (λ x. parse_on (within_condition (parts l n x (Some (record { appends = a; word = w }))) os s) ts) (sym (append-nil is))

pub command_ends : (rest : List Token) → AtSeparator rest → (l : ℕ) (n : Item) (items : List Item) (r : Option Redirection) (c : Command) (os : List Open) (s : Script) → command_form n items r ≡ Some c → knows (names_in os) items r ≡ true → parse_on (within (parts l n items r) os s) rest ≡ parse_on (behind 0 os (with_last s (simple l c finish))) rest
unfolding parse_on
command_ends [] a l n items r c os s e known = rw (e, known) refl
command_ends (semicolon k ∷ ts) a l n items r c os s e known = rw (e, known) refl
command_ends (newline k ∷ ts) a l n items r c os s e known = rw (e, known) refl
command_ends (word k p w ∷ ts) a l n items r c os s e known = absurd a
command_ends (redirect k p ∷ ts) a l n items r c os s e known = absurd a

pub separates_at : {ts rest : List Token} → Separates ts rest → AtSeparator ts
separates_at (by_semicolon g) = tt
separates_at (by_newline g) = tt

pub newlines_read : {ts rest : List Token} → SkipsNewlines ts rest → (os : List Open) (s : Script) → parse_on (in_place os s) ts ≡ parse_on (in_place os s) rest
unfolding parse_on
newlines_read here os s = refl
newlines_read (past g) os s = newlines_read g os s

pub separators_read : {ts rest : List Token} → Separates ts rest → (l : ℕ) (os : List Open) (s : Script) → parse_on (behind l os s) ts ≡ parse_on (in_place os s) rest
unfolding parse_on
separators_read (by_semicolon g) l os s = newlines_read g os s
separators_read (by_newline g) l os s = newlines_read g os s

then_newlines : {ts rest : List Token} → SkipsNewlines ts rest → (l : ℕ) (c : Condition) (os : List Open) (s : Script) → parse_on (awaiting_then l c os s) ts ≡ parse_on (awaiting_then l c os s) rest
unfolding parse_on
then_newlines here l c os s = refl
then_newlines (past g) l c os s = then_newlines g l c os s

pub condition_ends : {ts rest : List Token} → Separates ts rest → (l : ℕ) (n : Item) (items : List Item) (c : Condition) (os : List Open) (s : Script) → condition_form n items ≡ Some c → knows (names_in os) items None ≡ true → parse_on (within_condition (parts l n items None) os s) ts ≡ parse_on (awaiting_then l c os s) rest
unfolding parse_on
condition_ends (by_semicolon {ts} {rest} g) l n items c os s e known = rw (e, known) (then_newlines g l c os s)
condition_ends (by_newline {ts} {rest} g) l n items c os s e known = rw (e, known) (then_newlines g l c os s)

-- behind done
abbrev pub past_done : ℕ → List Open → Script → Parser
past_done l os s = state_at (behind_done l) os s

pub same_behind : (rest : List Token) → AtSeparator rest → (l k : ℕ) (os : List Open) (s : Script) → parse_on (past_done l os s) rest ≡ parse_on (behind k os s) rest
unfolding parse_on
same_behind [] a l k os s = refl
same_behind (semicolon j ∷ ts) a l k os s = refl
same_behind (newline j ∷ ts) a l k os s = refl
same_behind (word j p w ∷ ts) a l k os s = absurd a
same_behind (redirect j p ∷ ts) a l k os s = absurd a

pub any_line : (rest : List Token) → AtSeparator rest → (l k : ℕ) (os : List Open) (s : Script) → parse_on (behind l os s) rest ≡ parse_on (behind k os s) rest
any_line rest a l k os s = sym (same_behind rest a 0 l os s) ∙ same_behind rest a 0 k os s

pub fi_read : {ts rest : List Token} → IsKeyword (codes "fi") ts rest → (l : ℕ) (c : Condition) (first : Option Script) (before : Script) (os : List Open) (s : Script) → is_empty s ≡ false → AtSeparator rest → parse_on (in_place (open_if l c first before ∷ os) s) ts ≡ parse_on (behind 0 os (closed (open_if l c first before) s)) rest
unfolding parse_on
fi_read (keyword {l = k} {w} {ts} e) l c first before os s full a = rw (spells_is w (codes "fi") e, full) (any_line ts a k 0 os (closed (open_if l c first before) s))

pub done_read : {ts rest : List Token} → IsKeyword (codes "done") ts rest → (l : ℕ) (name : List ℕ) (ws : List Word) (before : Script) (os : List Open) (s : Script) → is_empty s ≡ false → AtSeparator rest → parse_on (in_place (open_loop l name ws before ∷ os) s) ts ≡ parse_on (behind 0 os (closed (open_loop l name ws before) s)) rest
unfolding parse_on
done_read (keyword {l = k} {w} {ts} e) l name ws before os s full a = rw (spells_is w (codes "done") e, full) (same_behind ts a k 0 os (closed (open_loop l name ws before) s))

-- a loop up to its do
pub for_begins : (l k : ℕ) (v w : Word) (p : Bool) (name : List ℕ) (ts : List Token) (os : List Open) (s : Script) → spells v (codes "for") ≡ true → length (names_in os) < 2 → name_of (item p w) ≡ Some name → is_bound (names_in os) name ≡ false → parse_on (in_place os s) (word l true v ∷ word k p w ∷ ts) ≡ parse_on (state_at (behind_name l name) os s) ts
unfolding parse_on
for_begins l k v w p name ts os s e lt is_name new = rw (spells_is v (codes "for") e, lt-ltb (length (names_in os)) 2 lt, is_name, new) refl

pub words_read : {names : List (List ℕ)} {ts rest : List Token} {ws : List Word} → TakesWords names ts ws rest → (l : ℕ) (name : List ℕ) (so_far : List Word) (os : List Open) (s : Script) → names_in os ≡ names → parse_on (state_at (in_words l name so_far) os s) ts ≡ parse_on (state_at (in_words l name (so_far ++ ws)) os s) rest
unfolding parse_on
words_read (no_word {ts}) l name so_far os s e = ap (λ x. parse_on (state_at (in_words l name x) os s) ts) (sym (append-nil so_far))
words_read (one_word {l = k} {p} {w} {ts} {rest} {ws} known g) l name so_far os s e =
    rw (e, known) (words_read g l name (so_far ++ w ∷ []) os s e ∙ ap (λ x. parse_on (state_at (in_words l name x) os s) rest) (append_assoc so_far (w ∷ []) ws))

do_newlines : {ts rest : List Token} → SkipsNewlines ts rest → (l : ℕ) (name : List ℕ) (ws : List Word) (os : List Open) (s : Script) → parse_on (state_at (before_do l name ws) os s) ts ≡ parse_on (state_at (before_do l name ws) os s) rest
unfolding parse_on
do_newlines here l name ws os s = refl
do_newlines (past g) l name ws os s = do_newlines g l name ws os s

pub words_end : {ts rest : List Token} → Separates ts rest → (l : ℕ) (name : List ℕ) (ws : List Word) (os : List Open) (s : Script) → parse_on (state_at (in_words l name ws) os s) ts ≡ parse_on (state_at (before_do l name ws) os s) rest
unfolding parse_on
words_end (by_semicolon g) l name ws os s = do_newlines g l name ws os s
words_end (by_newline g) l name ws os s = do_newlines g l name ws os s

pub else_read : {ts rest : List Token} → IsKeyword (codes "else") ts rest → (l : ℕ) (c : Condition) (before : Script) (os : List Open) (s : Script) → is_empty s ≡ false → parse_on (in_place (open_if l c None before ∷ os) s) ts ≡ parse_on (in_place (open_if l c (Some s) before ∷ os) finish) rest
unfolding parse_on
else_read (keyword {w} {ts} e) l c before os s full = rw (spells_is w (codes "else") e, full) refl

pub command_begins : (l : ℕ) (p : Bool) (w : Word) (ts : List Token) (os : List Open) (s : Script) → is_one_of commands (item p w) ≡ true → parse_on (in_place os s) (word l p w ∷ ts) ≡ parse_on (within (parts l (item p w) [] None) os s) ts
unfolding parse_on
command_begins l p w ts os s e =
    let no : (name : List ℕ) → is_one_of commands (item true (map byte name)) ≡ false → is_named name (item p w) ≡ false = λ name out. not_named commands name p w out e in
    rw (no (codes "if") refl, no (codes "then") refl, no (codes "else") refl, no (codes "fi") refl, no (codes "for") refl, no (codes "do") refl, no (codes "done") refl, e) refl

pub if_begins : (l k : ℕ) (v w : Word) (p : Bool) (ts : List Token) (os : List Open) (s : Script) → spells v (codes "if") ≡ true → ifs_in os < 16 → is_one_of conditions (item p w) ≡ true → parse_on (in_place os s) (word l true v ∷ word k p w ∷ ts) ≡ parse_on (within_condition (parts l (item p w) [] None) os s) ts
unfolding parse_on
if_begins l k v w p ts os s e lt h = rw (e, lt-ltb (ifs_in os) 16 lt, h) refl
