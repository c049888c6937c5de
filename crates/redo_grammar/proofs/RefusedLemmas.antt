-- Tokens that are no program have the fault of the table.
use Rattle.std.proofs.Common.{◌≡◌, ℕ, ◌<◌, Bool, true, false, List, [], ◌∷◌, ◌++◌, length, Option, Some, None, Result}
use Rattle.std.proofs.Common.{Ok, Err, refl, sym, ◌∙◌, subst, inl, inr}
use Rattle.std.specs.Prelude.{codes, nat_lt}
use Rattle.std.specs.Option.{is_some}
use Rattle.std.proofs.lemmas.Bool.{cases_Bool, both_ways, ltb-true, ltb-false}
use Rattle.redo_script.specs.declared.fault.ScriptFault.{ScriptFault}
use Rattle.redo_script.specs.Faults.{◌>>=◌, fault_at}
use Rattle.redo_script.specs.Syntax.{Word, Command, Condition, Script, finish, simple, choice, loop}
use Rattle.redo_script.specs.Tokens.{Token, word, semicolon, newline, redirect}
use Rattle.redo_script.specs.Forms.{Item, spells, condition_form, name_of, is_bound, knows, knows_word}
use Rattle.redo_grammar.specs.Grammar.{AtSeparator, IsItems, SkipsNewlines, here, past, Separates, by_semicolon}
use Rattle.redo_grammar.specs.Grammar.{by_newline, IsKeyword, keyword, TakesWords, no_word, one_word, ListsWords}
use Rattle.redo_grammar.specs.Grammar.{lists_words, opens_loop, opens_if, IsCommand, a_command, if_then, if_else}
use Rattle.redo_grammar.specs.Grammar.{for_done, IsBlock, after_newlines, IsList, last, more}
use Rattle.redo_script.specs.Parsing.{Opening, an_if, a_loop, Nest, nest_in, in_if, PartialCommand, Phase, at_command}
use Rattle.redo_script.specs.Parsing.{in_command, behind_if, in_condition, before_then, behind_fi, behind_for}
use Rattle.redo_script.specs.Parsing.{behind_name, in_words, before_do, behind_done, Open, open_if, open_loop}
use Rattle.redo_script.specs.Parsing.{openings, ifs_in, names_in, is_empty, with_last, is_one_of, commands}
use Rattle.redo_script.specs.Parsing.{words_outside, loop_words, if_words, begin_command, closed, with_word}
use Rattle.redo_script.specs.Parsing.{with_redirect, parse_on, statements_of, with_command, with_condition}
use Rattle.redo_script.specs.Parsing.{ended_command, ended_condition, unless_open, conditions}
use Rattle.redo_grammar.specs.Refusals.{a_separator, IsPart, bare, full, IsOpened, to_then, to_else, to_do, IsPlace}
use Rattle.redo_grammar.specs.Refusals.{outside, inside, in_line, IsNoThen, IsNoDo, line_of, HasWords, some_words}
use Rattle.redo_grammar.specs.Refusals.{a_condition, IsWrong, a_redirection, too_deep, no_condition, loop_behind_if}
use Rattle.redo_grammar.specs.Refusals.{no_test, unbound_test, no_then, loop_before_then, ends_before_then}
use Rattle.redo_grammar.specs.Refusals.{then_alone, no_else_here, no_fi_here, loop_behind_fi, ends_inside}
use Rattle.redo_grammar.specs.Refusals.{ends_behind, loop_too_deep, no_name, ends_behind_for, no_in, redirected_words}
use Rattle.redo_grammar.specs.Refusals.{unbound_word, no_do, if_before_do, ends_before_do, do_alone, no_done_here}
use Rattle.redo_grammar.specs.Refusals.{left_out, unknown, no_form, unbound, FaultStands}
use Rattle.redo_script.proofs.BitLemmas.{never}
use Rattle.redo_script.proofs.NameLemmas.{item, spells_is}
use Rattle.redo_grammar.proofs.CommandLemmas.{none_some}
use Rattle.redo_grammar.proofs.OneTokenLemmas.{in_place, command_begins}
use Rattle.redo_grammar.proofs.PartialCommandLemmas.{IsPartial, begins, goes_word, goes_redirect, ends_well, EndsTest}
use Rattle.redo_grammar.proofs.PartialCommandLemmas.{ends_test, ends_ill, test_ill}
use Rattle.redo_grammar.proofs.FoundScriptLemmas.{IsNoKeyword, word_kinds, skips_both, separates_on, parser}
use Rattle.redo_script.specs.declared.fault.Reason.TheVariants as reasons
use Rattle.redo_grammar.specs.Refusals as refusals

-- A command, and what follows it

retarget : {d : Nest} {ts rest : List Token} {a b : Script} → IsCommand d ts rest a b → (after : Script) → (whole : Script) × IsCommand d ts rest after whole
retarget (a_command g e k) after = (_, a_command g e k)
retarget (if_then lt o k f) after = (_, if_then lt o k f)
retarget (if_else lt o k e j f) after = (_, if_else lt o k e j f)
retarget (for_done lt o k f) after = (_, for_done lt o k f)

list_more : {d : Nest} {ts mid behind rest : List Token} {s a b : Script} → IsList d ts s mid → IsCommand d mid behind a b → Separates behind rest → (whole : Script) × IsList d ts whole rest
list_more (last c sep) k g =
    let one = retarget k finish in
    let all = retarget c one.0 in
    (all.0, more all.1 sep (last one.1 g))
list_more (more c sep l) k g =
    let others = list_more l k g in
    let all = retarget c others.0 in
    (all.0, more all.1 sep others.1)

list_skips : {d : Nest} {ts mid rest : List Token} {s : Script} → IsList d ts s mid → SkipsNewlines mid rest → IsList d ts s rest
list_skips (last c sep) g = last c (separates_on sep g)
list_skips (more c sep l) g = more c sep (list_skips l g)

part_skips : {d : Nest} {b : Bool} {ts mid rest : List Token} → IsPart d b ts mid → SkipsNewlines mid rest → IsPart d b ts rest
part_skips (bare k) g = bare (skips_both k g)
part_skips (full (after_newlines k l)) g = full (after_newlines k (list_skips l g))

part_more : {d : Nest} {b : Bool} {ts mid behind rest : List Token} {a w : Script} → IsPart d b ts mid → IsCommand d mid behind a w → Separates behind rest → IsPart d false ts rest
part_more (bare k) c g = let one = retarget c finish in full (after_newlines k (last one.1 g))
part_more (full (after_newlines k l)) c g = let all = list_more l c g in full (after_newlines k all.1)

place_skips : {os : List Opening} {b : Bool} {ts mid rest : List Token} → IsPlace os b ts mid → SkipsNewlines mid rest → IsPlace os b ts rest
place_skips (outside p) g = outside (part_skips p g)
place_skips (inside k o p) g = inside k o (part_skips p g)

place_more : {os : List Opening} {b : Bool} {ts mid behind rest : List Token} {a w : Script} → IsPlace os b ts mid → IsCommand (nest_in os) mid behind a w → Separates behind rest → IsPlace os false ts rest
place_more (outside p) c g = outside (part_more p c g)
place_more (inside k o p) c g = inside k o (part_more p c g)

-- fi closes an if, and done a loop, which is a command then
record IsClosed (os : List Opening) (ts rest : List Token) : Type 0 where
  is_bare : Bool
  mid : List Token
  whole : Script
  place : IsPlace os is_bare ts mid
  command : IsCommand (nest_in os) mid rest finish whole

abbrev EndsWith : Opening → List Token → List Token → Type 0
EndsWith (an_if l has_else) ts rest = IsKeyword (codes "fi") ts rest
EndsWith (a_loop l name) ts rest = IsKeyword (codes "done") ts rest

part_block : {d : Nest} {b : Bool} {ts rest : List Token} → IsPart d b ts rest → b ≡ false → (script : Script) × IsBlock d ts script rest
part_block (bare k) e = absurd (cc e)
part_block (full g) e = (_, g)

opened_closed : {os : List Opening} {o : Opening} {a : Bool} {ts t1 t2 t3 rest : List Token} {script : Script} → IsPlace os a ts t1 → IsOpened (nest_in os) o t1 t2 → IsBlock (nest_in (o ∷ os)) t2 script t3 → EndsWith o t3 rest → IsClosed os ts rest
opened_closed k (to_then lt o) g f = record { is_bare = _; mid = _; whole = _; place = k; command = if_then lt o g f }
opened_closed k (to_else lt o h e) g f = record { is_bare = _; mid = _; whole = _; place = k; command = if_else lt o h e g f }
opened_closed k (to_do lt o) g f = record { is_bare = _; mid = _; whole = _; place = k; command = for_done lt o g f }

place_closed : {o : Opening} {os : List Opening} {all : List Opening} {b : Bool} {ts mid rest : List Token} → IsPlace all b ts mid → all ≡ o ∷ os → b ≡ false → EndsWith o mid rest → IsClosed os ts rest
place_closed (outside p) e f k = absurd (cc e)
place_closed {o} {os} {ts} {mid} {rest} (inside {o = o'} {os = os'} g op p) e f k =
    let same : os' ≡ os = cc e in
    let one : o' ≡ o = cc e in
    subst (λ (x : List Opening). IsClosed x ts rest) same (opened_closed g op (part_block p f).1 (subst (λ (x : Opening). EndsWith x mid rest) (sym one) k))

-- else in the first branch of an if
if_second : {d : Nest} {o : Opening} {l : ℕ} {ts t2 t3 rest : List Token} {script : Script} → IsOpened d o ts t2 → o ≡ an_if l false → IsBlock (in_if d) t2 script t3 → IsKeyword (codes "else") t3 rest → IsOpened d (an_if l true) ts rest
if_second {d} {l} {ts} {rest} (to_then {l = k} lt g) e b j =
    let same : k ≡ l = cc e in
    subst (λ (x : ℕ). IsOpened d (an_if x true) ts rest) same (to_else lt g b j)
if_second (to_else lt g h j) e b k = absurd (cc e)
if_second (to_do lt g) e b k = absurd (cc e)

place_second : {l : ℕ} {os all : List Opening} {b : Bool} {ts mid rest : List Token} → IsPlace all b ts mid → all ≡ an_if l false ∷ os → b ≡ false → IsKeyword (codes "else") mid rest → IsPlace (an_if l true ∷ os) true ts rest
place_second (outside p) e f k = absurd (cc e)
place_second {l} {os} {ts} {mid} {rest} (inside {o = o'} {os = os'} {t2} g op p) e f k =
    let same : os' ≡ os = cc e in
    let one : o' ≡ an_if l false = cc e in
    let block = part_block p f in
    let first : IsBlock (in_if (nest_in os')) t2 block.0 mid = subst (λ (x : Opening). IsBlock (nest_in (x ∷ os')) t2 block.0 mid) one block.1 in
    subst (λ (x : List Opening). IsPlace (an_if l true ∷ x) true ts rest) same (inside g (if_second op one first k) (bare here))

-- one more word of a loop
takes_more : {names : List (List ℕ)} {ts mid rest : List Token} {ws : List Word} {k : ℕ} {p : Bool} {w : Word} → TakesWords names ts ws mid → mid ≡ word k p w ∷ rest → knows_word names w ≡ true → TakesWords names ts (ws ++ w ∷ []) rest
takes_more {names} {rest} {w} no_word e known = subst (λ (x : List Token). TakesWords names x (w ∷ []) rest) (sym e) (one_word known no_word)
takes_more (one_word k g) e known = one_word k (takes_more g e known)

lists_more : {names : List (List ℕ)} {l : ℕ} {name : List ℕ} {ts mid rest : List Token} {ws : List Word} {k : ℕ} {p : Bool} {w : Word} → ListsWords names l name ws ts mid → mid ≡ word k p w ∷ rest → knows_word names w ≡ true → ListsWords names l name (ws ++ w ∷ []) ts rest
lists_more (lists_words e n b i g) same known = lists_words e n b i (takes_more g same known)

-- Where reading stands

full_last : (s t : Script) → is_empty t ≡ false → is_empty (with_last s t) ≡ false
full_last finish t e = e
full_last (simple l c rest) t e = refl
full_last (choice l c a b rest) t e = refl
full_last (loop l n ws b rest) t e = refl

closed_full : (o : Open) (s : Script) → is_empty (closed o s) ≡ false
closed_full (open_if l c None before) s = full_last before _ refl
closed_full (open_if l c (Some first) before) s = full_last before _ refl
closed_full (open_loop l name ws before) s = full_last before _ refl

refutes : {b : Bool} → b ≡ true → b ≡ false → ⊥
refutes {b} h e = absurd (both_ways b e h)

module _ (whole : List Token) where
  record BehindIf (l : ℕ) (os : List Open) (s : Script) (ts : List Token) : Type 0 where
    w : Word
    is_if : spells w (codes "if") ≡ true
    room : ifs_in os < 16
    place : IsPlace (openings os) (is_empty s) whole (word l true w ∷ ts)

  record InCommand (b : PartialCommand) (os : List Open) (s : Script) (ts : List Token) : Type 0 where
    l : ℕ
    p : Bool
    w : Word
    behind : List Token
    named : is_one_of commands (item p w) ≡ true
    is_partial : IsPartial b behind ts (item p w) l
    place : IsPlace (openings os) (is_empty s) whole (word l p w ∷ behind)

  record InTest (b : PartialCommand) (os : List Open) (s : Script) (ts : List Token) : Type 0 where
    l : ℕ
    k : ℕ
    p : Bool
    v : Word
    w : Word
    behind : List Token
    is_if : spells v (codes "if") ≡ true
    room : ifs_in os < 16
    named : is_one_of conditions (item p w) ≡ true
    is_partial : IsPartial b behind ts (item p w) l
    place : IsPlace (openings os) (is_empty s) whole (word l true v ∷ word k p w ∷ behind)

  record BeforeThen (l : ℕ) (c : Condition) (os : List Open) (s : Script) (ts : List Token) : Type 0 where
    k : ℕ
    p : Bool
    v : Word
    w : Word
    behind : List Token
    mid : List Token
    items : List Item
    is_if : spells v (codes "if") ≡ true
    room : ifs_in os < 16
    place : IsPlace (openings os) (is_empty s) whole (word l true v ∷ word k p w ∷ behind)
    is : IsItems behind items None mid
    form : condition_form (item p w) items ≡ Some c
    known : knows (names_in os) items None ≡ true
    separates : Separates mid ts

  record BehindFi (l : ℕ) (os : List Open) (s : Script) (ts : List Token) : Type 0 where
    k : ℕ
    has_else : Bool
    w : Word
    is_fi : spells w (codes "fi") ≡ true
    inner : IsPlace (an_if k has_else ∷ openings os) false whole (word l true w ∷ ts)
    outer : IsClosed (openings os) whole ts
    is_full : is_empty s ≡ false

  record BehindDone (l : ℕ) (os : List Open) (s : Script) (ts : List Token) : Type 0 where
    k : ℕ
    name : List ℕ
    w : Word
    is_done : spells w (codes "done") ≡ true
    inner : IsPlace (a_loop k name ∷ openings os) false whole (word l true w ∷ ts)
    outer : IsClosed (openings os) whole ts
    is_full : is_empty s ≡ false

  record BehindFor (l : ℕ) (os : List Open) (s : Script) (ts : List Token) : Type 0 where
    w : Word
    is_for : spells w (codes "for") ≡ true
    room : length (names_in os) < 2
    place : IsPlace (openings os) (is_empty s) whole (word l true w ∷ ts)

  record BehindName (l : ℕ) (name : List ℕ) (os : List Open) (s : Script) (ts : List Token) : Type 0 where
    k : ℕ
    p : Bool
    v : Word
    w : Word
    is_for : spells v (codes "for") ≡ true
    room : length (names_in os) < 2
    is_name : name_of (item p w) ≡ Some name
    new : is_bound (names_in os) name ≡ false
    place : IsPlace (openings os) (is_empty s) whole (word l true v ∷ word k p w ∷ ts)

  record InWords (l : ℕ) (name : List ℕ) (ws : List Word) (os : List Open) (s : Script) (ts : List Token) : Type 0 where
    begin : List Token
    room : length (names_in os) < 2
    lists : ListsWords (names_in os) l name ws begin ts
    place : IsPlace (openings os) (is_empty s) whole begin

  record BeforeDo (l : ℕ) (name : List ℕ) (ws : List Word) (os : List Open) (s : Script) (ts : List Token) : Type 0 where
    begin : List Token
    mid : List Token
    room : length (names_in os) < 2
    lists : ListsWords (names_in os) l name ws begin mid
    separates : Separates mid ts
    place : IsPlace (openings os) (is_empty s) whole begin

  abbrev Stands : Phase → List Open → Script → List Token → Type 0
  Stands at_command os s ts = IsPlace (openings os) (is_empty s) whole ts
  Stands (in_command b) os s ts = InCommand b os s ts
  Stands (behind_if l) os s ts = BehindIf l os s ts
  Stands (in_condition b) os s ts = InTest b os s ts
  Stands (before_then l c) os s ts = BeforeThen l c os s ts
  Stands (behind_fi l) os s ts = BehindFi l os s ts
  Stands (behind_for l) os s ts = BehindFor l os s ts
  Stands (behind_name l name) os s ts = BehindName l name os s ts
  Stands (in_words l name ws) os s ts = InWords l name ws os s ts
  Stands (before_do l name ws) os s ts = BeforeDo l name ws os s ts
  Stands (behind_done l) os s ts = BehindDone l os s ts

  abbrev Refuses : List Token → Type 0
  Refuses ts = (phase : Phase) (os : List Open) (s : Script) (fault : ScriptFault) → Stands phase os s ts → parse_on (parser phase os s) ts ≡ Err fault → FaultStands whole fault

  stands : {os : List Opening} {b : Bool} {rest : List Token} (f fault : ScriptFault) → IsPlace os b whole rest → IsWrong os b rest f → (let left : Result Script ScriptFault = Err f in left ≡ Err fault) → FaultStands whole fault
  stands {os} {b} {rest} f fault k w h =
      let e : f ≡ fault = cc h in
      subst (λ (x : ScriptFault). FaultStands whole x) e (record { opens = os; is_bare = b; rest = rest; place = k; is_wrong = w })

  -- the tokens go on in a command's place
  goes_on : (os : List Open) (s : Script) (ts : List Token) (fault : ScriptFault) → Refuses ts → IsPlace (openings os) false whole ts → is_empty s ≡ false → parse_on (in_place os s) ts ≡ Err fault → FaultStands whole fault
  goes_on os s ts fault f g e h = f at_command os s fault (subst (λ (x : Bool). IsPlace (openings os) x whole ts) (sym e) g) h

  -- all that is open must be closed at the end
  left_open : {b : Bool} {mid : List Token} {w : Script} (os : List Open) (s : Script) (fault : ScriptFault) → IsPlace (openings os) b whole mid → IsCommand (nest_in (openings os)) mid [] finish w → unless_open os s ≡ Err fault → FaultStands whole fault
  left_open [] s fault g c h = never (sym h)
  left_open (open_if l c' first before ∷ os) s fault g c h = stands (in_line l reasons.IfShape) fault g (ends_behind c) h
  left_open (open_loop l name ws before ∷ os) s fault g c h = stands (in_line l reasons.Shape) fault g (ends_behind c) h

  command_over : (b : PartialCommand) (os : List Open) (s : Script) (t : Token) (ts : List Token) (fault : ScriptFault) → AtSeparator (t ∷ ts) → Separates (t ∷ ts) ts → Refuses ts → InCommand b os s (t ∷ ts) → (with_command (parser (in_command b) os s) b >>= λ q. parse_on q ts) ≡ Err fault → FaultStands whole fault
  command_over b os s t ts fault a sep f g h = go (ended_command (names_in os) b) refl
    where
      go : (x : Result Command ScriptFault) → ended_command (names_in os) b ≡ x → FaultStands whole fault
      go (Ok c) e =
          let w = ends_well c g.is_partial a e in
          goes_on os (with_last s (simple b.line c finish)) ts fault f (place_more g.place (a_command {after = finish} w.is w.form w.known) sep) (full_last s (simple b.line c finish) refl) (rw e at h)
      go (Err x) e = elim (ends_ill x g.is_partial a e) [
        | inl i ↦ stands (in_line g.l reasons.Shape) fault g.place (no_form g.named i.1) (rw (e, i.0) at h)
        | inr i ↦ stands (in_line g.l reasons.Unsupported) fault g.place (unbound i.1.1.is i.1.1.form i.1.1.known) (rw (e, i.0) at h)
      ]

  command_at_end : (b : PartialCommand) (os : List Open) (s : Script) (fault : ScriptFault) → InCommand b os s [] → (with_command (parser (in_command b) os s) b >>= λ q. unless_open q.opens q.so_far) ≡ Err fault → FaultStands whole fault
  command_at_end b os s fault g h = go (ended_command (names_in os) b) refl
    where
      go : (x : Result Command ScriptFault) → ended_command (names_in os) b ≡ x → FaultStands whole fault
      go (Ok c) e =
          let w = ends_well c g.is_partial tt e in
          left_open os (with_last s (simple b.line c finish)) fault g.place (a_command w.is w.form w.known) (rw e at h)
      go (Err x) e = elim (ends_ill x g.is_partial tt e) [
        | inl i ↦ stands (in_line g.l reasons.Shape) fault g.place (no_form g.named i.1) (rw (e, i.0) at h)
        | inr i ↦ stands (in_line g.l reasons.Unsupported) fault g.place (unbound i.1.1.is i.1.1.form i.1.1.known) (rw (e, i.0) at h)
      ]

  test_over : (b : PartialCommand) (os : List Open) (s : Script) (t : Token) (ts : List Token) (fault : ScriptFault) → AtSeparator (t ∷ ts) → Separates (t ∷ ts) ts → Refuses ts → InTest b os s (t ∷ ts) → (with_condition (parser (in_condition b) os s) b >>= λ q. parse_on q ts) ≡ Err fault → FaultStands whole fault
  test_over b os s t ts fault a sep f g h = go (ended_condition (names_in os) b) refl
    where
      then_next : (c : Condition) → EndsTest (names_in os) true g.behind (t ∷ ts) (item g.p g.w) c → BeforeThen g.l c os s ts
      then_next c w = record {
        k = g.k;
        p = g.p;
        v = g.v;
        w = g.w;
        behind = g.behind;
        mid = t ∷ ts;
        items = w.items;
        is_if = g.is_if;
        room = g.room;
        place = g.place;
        is = w.is;
        form = w.form;
        known = w.known;
        separates = sep;
      }

      go : (x : Result Condition ScriptFault) → ended_condition (names_in os) b ≡ x → FaultStands whole fault
      go (Ok c) e =
          let next = then_next c (ends_test c g.is_partial a e) in
          f (before_then b.line c) os s fault (subst (λ (x : ℕ). BeforeThen x c os s ts) (sym g.is_partial.line_is) next) (rw e at h)
      go (Err x) e = elim (test_ill x g.is_partial a e) [
        | inl i ↦ stands (in_line g.l reasons.Shape) fault g.place (no_test g.is_if g.room g.named i.1) (rw (e, i.0) at h)
        | inr i ↦ stands (in_line g.l reasons.Unsupported) fault g.place (unbound_test g.is_if g.room i.1.1.is i.1.1.form i.1.1.known) (rw (e, i.0) at h)
      ]

  test_at_end : (b : PartialCommand) (os : List Open) (s : Script) (fault : ScriptFault) → InTest b os s [] → (with_condition (parser (in_condition b) os s) b >>= λ q. fault_at {A = Script} b.line reasons.IfShape) ≡ Err fault → FaultStands whole fault
  test_at_end b os s fault g h = go (ended_condition (names_in os) b) refl
    where
      go : (x : Result Condition ScriptFault) → ended_condition (names_in os) b ≡ x → FaultStands whole fault
      go (Ok c) e =
          let w = ends_test c g.is_partial tt e in
          stands (in_line g.l reasons.IfShape) fault g.place (ends_before_then (a_condition g.is_if g.room w.is w.form w.known) (inl refl)) (rw (e, g.is_partial.line_is) at h)
      go (Err x) e = elim (test_ill x g.is_partial tt e) [
        | inl i ↦ stands (in_line g.l reasons.Shape) fault g.place (no_test g.is_if g.room g.named i.1) (rw (e, i.0) at h)
        | inr i ↦ stands (in_line g.l reasons.Unsupported) fault g.place (unbound_test g.is_if g.room i.1.1.is i.1.1.form i.1.1.known) (rw (e, i.0) at h)
      ]

  -- what may come where then must
  not_then : {l : ℕ} {c : Condition} {os : List Open} {s : Script} (t : Token) (ts : List Token) (fault : ScriptFault) → BeforeThen l c os s (t ∷ ts) → IsNoThen t → (let left : Result Script ScriptFault = Err (in_line (line_of t) reasons.IfShape) in left ≡ Err fault) → FaultStands whole fault
  not_then t ts fault g n h = stands (in_line (line_of t) reasons.IfShape) fault g.place (no_then (a_condition g.is_if g.room g.is g.form g.known) g.separates n) h

  then_here : (l k : ℕ) (c : Condition) (os : List Open) (s : Script) (p : Bool) (w : Word) (ts : List Token) (fault : ScriptFault) → Refuses ts → BeforeThen l c os s (word k p w ∷ ts) → parse_on (parser (before_then l c) os s) (word k p w ∷ ts) ≡ Err fault → FaultStands whole fault
  unfolding parse_on
  then_here l k c os s false w ts fault f g h = not_then (word k false w) ts fault g refl h
  then_here l k c os s true w ts fault f g h = elim (cases_Bool (spells w (codes "then"))) [
    | inl e ↦ f at_command (open_if l c None s ∷ os) finish fault (inside g.place (to_then g.room (opens_if g.is_if g.is g.form g.known g.separates (keyword e))) (bare here)) (rw e at h)
    | inr e ↦ elim (cases_Bool (is_one_of loop_words (item true w))) [
      | inl m ↦ stands (in_line k reasons.Shape) fault g.place (loop_before_then (a_condition g.is_if g.room g.is g.form g.known) g.separates m) (rw (e, m) at h)
      | inr m ↦ not_then (word k true w) ts fault g (rw (e, m) refl) (rw (e, m) at h)
    ]
  ]

  condition_here : (l k : ℕ) (os : List Open) (s : Script) (p : Bool) (w : Word) (ts : List Token) (fault : ScriptFault) → Refuses ts → BehindIf l os s (word k p w ∷ ts) → parse_on (parser (behind_if l) os s) (word k p w ∷ ts) ≡ Err fault → FaultStands whole fault
  unfolding parse_on
  condition_here l k os s p w ts fault f g h = elim (cases_Bool (is_one_of conditions (item p w))) [
    | inl e ↦ f (in_condition (begin_command l (item p w))) os s fault (record { l = l; k = k; p = p; v = g.w; w = w; behind = ts; is_if = g.is_if; room = g.room; named = e; is_partial = begins l (item p w) ts; place = g.place }) (rw e at h)
    | inr e ↦ elim (cases_Bool (is_one_of loop_words (item p w))) [
      | inl m ↦ stands (in_line k reasons.Shape) fault g.place (loop_behind_if g.is_if g.room m) (rw (e, m) at h)
      | inr m ↦ stands (in_line l reasons.IfShape) fault g.place (no_condition g.is_if g.room (λ y. refutes y e) (λ y. refutes y m)) (rw (e, m) at h)
    ]
  ]

  past_fi : (l k : ℕ) (os : List Open) (s : Script) (p : Bool) (w : Word) (ts : List Token) (fault : ScriptFault) → BehindFi l os s (word k p w ∷ ts) → parse_on (parser (behind_fi l) os s) (word k p w ∷ ts) ≡ Err fault → FaultStands whole fault
  unfolding parse_on
  past_fi l k os s p w ts fault g h = elim (cases_Bool (is_one_of loop_words (item p w))) [
    | inl m ↦ stands (in_line k reasons.Shape) fault g.inner (loop_behind_fi g.is_fi refl m) (rw m at h)
    | inr m ↦ stands (in_line l reasons.IfShape) fault g.inner (refusals.behind_fi g.is_fi refl (λ x. x) (λ y. refutes y m)) (rw m at h)
  ]

  -- what may come in a loop's head
  name_here : (l k : ℕ) (os : List Open) (s : Script) (p : Bool) (w : Word) (ts : List Token) (fault : ScriptFault) → Refuses ts → BehindFor l os s (word k p w ∷ ts) → parse_on (parser (behind_for l) os s) (word k p w ∷ ts) ≡ Err fault → FaultStands whole fault
  unfolding parse_on
  name_here l k os s p w ts fault f g h = go (name_of (item p w)) refl
    where
      go : (o : Option (List ℕ)) → name_of (item p w) ≡ o → FaultStands whole fault
      go None e = stands (in_line k reasons.Shape) fault g.place (no_name {t = word k p w} g.is_for g.room (λ name e'. none_some (sym e ∙ e'))) (rw e at h)
      go (Some name) e = elim (cases_Bool (is_bound (names_in os) name)) [
        | inl b ↦
            let same : (name' : List ℕ) → name_of (item p w) ≡ Some name' → is_bound (names_in os) name' ≡ true = λ name' e'. (let both : Some name ≡ Some name' = sym e ∙ e' in let n : name ≡ name' = cc in subst (λ (x : List ℕ). is_bound (names_in os) x ≡ true) n b) in
            stands (in_line k reasons.Shape) fault g.place (no_name {t = word k p w} g.is_for g.room same) (rw (e, b) at h)
        | inr new ↦ f (behind_name l name) os s fault (record { k = k; p = p; v = g.w; w = w; is_for = g.is_for; room = g.room; is_name = e; new = new; place = g.place }) (rw (e, new) at h)
      ]

  in_here : (l : ℕ) (name : List ℕ) (k : ℕ) (os : List Open) (s : Script) (p : Bool) (w : Word) (ts : List Token) (fault : ScriptFault) → Refuses ts → BehindName l name os s (word k p w ∷ ts) → parse_on (parser (behind_name l name) os s) (word k p w ∷ ts) ≡ Err fault → FaultStands whole fault
  unfolding parse_on
  in_here l name k os s false w ts fault f g h = stands (in_line l reasons.Shape) fault g.place (no_in g.is_for g.room g.is_name g.new (λ y. cc y)) h
  in_here l name k os s true w ts fault f g h = elim (cases_Bool (spells w (codes "in"))) [
    | inl e ↦ f (in_words l name []) os s fault (record { begin = word l true g.v ∷ word g.k g.p g.w ∷ word k true w ∷ ts; room = g.room; lists = lists_words g.is_for g.is_name g.new (keyword e) no_word; place = g.place }) (rw e at h)
    | inr e ↦ stands (in_line l reasons.Shape) fault g.place (no_in g.is_for g.room g.is_name g.new (λ y. refutes y (rw e refl))) (rw e at h)
  ]

  words_here : (l : ℕ) (name : List ℕ) (ws : List Word) (k : ℕ) (os : List Open) (s : Script) (p : Bool) (w : Word) (ts : List Token) (fault : ScriptFault) → Refuses ts → InWords l name ws os s (word k p w ∷ ts) → parse_on (parser (in_words l name ws) os s) (word k p w ∷ ts) ≡ Err fault → FaultStands whole fault
  unfolding parse_on
  words_here l name ws k os s p w ts fault f g h = elim (cases_Bool (knows_word (names_in os) w)) [
    | inl e ↦ f (in_words l name (ws ++ w ∷ [])) os s fault (record { begin = g.begin; room = g.room; lists = lists_more g.lists refl e; place = g.place }) (rw e at h)
    | inr e ↦ stands (in_line l reasons.Unsupported) fault g.place (unbound_word (some_words g.room g.lists) e) (rw e at h)
  ]

  words_done : (l : ℕ) (name : List ℕ) (ws : List Word) (os : List Open) (s : Script) (t : Token) (ts : List Token) (fault : ScriptFault) → Separates (t ∷ ts) ts → Refuses ts → InWords l name ws os s (t ∷ ts) → parse_on (parser (before_do l name ws) os s) ts ≡ Err fault → FaultStands whole fault
  words_done l name ws os s t ts fault sep f g h = f (before_do l name ws) os s fault (record { begin = g.begin; mid = t ∷ ts; room = g.room; lists = g.lists; separates = sep; place = g.place }) h

  not_do : {l : ℕ} {name : List ℕ} {ws : List Word} {os : List Open} {s : Script} (t : Token) (ts : List Token) (fault : ScriptFault) → BeforeDo l name ws os s (t ∷ ts) → IsNoDo t → (let left : Result Script ScriptFault = Err (in_line (line_of t) reasons.Shape) in left ≡ Err fault) → FaultStands whole fault
  not_do t ts fault g n h = stands (in_line (line_of t) reasons.Shape) fault g.place (no_do (some_words g.room g.lists) g.separates n) h

  do_here : (l : ℕ) (name : List ℕ) (ws : List Word) (k : ℕ) (os : List Open) (s : Script) (p : Bool) (w : Word) (ts : List Token) (fault : ScriptFault) → Refuses ts → BeforeDo l name ws os s (word k p w ∷ ts) → parse_on (parser (before_do l name ws) os s) (word k p w ∷ ts) ≡ Err fault → FaultStands whole fault
  unfolding parse_on
  do_here l name ws k os s false w ts fault f g h = not_do (word k false w) ts fault g refl h
  do_here l name ws k os s true w ts fault f g h = elim (cases_Bool (spells w (codes "do"))) [
    | inl e ↦ f at_command (open_loop l name ws s ∷ os) finish fault (inside g.place (to_do g.room (opens_loop g.lists g.separates (keyword e))) (bare here)) (rw e at h)
    | inr e ↦ elim (cases_Bool (is_one_of if_words (item true w))) [
      | inl m ↦ stands (in_line k reasons.IfShape) fault g.place (if_before_do (some_words g.room g.lists) g.separates m) (rw (e, m) at h)
      | inr m ↦ not_do (word k true w) ts fault g (rw (e, m) refl) (rw (e, m) at h)
    ]
  ]

  -- a word where a command may stand
  if_here : (ts : List Token) → Refuses ts → (l : ℕ) (w : Word) (os : List Open) (s : Script) (fault : ScriptFault) → IsPlace (openings os) (is_empty s) whole (word l true w ∷ ts) → spells w (codes "if") ≡ true → parse_on (in_place os s) (word l true w ∷ ts) ≡ Err fault → FaultStands whole fault
  unfolding parse_on
  if_here ts f l w os s fault g e h = elim (cases_Bool (nat_lt (ifs_in os) 16)) [
    | inl lt ↦ f (behind_if l) os s fault (record { w = w; is_if = e; room = ltb-true (ifs_in os) 16 lt; place = g }) (rw (e, lt) at h)
    | inr ge ↦ stands (in_line l reasons.TooDeep) fault g (too_deep e (ltb-false (ifs_in os) 16 ge)) (rw (e, ge) at h)
  ]

  for_here : (ts : List Token) → Refuses ts → (l : ℕ) (w : Word) (os : List Open) (s : Script) (fault : ScriptFault) → IsPlace (openings os) (is_empty s) whole (word l true w ∷ ts) → spells w (codes "for") ≡ true → parse_on (in_place os s) (word l true w ∷ ts) ≡ Err fault → FaultStands whole fault
  unfolding parse_on
  for_here ts f l w os s fault g e h = elim (cases_Bool (nat_lt (length (names_in os)) 2)) [
    | inl lt ↦ f (behind_for l) os s fault (record { w = w; is_for = e; room = ltb-true (length (names_in os)) 2 lt; place = g }) (rw (spells_is w (codes "for") e, lt) at h)
    | inr ge ↦ stands (in_line l reasons.TooDeep) fault g (loop_too_deep e (ltb-false (length (names_in os)) 2 ge)) (rw (spells_is w (codes "for") e, ge) at h)
  ]

  else_here : (ts : List Token) → Refuses ts → (l : ℕ) (w : Word) (os : List Open) (s : Script) (fault : ScriptFault) → IsPlace (openings os) (is_empty s) whole (word l true w ∷ ts) → spells w (codes "else") ≡ true → parse_on (in_place os s) (word l true w ∷ ts) ≡ Err fault → FaultStands whole fault
  unfolding parse_on
  else_here ts f l w [] s fault g e h = stands (in_line l reasons.IfShape) fault g (no_else_here e (λ x. x)) (rw (spells_is w (codes "else") e) at h)
  else_here ts f l w (open_loop k name ws before ∷ os) s fault g e h = stands (in_line l reasons.IfShape) fault g (no_else_here e (λ x. x)) (rw (spells_is w (codes "else") e) at h)
  else_here ts f l w (open_if k c (Some first) before ∷ os) s fault g e h = stands (in_line l reasons.IfShape) fault g (no_else_here e (λ x. refutes refl x.0)) (rw (spells_is w (codes "else") e) at h)
  else_here ts f l w (open_if k c None before ∷ os) s fault g e h = elim (cases_Bool (is_empty s)) [
    | inl none ↦ stands (in_line l reasons.IfShape) fault g (no_else_here e (λ x. refutes none x.1)) (rw (spells_is w (codes "else") e, none) at h)
    | inr some ↦ f at_command (open_if k c (Some s) before ∷ os) finish fault (place_second g refl some (keyword e)) (rw (spells_is w (codes "else") e, some) at h)
  ]

  fi_here : (ts : List Token) → Refuses ts → (l : ℕ) (w : Word) (os : List Open) (s : Script) (fault : ScriptFault) → IsPlace (openings os) (is_empty s) whole (word l true w ∷ ts) → spells w (codes "fi") ≡ true → parse_on (in_place os s) (word l true w ∷ ts) ≡ Err fault → FaultStands whole fault
  unfolding parse_on
  fi_here ts f l w [] s fault g e h = stands (in_line l reasons.IfShape) fault g (no_fi_here e (λ x. x)) (rw (spells_is w (codes "fi") e) at h)
  fi_here ts f l w (open_loop k name ws before ∷ os) s fault g e h = stands (in_line l reasons.IfShape) fault g (no_fi_here e (λ x. x)) (rw (spells_is w (codes "fi") e) at h)
  fi_here ts f l w (open_if k c first before ∷ os) s fault g e h = elim (cases_Bool (is_empty s)) [
    | inl none ↦ stands (in_line l reasons.IfShape) fault g (no_fi_here e (λ x. refutes none x)) (rw (spells_is w (codes "fi") e, none) at h)
    | inr some ↦
        let inner : IsPlace (openings (open_if k c first before ∷ os)) false whole (word l true w ∷ ts) = subst (λ (x : Bool). IsPlace (openings (open_if k c first before ∷ os)) x whole (word l true w ∷ ts)) some g in
        f (behind_fi l) os (closed (open_if k c first before) s) fault (record { k = k; has_else = is_some first; w = w; is_fi = e; inner = inner; outer = place_closed inner refl refl (keyword e); is_full = closed_full (open_if k c first before) s }) (rw (spells_is w (codes "fi") e, some) at h)
  ]

  done_here : (ts : List Token) → Refuses ts → (l : ℕ) (w : Word) (os : List Open) (s : Script) (fault : ScriptFault) → IsPlace (openings os) (is_empty s) whole (word l true w ∷ ts) → spells w (codes "done") ≡ true → parse_on (in_place os s) (word l true w ∷ ts) ≡ Err fault → FaultStands whole fault
  unfolding parse_on
  done_here ts f l w [] s fault g e h = stands (in_line l reasons.Shape) fault g (no_done_here e (λ x. x)) (rw (spells_is w (codes "done") e) at h)
  done_here ts f l w (open_if k c first before ∷ os) s fault g e h = stands (in_line l reasons.Shape) fault g (no_done_here e (λ x. x)) (rw (spells_is w (codes "done") e) at h)
  done_here ts f l w (open_loop k name ws before ∷ os) s fault g e h = elim (cases_Bool (is_empty s)) [
    | inl none ↦ stands (in_line l reasons.Shape) fault g (no_done_here e (λ x. refutes none x)) (rw (spells_is w (codes "done") e, none) at h)
    | inr some ↦
        let inner : IsPlace (openings (open_loop k name ws before ∷ os)) false whole (word l true w ∷ ts) = subst (λ (x : Bool). IsPlace (openings (open_loop k name ws before ∷ os)) x whole (word l true w ∷ ts)) some g in
        f (behind_done l) os (closed (open_loop k name ws before) s) fault (record { k = k; name = name; w = w; is_done = e; inner = inner; outer = place_closed inner refl refl (keyword e); is_full = closed_full (open_loop k name ws before) s }) (rw (spells_is w (codes "done") e, some) at h)
  ]

  name_of_none : (ts : List Token) → Refuses ts → (l : ℕ) (w : Word) (os : List Open) (s : Script) (fault : ScriptFault) → IsPlace (openings os) (is_empty s) whole (word l true w ∷ ts) → IsNoKeyword w → parse_on (in_place os s) (word l true w ∷ ts) ≡ Err fault → FaultStands whole fault
  unfolding parse_on
  name_of_none ts f l w os s fault g n h = elim (cases_Bool (is_one_of commands (item true w))) [
    | inl e ↦ f (in_command (begin_command l (item true w))) os s fault (record { l = l; p = true; w = w; behind = ts; named = e; is_partial = begins l (item true w) ts; place = g }) (sym (command_begins l true w ts os s e) ∙ h)
    | inr e5 ↦ elim (cases_Bool (is_one_of words_outside (item true w))) [
      | inl e ↦ stands (in_line l reasons.Unsupported) fault g (left_out e) (rw (n.0, n.1, n.2, n.3, n.4, n.5, n.6, e5, e) at h)
      | inr e ↦ stands (in_line l reasons.UnknownCommand) fault g (unknown (rw (n.0, n.1, n.2, n.3) refl) (rw (n.4, n.5, n.6) refl) e5 e) (rw (n.0, n.1, n.2, n.3, n.4, n.5, n.6, e5, e) at h)
    ]
  ]

  word_here : (ts : List Token) → Refuses ts → (l : ℕ) (p : Bool) (w : Word) (os : List Open) (s : Script) (fault : ScriptFault) → IsPlace (openings os) (is_empty s) whole (word l p w ∷ ts) → parse_on (in_place os s) (word l p w ∷ ts) ≡ Err fault → FaultStands whole fault
  unfolding parse_on
  word_here ts f l false w os s fault g h = stands (in_line l reasons.UnknownCommand) fault g (unknown refl refl refl refl) h
  word_here ts f l true w os s fault g h =
      word_kinds w
      (λ e. if_here ts f l w os s fault g e h)
      (λ e. stands (in_line l reasons.IfShape) fault g (then_alone e) (rw (spells_is w (codes "then") e) at h))
      (λ e. else_here ts f l w os s fault g e h)
      (λ e. fi_here ts f l w os s fault g e h)
      (λ e. for_here ts f l w os s fault g e h)
      (λ e. stands (in_line l reasons.Shape) fault g (do_alone e) (rw (spells_is w (codes "do") e) at h))
      (λ e. done_here ts f l w os s fault g e h)
      (λ n. name_of_none ts f l w os s fault g n h)

  at_once : Refuses []
  unfolding parse_on
  at_once at_command [] s fault g h = never (sym h)
  at_once at_command (open_if l c first before ∷ os) s fault g h = stands (in_line l reasons.IfShape) fault g ends_inside h
  at_once at_command (open_loop l name ws before ∷ os) s fault g h = stands (in_line l reasons.Shape) fault g ends_inside h
  at_once (in_command b) os s fault g h = command_at_end b os s fault g h
  at_once (behind_if l) os s fault g h = stands (in_line l reasons.IfShape) fault g.place (no_condition g.is_if g.room (λ x. x) (λ x. x)) h
  at_once (in_condition b) os s fault g h = test_at_end b os s fault g h
  at_once (before_then l c) os s fault g h = stands (in_line l reasons.IfShape) fault g.place (ends_before_then (a_condition g.is_if g.room g.is g.form g.known) (inr g.separates)) h
  at_once (behind_fi l) os s fault g h = left_open os s fault g.outer.place g.outer.command h
  at_once (behind_for l) os s fault g h = stands (in_line l reasons.Shape) fault g.place (ends_behind_for g.is_for g.room) h
  at_once (behind_name l name) os s fault g h = stands (in_line l reasons.Shape) fault g.place (no_in g.is_for g.room g.is_name g.new (λ x. x)) h
  at_once (in_words l name ws) os s fault g h = stands (in_line l reasons.Shape) fault g.place (ends_before_do (some_words g.room g.lists) (inl refl)) h
  at_once (before_do l name ws) os s fault g h = stands (in_line l reasons.Shape) fault g.place (ends_before_do (some_words g.room g.lists) (inr g.separates)) h
  at_once (behind_done l) os s fault g h = left_open os s fault g.outer.place g.outer.command h

  one_token : (t : Token) (ts : List Token) → Refuses ts → Refuses (t ∷ ts)
  unfolding parse_on
  one_token (word l p w) ts f at_command os s fault g h = word_here ts f l p w os s fault g h
  one_token (word l p w) ts f (in_command b) os s fault g h = f (in_command (with_word b (item p w))) os s fault (record { l = g.l; p = g.p; w = g.w; behind = g.behind; named = g.named; is_partial = goes_word l p w g.is_partial; place = g.place }) h
  one_token (word l p w) ts f (behind_if k) os s fault g h = condition_here k l os s p w ts fault f g h
  one_token (word l p w) ts f (in_condition b) os s fault g h = f (in_condition (with_word b (item p w))) os s fault (record { l = g.l; k = g.k; p = g.p; v = g.v; w = g.w; behind = g.behind; is_if = g.is_if; room = g.room; named = g.named; is_partial = goes_word l p w g.is_partial; place = g.place }) h
  one_token (word l p w) ts f (before_then k c) os s fault g h = then_here k l c os s p w ts fault f g h
  one_token (word l p w) ts f (behind_fi k) os s fault g h = past_fi k l os s p w ts fault g h
  one_token (word l p w) ts f (behind_for k) os s fault g h = name_here k l os s p w ts fault f g h
  one_token (word l p w) ts f (behind_name k name) os s fault g h = in_here k name l os s p w ts fault f g h
  one_token (word l p w) ts f (in_words k name ws) os s fault g h = words_here k name ws l os s p w ts fault f g h
  one_token (word l p w) ts f (before_do k name ws) os s fault g h = do_here k name ws l os s p w ts fault f g h
  one_token (word l p w) ts f (behind_done k) os s fault g h = stands (in_line k reasons.Shape) fault g.inner (refusals.behind_done g.is_done refl (λ x. x)) h
  one_token (semicolon l) ts f at_command os s fault g h = stands (in_line l reasons.Shape) fault g a_separator h
  one_token (semicolon l) ts f (in_command b) os s fault g h = command_over b os s (semicolon l) ts fault tt (by_semicolon here) f g h
  one_token (semicolon l) ts f (behind_if k) os s fault g h = stands (in_line k reasons.IfShape) fault g.place (no_condition g.is_if g.room (λ x. x) (λ x. x)) h
  one_token (semicolon l) ts f (in_condition b) os s fault g h = test_over b os s (semicolon l) ts fault tt (by_semicolon here) f g h
  one_token (semicolon l) ts f (before_then k c) os s fault g h = not_then (semicolon l) ts fault g tt h
  one_token (semicolon l) ts f (behind_fi k) os s fault g h = goes_on os s ts fault f (place_more g.outer.place g.outer.command (by_semicolon here)) g.is_full h
  one_token (semicolon l) ts f (behind_for k) os s fault g h = stands (in_line l reasons.Shape) fault g.place (no_name {t = semicolon l} g.is_for g.room tt) h
  one_token (semicolon l) ts f (behind_name k name) os s fault g h = stands (in_line k reasons.Shape) fault g.place (no_in g.is_for g.room g.is_name g.new (λ x. x)) h
  one_token (semicolon l) ts f (in_words k name ws) os s fault g h = words_done k name ws os s (semicolon l) ts fault (by_semicolon here) f g h
  one_token (semicolon l) ts f (before_do k name ws) os s fault g h = not_do (semicolon l) ts fault g tt h
  one_token (semicolon l) ts f (behind_done k) os s fault g h = goes_on os s ts fault f (place_more g.outer.place g.outer.command (by_semicolon here)) g.is_full h
  one_token (newline l) ts f at_command os s fault g h = f at_command os s fault (place_skips g (past here)) h
  one_token (newline l) ts f (in_command b) os s fault g h = command_over b os s (newline l) ts fault tt (by_newline here) f g h
  one_token (newline l) ts f (behind_if k) os s fault g h = stands (in_line k reasons.IfShape) fault g.place (no_condition g.is_if g.room (λ x. x) (λ x. x)) h
  one_token (newline l) ts f (in_condition b) os s fault g h = test_over b os s (newline l) ts fault tt (by_newline here) f g h
  one_token (newline l) ts f (before_then k c) os s fault g h = f (before_then k c) os s fault (record { k = g.k; p = g.p; v = g.v; w = g.w; behind = g.behind; mid = g.mid; items = g.items; is_if = g.is_if; room = g.room; place = g.place; is = g.is; form = g.form; known = g.known; separates = separates_on g.separates (past here) }) h
  one_token (newline l) ts f (behind_fi k) os s fault g h = goes_on os s ts fault f (place_more g.outer.place g.outer.command (by_newline here)) g.is_full h
  one_token (newline l) ts f (behind_for k) os s fault g h = stands (in_line l reasons.Shape) fault g.place (no_name {t = newline l} g.is_for g.room tt) h
  one_token (newline l) ts f (behind_name k name) os s fault g h = stands (in_line k reasons.Shape) fault g.place (no_in g.is_for g.room g.is_name g.new (λ x. x)) h
  one_token (newline l) ts f (in_words k name ws) os s fault g h = words_done k name ws os s (newline l) ts fault (by_newline here) f g h
  one_token (newline l) ts f (before_do k name ws) os s fault g h = f (before_do k name ws) os s fault (record { begin = g.begin; mid = g.mid; room = g.room; lists = g.lists; separates = separates_on g.separates (past here); place = g.place }) h
  one_token (newline l) ts f (behind_done k) os s fault g h = goes_on os s ts fault f (place_more g.outer.place g.outer.command (by_newline here)) g.is_full h
  one_token (redirect l a) ts f at_command os s fault g h = stands (in_line l reasons.Shape) fault g a_redirection h
  one_token (redirect l a) ts f (in_command b) os s fault g h = f (in_command (with_redirect b a)) os s fault (record { l = g.l; p = g.p; w = g.w; behind = g.behind; named = g.named; is_partial = goes_redirect l a g.is_partial; place = g.place }) h
  one_token (redirect l a) ts f (behind_if k) os s fault g h = stands (in_line k reasons.IfShape) fault g.place (no_condition g.is_if g.room (λ x. x) (λ x. x)) h
  one_token (redirect l a) ts f (in_condition b) os s fault g h = f (in_condition (with_redirect b a)) os s fault (record { l = g.l; k = g.k; p = g.p; v = g.v; w = g.w; behind = g.behind; is_if = g.is_if; room = g.room; named = g.named; is_partial = goes_redirect l a g.is_partial; place = g.place }) h
  one_token (redirect l a) ts f (before_then k c) os s fault g h = not_then (redirect l a) ts fault g tt h
  one_token (redirect l a) ts f (behind_fi k) os s fault g h = stands (in_line k reasons.IfShape) fault g.inner (refusals.behind_fi g.is_fi refl (λ x. x) (λ x. x)) h
  one_token (redirect l a) ts f (behind_for k) os s fault g h = stands (in_line l reasons.Shape) fault g.place (no_name {t = redirect l a} g.is_for g.room tt) h
  one_token (redirect l a) ts f (behind_name k name) os s fault g h = stands (in_line k reasons.Shape) fault g.place (no_in g.is_for g.room g.is_name g.new (λ x. x)) h
  one_token (redirect l a) ts f (in_words k name ws) os s fault g h = stands (in_line l reasons.Shape) fault g.place (redirected_words (some_words g.room g.lists)) h
  one_token (redirect l a) ts f (before_do k name ws) os s fault g h = not_do (redirect l a) ts fault g tt h
  one_token (redirect l a) ts f (behind_done k) os s fault g h = stands (in_line k reasons.Shape) fault g.inner (refusals.behind_done g.is_done refl (λ x. x)) h

  refuses : (ts : List Token) → Refuses ts
  refuses [] = at_once
  refuses (t ∷ ts) = one_token t ts (refuses ts)

pub refused : (ts : List Token) (fault : ScriptFault) → statements_of ts ≡ Err fault → FaultStands ts fault
unfolding statements_of
refused ts fault h = refuses ts ts at_command [] finish fault (outside (bare here)) h
