-- The fault of tokens that are no program: its place, as a relation by cases over the grammar, and its reason, by a
-- table of what is open there and what comes.
use Rattle.std.specs.Prelude.{◌≡◌, ◌⊎◌, ℕ, ◌<◌, ◌≤◌, Bool, true, false, List, [], ◌∷◌, length, Option, Some, None}
use Rattle.std.specs.Prelude.{codes}
use Rattle.redo_script.specs.declared.fault.ScriptFault.{ScriptFault}
use Rattle.redo_script.specs.declared.fault.Reason.{Reason}
use Rattle.redo_script.specs.Syntax.{Word, Redirection, Command, Condition, Script, finish}
use Rattle.redo_script.specs.Tokens.{Token, word, semicolon, newline, redirect}
use Rattle.redo_script.specs.Forms.{Item, spells, command_form, condition_form, name_of, is_bound, knows_word, knows}
use Rattle.redo_grammar.specs.Grammar.{AtSeparator, IsItems, SkipsNewlines, Separates, IsKeyword, OpensIf, ListsWords}
use Rattle.redo_grammar.specs.Grammar.{OpensLoop, IsCommand, IsBlock}
use Rattle.redo_script.specs.Parsing.{Opening, an_if, a_loop, Nest, in_if, nest_in, is_one_of, commands}
use Rattle.redo_script.specs.Parsing.{words_outside, loop_words, if_words, conditions}
use Rattle.redo_script.specs.declared.fault.Reason.TheVariants as reasons

-- The tokens are newlines, if any, and commands, each followed by a separator, then the rest; a bare part has no
-- command.
pub data IsPart : Nest → (is_bare : Bool) → List Token → List Token → Type 0 where
  bare : {n : Nest} {ts rest : List Token} → SkipsNewlines ts rest → IsPart n true ts rest
  full : {n : Nest} {ts rest : List Token} {script : Script} → IsBlock n ts script rest → IsPart n false ts rest

-- The tokens are an if up to its then, or up to its else, or a loop up to its do, at an allowed depth, followed by the
-- rest.
pub data IsOpened : Nest → Opening → List Token → List Token → Type 0 where
  to_then : {n : Nest} {l : ℕ} {c : Condition} {ts rest : List Token} →
      n.ifs < 16 → OpensIf n.names l c ts rest → IsOpened n (an_if l false) ts rest
  to_else : {n : Nest} {l : ℕ} {c : Condition} {ts t1 t2 rest : List Token} {first : Script} →
      n.ifs < 16 → OpensIf n.names l c ts t1 → IsBlock (in_if n) t1 first t2 → IsKeyword (codes "else") t2 rest →
      IsOpened n (an_if l true) ts rest
  to_do : {n : Nest} {l : ℕ} {name : List ℕ} {ws : List Word} {ts rest : List Token} →
      length n.names < 2 → OpensLoop n.names l name ws ts rest → IsOpened n (a_loop l name) ts rest

-- A command may come before the rest of the tokens, inside these open ifs and loops, innermost first. If `is_bare`, no
-- command was read in the innermost part.
pub data IsPlace : List Opening → (is_bare : Bool) → List Token → List Token → Type 0 where
  outside : {b : Bool} {ts rest : List Token} → IsPart (nest_in []) b ts rest → IsPlace [] b ts rest
  inside : {o : Opening} {os : List Opening} {a b : Bool} {ts t1 t2 rest : List Token} →
      IsPlace os a ts t1 → IsOpened (nest_in os) o t1 t2 → IsPart (nest_in (o ∷ os)) b t2 rest →
      IsPlace (o ∷ os) b ts rest

-- a fault on this line
abbrev pub in_line : ℕ → Reason → ScriptFault
in_line line why = record { line = line; why = why }

-- one of these words comes next
abbrev pub AtOneOf : List (List ℕ) → List Token → Type 0
AtOneOf names [] = ⊥
AtOneOf names (word l p w ∷ ts) = is_one_of names (record { is_plain = p; word = w }) ≡ true
AtOneOf names (semicolon l ∷ ts) = ⊥
AtOneOf names (newline l ∷ ts) = ⊥
AtOneOf names (redirect l a ∷ ts) = ⊥

-- this token is where `then` must be, and is neither `then` nor a newline nor a reserved word of a loop
abbrev pub IsNoThen : Token → Type 0
IsNoThen (word l p w) = is_one_of (codes "then" ∷ loop_words) (record { is_plain = p; word = w }) ≡ false
IsNoThen (semicolon l) = Unit {0}
IsNoThen (newline l) = ⊥
IsNoThen (redirect l a) = Unit {0}

-- this token is where `do` must be, and is neither `do` nor a newline nor a reserved word of an if
abbrev pub IsNoDo : Token → Type 0
IsNoDo (word l p w) = is_one_of (codes "do" ∷ if_words) (record { is_plain = p; word = w }) ≡ false
IsNoDo (semicolon l) = Unit {0}
IsNoDo (newline l) = ⊥
IsNoDo (redirect l a) = Unit {0}

-- this token is where a loop's name must be, and is no name, or one of these
abbrev pub IsNoName : List (List ℕ) → Token → Type 0
IsNoName names (word l p w) = (name : List ℕ) → name_of (record { is_plain = p; word = w }) ≡ Some name →
    is_bound names name ≡ true
IsNoName names (semicolon l) = Unit {0}
IsNoName names (newline l) = Unit {0}
IsNoName names (redirect l a) = Unit {0}

-- the line of a token
abbrev pub line_of : Token → ℕ
line_of (word l p w) = l
line_of (semicolon l) = l
line_of (newline l) = l
line_of (redirect l a) = l

-- the tokens up to the next separator make no command of this name
abbrev pub HasNoForm : Item → List Token → Type 0
HasNoForm name ts = (items : List Item) (r : Option Redirection) (rest : List Token) (c : Command) →
    IsItems ts items r rest → command_form name items r ≡ Some c → ⊥

-- the tokens up to the next separator make no condition of this name
abbrev pub HasNoTest : Item → List Token → Type 0
HasNoTest name ts = (items : List Item) (rest : List Token) (c : Condition) →
    IsItems ts items None rest → condition_form name items ≡ Some c → ⊥

-- the innermost open one is an if with a command in its part, and no else
abbrev pub MayElse : List Opening → Bool → Type 0
MayElse [] b = ⊥
MayElse (an_if l has_else ∷ os) b = (has_else ≡ false) × (b ≡ false)
MayElse (a_loop l name ∷ os) b = ⊥

-- the innermost open one is an if with a command in its part
abbrev pub MayFi : List Opening → Bool → Type 0
MayFi [] b = ⊥
MayFi (an_if l has_else ∷ os) b = b ≡ false
MayFi (a_loop l name ∷ os) b = ⊥

-- the innermost open one is a loop with a command in it
abbrev pub MayDone : List Opening → Bool → Type 0
MayDone [] b = ⊥
MayDone (an_if l has_else ∷ os) b = ⊥
MayDone (a_loop l name ∷ os) b = b ≡ false

-- the fault of a text that ends while this is the innermost open one
abbrev pub fault_inside : Opening → ScriptFault
fault_inside (an_if l has_else) = in_line l reasons.IfShape
fault_inside (a_loop l name) = in_line l reasons.Shape

-- The tokens are `if` on this line, at an allowed depth, and a condition whose names are bound, followed by the
-- rest.
pub data HasCondition : Nest → ℕ → List Token → List Token → Type 0 where
  a_condition : {n : Nest} {l k : ℕ} {p : Bool} {v w : Word} {ts rest : List Token} {items : List Item}
      {c : Condition} →
      spells v (codes "if") ≡ true → n.ifs < 16 → IsItems ts items None rest →
      condition_form (record { is_plain = p; word = w }) items ≡ Some c → knows n.names items None ≡ true →
      HasCondition n l (word l true v ∷ word k p w ∷ ts) rest

-- The tokens are `for` on this line, at an allowed depth, a name that isn't bound yet, `in`, and words whose names are
-- bound, followed by the rest.
pub data HasWords : Nest → ℕ → List Token → List Token → Type 0 where
  some_words : {n : Nest} {l : ℕ} {name : List ℕ} {ws : List Word} {ts rest : List Token} →
      length n.names < 2 → ListsWords n.names l name ws ts rest → HasWords n l ts rest

-- What is wrong with these tokens in the place of a command, inside these open ifs and loops. If `is_bare`, no command
-- was read in the innermost part.
pub data IsWrong : List Opening → (is_bare : Bool) → List Token → ScriptFault → Type 0 where
  -- `;` or a redirection in the place of a command
  a_separator : {os : List Opening} {b : Bool} {l : ℕ} {ts : List Token} →
      IsWrong os b (semicolon l ∷ ts) (in_line l reasons.Shape)
  a_redirection : {os : List Opening} {b a : Bool} {l : ℕ} {ts : List Token} →
      IsWrong os b (redirect l a ∷ ts) (in_line l reasons.Shape)
  -- an if inside 16 others
  too_deep : {os : List Opening} {b : Bool} {l : ℕ} {w : Word} {ts : List Token} →
      spells w (codes "if") ≡ true → 16 ≤ (nest_in os).ifs →
      IsWrong os b (word l true w ∷ ts) (in_line l reasons.TooDeep)
  -- after if anything but `test`, `true` or `false`: the line of the if
  no_condition : {os : List Opening} {b : Bool} {l : ℕ} {w : Word} {ts : List Token} →
      spells w (codes "if") ≡ true → (nest_in os).ifs < 16 → (AtOneOf conditions ts → ⊥) → (AtOneOf loop_words ts → ⊥) →
      IsWrong os b (word l true w ∷ ts) (in_line l reasons.IfShape)
  -- a reserved word of a loop there: its own line
  loop_behind_if : {os : List Opening} {b p : Bool} {l k : ℕ} {v w : Word} {ts : List Token} →
      spells v (codes "if") ≡ true → (nest_in os).ifs < 16 →
      is_one_of loop_words (record { is_plain = p; word = w }) ≡ true →
      IsWrong os b (word l true v ∷ word k p w ∷ ts) (in_line k reasons.Shape)
  -- words after if that make no condition: the line of the if
  no_test : {os : List Opening} {b p : Bool} {l k : ℕ} {v w : Word} {ts : List Token} →
      spells v (codes "if") ≡ true → (nest_in os).ifs < 16 →
      is_one_of conditions (record { is_plain = p; word = w }) ≡ true →
      HasNoTest (record { is_plain = p; word = w }) ts →
      IsWrong os b (word l true v ∷ word k p w ∷ ts) (in_line l reasons.Shape)
  -- a condition with a name that isn't bound: the line of the if
  unbound_test : {os : List Opening} {b p : Bool} {l k : ℕ} {v w : Word} {ts rest : List Token} {items : List Item}
      {c : Condition} →
      spells v (codes "if") ≡ true → (nest_in os).ifs < 16 → IsItems ts items None rest →
      condition_form (record { is_plain = p; word = w }) items ≡ Some c →
      knows (nest_in os).names items None ≡ false →
      IsWrong os b (word l true v ∷ word k p w ∷ ts) (in_line l reasons.Unsupported)
  -- after a condition and its separators anything but `then`: its own line
  no_then : {os : List Opening} {b : Bool} {l : ℕ} {t : Token} {ts mid rest : List Token} →
      HasCondition (nest_in os) l ts mid → Separates mid (t ∷ rest) → IsNoThen t →
      IsWrong os b ts (in_line (line_of t) reasons.IfShape)
  -- a reserved word of a loop there
  loop_before_then : {os : List Opening} {b p : Bool} {l k : ℕ} {w : Word} {ts mid rest : List Token} →
      HasCondition (nest_in os) l ts mid → Separates mid (word k p w ∷ rest) →
      is_one_of loop_words (record { is_plain = p; word = w }) ≡ true → IsWrong os b ts (in_line k reasons.Shape)
  -- the end there: the line of the if
  ends_before_then : {os : List Opening} {b : Bool} {l : ℕ} {ts mid : List Token} →
      HasCondition (nest_in os) l ts mid → (mid ≡ []) ⊎ Separates mid [] → IsWrong os b ts (in_line l reasons.IfShape)
  -- `then` in the place of a command
  then_alone : {os : List Opening} {b : Bool} {l : ℕ} {w : Word} {ts : List Token} →
      spells w (codes "then") ≡ true → IsWrong os b (word l true w ∷ ts) (in_line l reasons.IfShape)
  -- `else` where no first branch with a command is open
  no_else_here : {os : List Opening} {b : Bool} {l : ℕ} {w : Word} {ts : List Token} →
      spells w (codes "else") ≡ true → (MayElse os b → ⊥) →
      IsWrong os b (word l true w ∷ ts) (in_line l reasons.IfShape)
  -- `fi` where no branch with a command is open
  no_fi_here : {os : List Opening} {b : Bool} {l : ℕ} {w : Word} {ts : List Token} →
      spells w (codes "fi") ≡ true → (MayFi os b → ⊥) → IsWrong os b (word l true w ∷ ts) (in_line l reasons.IfShape)
  -- after fi anything but a separator or the end: the line of the fi
  behind_fi : {os : List Opening} {b : Bool} {l : ℕ} {w : Word} {ts : List Token} →
      spells w (codes "fi") ≡ true → MayFi os b → (AtSeparator ts → ⊥) → (AtOneOf loop_words ts → ⊥) →
      IsWrong os b (word l true w ∷ ts) (in_line l reasons.IfShape)
  -- a reserved word of a loop there: its own line
  loop_behind_fi : {os : List Opening} {b p : Bool} {l k : ℕ} {v w : Word} {ts : List Token} →
      spells v (codes "fi") ≡ true → MayFi os b → is_one_of loop_words (record { is_plain = p; word = w }) ≡ true →
      IsWrong os b (word l true v ∷ word k p w ∷ ts) (in_line k reasons.Shape)
  -- the end inside an if or a loop: the line of the innermost
  ends_inside : {o : Opening} {os : List Opening} {b : Bool} → IsWrong (o ∷ os) b [] (fault_inside o)
  -- the same directly after a command, which lacks its separator
  ends_behind : {o : Opening} {os : List Opening} {b : Bool} {ts : List Token} {whole : Script} →
      IsCommand (nest_in (o ∷ os)) ts [] finish whole → IsWrong (o ∷ os) b ts (fault_inside o)
  -- a loop inside 2 others
  loop_too_deep : {os : List Opening} {b : Bool} {l : ℕ} {w : Word} {ts : List Token} →
      spells w (codes "for") ≡ true → 2 ≤ length (nest_in os).names →
      IsWrong os b (word l true w ∷ ts) (in_line l reasons.TooDeep)
  -- after for anything but a name, or a name that is bound: its own line
  no_name : {os : List Opening} {b : Bool} {l : ℕ} {w : Word} {t : Token} {ts : List Token} →
      spells w (codes "for") ≡ true → length (nest_in os).names < 2 → IsNoName (nest_in os).names t →
      IsWrong os b (word l true w ∷ t ∷ ts) (in_line (line_of t) reasons.Shape)
  -- the end there: the line of the for
  ends_behind_for : {os : List Opening} {b : Bool} {l : ℕ} {w : Word} →
      spells w (codes "for") ≡ true → length (nest_in os).names < 2 →
      IsWrong os b (word l true w ∷ []) (in_line l reasons.Shape)
  -- after the name anything but `in`: the line of the for
  no_in : {os : List Opening} {b p : Bool} {l k : ℕ} {v w : Word} {name : List ℕ} {ts : List Token} →
      spells v (codes "for") ≡ true → length (nest_in os).names < 2 →
      name_of (record { is_plain = p; word = w }) ≡ Some name → is_bound (nest_in os).names name ≡ false →
      (AtOneOf (codes "in" ∷ []) ts → ⊥) →
      IsWrong os b (word l true v ∷ word k p w ∷ ts) (in_line l reasons.Shape)
  -- a redirection among the words: its own line
  redirected_words : {os : List Opening} {b a : Bool} {l k : ℕ} {ts rest : List Token} →
      HasWords (nest_in os) l ts (redirect k a ∷ rest) → IsWrong os b ts (in_line k reasons.Shape)
  -- a word with a name that isn't bound: the line of the for
  unbound_word : {os : List Opening} {b p : Bool} {l k : ℕ} {w : Word} {ts rest : List Token} →
      HasWords (nest_in os) l ts (word k p w ∷ rest) → knows_word (nest_in os).names w ≡ false →
      IsWrong os b ts (in_line l reasons.Unsupported)
  -- after the words and their separators anything but `do`: its own line
  no_do : {os : List Opening} {b : Bool} {l : ℕ} {t : Token} {ts mid rest : List Token} →
      HasWords (nest_in os) l ts mid → Separates mid (t ∷ rest) → IsNoDo t →
      IsWrong os b ts (in_line (line_of t) reasons.Shape)
  -- a reserved word of an if there
  if_before_do : {os : List Opening} {b p : Bool} {l k : ℕ} {w : Word} {ts mid rest : List Token} →
      HasWords (nest_in os) l ts mid → Separates mid (word k p w ∷ rest) →
      is_one_of if_words (record { is_plain = p; word = w }) ≡ true → IsWrong os b ts (in_line k reasons.IfShape)
  -- the end there: the line of the for
  ends_before_do : {os : List Opening} {b : Bool} {l : ℕ} {ts mid : List Token} →
      HasWords (nest_in os) l ts mid → (mid ≡ []) ⊎ Separates mid [] → IsWrong os b ts (in_line l reasons.Shape)
  -- `do` in the place of a command
  do_alone : {os : List Opening} {b : Bool} {l : ℕ} {w : Word} {ts : List Token} →
      spells w (codes "do") ≡ true → IsWrong os b (word l true w ∷ ts) (in_line l reasons.Shape)
  -- `done` where the innermost open one isn't a loop with a command in it
  no_done_here : {os : List Opening} {b : Bool} {l : ℕ} {w : Word} {ts : List Token} →
      spells w (codes "done") ≡ true → (MayDone os b → ⊥) → IsWrong os b (word l true w ∷ ts) (in_line l reasons.Shape)
  -- after done anything but a separator or the end: the line of the done
  behind_done : {os : List Opening} {b : Bool} {l : ℕ} {w : Word} {ts : List Token} →
      spells w (codes "done") ≡ true → MayDone os b → (AtSeparator ts → ⊥) →
      IsWrong os b (word l true w ∷ ts) (in_line l reasons.Shape)
  -- a reserved word that the subset leaves out
  left_out : {os : List Opening} {b : Bool} {l : ℕ} {w : Word} {ts : List Token} →
      is_one_of words_outside (record { is_plain = true; word = w }) ≡ true →
      IsWrong os b (word l true w ∷ ts) (in_line l reasons.Unsupported)
  -- any other word that is no command's name
  unknown : {os : List Opening} {b p : Bool} {l : ℕ} {w : Word} {ts : List Token} →
      is_one_of (codes "if" ∷ if_words) (record { is_plain = p; word = w }) ≡ false →
      is_one_of loop_words (record { is_plain = p; word = w }) ≡ false →
      is_one_of commands (record { is_plain = p; word = w }) ≡ false →
      is_one_of words_outside (record { is_plain = p; word = w }) ≡ false →
      IsWrong os b (word l p w ∷ ts) (in_line l reasons.UnknownCommand)
  -- a command whose operands or redirection don't fit its form: the line of its name
  no_form : {os : List Opening} {b p : Bool} {l : ℕ} {w : Word} {ts : List Token} →
      is_one_of commands (record { is_plain = p; word = w }) ≡ true → HasNoForm (record { is_plain = p; word = w }) ts →
      IsWrong os b (word l p w ∷ ts) (in_line l reasons.Shape)
  -- a command with a name that isn't bound: the same line
  unbound : {os : List Opening} {b p : Bool} {l : ℕ} {w : Word} {ts rest : List Token} {items : List Item}
      {r : Option Redirection} {c : Command} →
      IsItems ts items r rest → command_form (record { is_plain = p; word = w }) items r ≡ Some c →
      knows (nest_in os).names items r ≡ false → IsWrong os b (word l p w ∷ ts) (in_line l reasons.Unsupported)

-- The fault of these tokens: up to a place for a command they are in the grammar, and the table says what is wrong
-- there.
pub record FaultStands (ts : List Token) (fault : ScriptFault) : Type 0 where
  pub opens : List Opening
  pub is_bare : Bool
  pub rest : List Token
  pub place : IsPlace opens is_bare ts rest
  pub is_wrong : IsWrong opens is_bare rest fault
