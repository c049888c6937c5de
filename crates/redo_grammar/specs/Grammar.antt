-- The statements of a list of tokens, as a relation by cases.
use Rattle.std.specs.Prelude.{◌≡◌, ℕ, ◌<◌, Bool, true, false, List, [], ◌∷◌, length, Option, Some}
use Rattle.std.specs.Prelude.{None, codes}
use Rattle.redo_script.specs.Syntax.{Word, Redirection, Command, Condition, Script, finish, simple, choice, loop}
use Rattle.redo_script.specs.Tokens.{Token, word, semicolon, newline, redirect}
use Rattle.redo_script.specs.Forms.{Item, command_form, condition_form, is_bound, knows, knows_word, name_of, spells}
use Rattle.redo_script.specs.Parsing.{Nest, in_if, in_loop, outermost}

-- a separator or the end comes next
abbrev pub AtSeparator : List Token → Type 0
AtSeparator [] = Unit {0}
AtSeparator (semicolon l ∷ ts) = Unit {0}
AtSeparator (newline l ∷ ts) = Unit {0}
AtSeparator (word l p w ∷ ts) = ⊥
AtSeparator (redirect l a ∷ ts) = ⊥

-- The tokens are words, and perhaps a redirection with its word, up to a separator or the end, followed by the
-- rest.
pub data IsItems : List Token → List Item → Option Redirection → List Token → Type 0 where
  none_left : {ts : List Token} → AtSeparator ts → IsItems ts [] None ts
  one_item : {l : ℕ} {p : Bool} {w : Word} {ts rest : List Token} {items : List Item} {r : Option Redirection} →
      IsItems ts items r rest → IsItems (word l p w ∷ ts) (record { is_plain = p; word = w } ∷ items) r rest
  redirected : {l k : ℕ} {a p : Bool} {w : Word} {ts : List Token} →
      AtSeparator ts → IsItems (redirect l a ∷ word k p w ∷ ts) [] (Some (record { appends = a; word = w })) ts

-- The tokens are newlines, if any, followed by the rest.
pub data SkipsNewlines : List Token → List Token → Type 0 where
  here : {ts : List Token} → SkipsNewlines ts ts
  past : {l : ℕ} {ts rest : List Token} → SkipsNewlines ts rest → SkipsNewlines (newline l ∷ ts) rest

-- The tokens are `;` or a newline, then newlines, if any, followed by the rest.
pub data Separates : List Token → List Token → Type 0 where
  by_semicolon : {l : ℕ} {ts rest : List Token} → SkipsNewlines ts rest → Separates (semicolon l ∷ ts) rest
  by_newline : {l : ℕ} {ts rest : List Token} → SkipsNewlines ts rest → Separates (newline l ∷ ts) rest

-- The tokens are this reserved word, followed by the rest.
pub data IsKeyword : List ℕ → List Token → List Token → Type 0 where
  keyword : {name : List ℕ} {l : ℕ} {w : Word} {ts : List Token} →
      spells w name ≡ true → IsKeyword name (word l true w ∷ ts) ts

-- The tokens are `if` on this line, this condition, whose names are bound, a separator and `then`, followed by the
-- rest.
pub data OpensIf : List (List ℕ) → ℕ → Condition → List Token → List Token → Type 0 where
  opens_if : {names : List (List ℕ)} {l k : ℕ} {p : Bool} {v w : Word} {t1 t2 t3 rest : List Token} {items : List Item}
      {c : Condition} →
      spells v (codes "if") ≡ true → IsItems t1 items None t2 →
      condition_form (record { is_plain = p; word = w }) items ≡ Some c → knows names items None ≡ true →
      Separates t2 t3 → IsKeyword (codes "then") t3 rest → OpensIf names l c (word l true v ∷ word k p w ∷ t1) rest

-- The tokens are words whose names are bound, followed by the rest.
pub data TakesWords : List (List ℕ) → List Token → List Word → List Token → Type 0 where
  no_word : {names : List (List ℕ)} {ts : List Token} → TakesWords names ts [] ts
  one_word : {names : List (List ℕ)} {l : ℕ} {p : Bool} {w : Word} {ts rest : List Token} {ws : List Word} →
      knows_word names w ≡ true → TakesWords names ts ws rest → TakesWords names (word l p w ∷ ts) (w ∷ ws) rest

-- The tokens are `for` on this line, a name that isn't bound yet, `in` and these words, followed by the rest.
pub data ListsWords : List (List ℕ) → ℕ → List ℕ → List Word → List Token → List Token → Type 0 where
  lists_words : {names : List (List ℕ)} {l k : ℕ} {p : Bool} {v w : Word} {name : List ℕ} {t1 t2 rest : List Token}
      {ws : List Word} →
      spells v (codes "for") ≡ true → name_of (record { is_plain = p; word = w }) ≡ Some name →
      is_bound names name ≡ false → IsKeyword (codes "in") t1 t2 → TakesWords names t2 ws rest →
      ListsWords names l name ws (word l true v ∷ word k p w ∷ t1) rest

-- the same with a separator and `do` after the words
pub data OpensLoop : List (List ℕ) → ℕ → List ℕ → List Word → List Token → List Token → Type 0 where
  opens_loop : {names : List (List ℕ)} {l : ℕ} {name : List ℕ} {ws : List Word} {ts t1 t2 rest : List Token} →
      ListsWords names l name ws ts t1 → Separates t1 t2 → IsKeyword (codes "do") t2 rest →
      OpensLoop names l name ws ts rest

mutual
  -- The tokens are a command, inside at most 16 ifs and 2 loops, followed by the rest. The second script is the
  -- command followed by the first.
  pub data IsCommand : Nest → List Token → List Token → Script → Script → Type 0 where
    a_command : {n : Nest} {l : ℕ} {p : Bool} {w : Word} {ts rest : List Token} {items : List Item}
        {r : Option Redirection} {c : Command} {after : Script} →
        IsItems ts items r rest → command_form (record { is_plain = p; word = w }) items r ≡ Some c →
        knows n.names items r ≡ true → IsCommand n (word l p w ∷ ts) rest after (simple l c after)
    if_then : {n : Nest} {l : ℕ} {c : Condition} {ts t1 t2 rest : List Token} {first after : Script} →
        n.ifs < 16 → OpensIf n.names l c ts t1 → IsBlock (in_if n) t1 first t2 → IsKeyword (codes "fi") t2 rest →
        IsCommand n ts rest after (choice l c first finish after)
    if_else : {n : Nest} {l : ℕ} {c : Condition} {ts t1 t2 t3 t4 rest : List Token} {first second after : Script} →
        n.ifs < 16 → OpensIf n.names l c ts t1 → IsBlock (in_if n) t1 first t2 → IsKeyword (codes "else") t2 t3 →
        IsBlock (in_if n) t3 second t4 → IsKeyword (codes "fi") t4 rest →
        IsCommand n ts rest after (choice l c first second after)
    for_done : {n : Nest} {l : ℕ} {name : List ℕ} {ws : List Word} {ts t1 t2 rest : List Token} {body after : Script} →
        length n.names < 2 → OpensLoop n.names l name ws ts t1 → IsBlock (in_loop name n) t1 body t2 →
        IsKeyword (codes "done") t2 rest → IsCommand n ts rest after (loop l name ws body after)

  -- The tokens are newlines, if any, then commands, each followed by a separator, then the rest.
  pub data IsBlock : Nest → List Token → Script → List Token → Type 0 where
    after_newlines : {n : Nest} {ts rest more : List Token} {script : Script} →
        SkipsNewlines ts rest → IsList n rest script more → IsBlock n ts script more

  -- The tokens are one or more commands, each followed by a separator, then the rest.
  pub data IsList : Nest → List Token → Script → List Token → Type 0 where
    last : {n : Nest} {ts mid rest : List Token} {whole : Script} →
        IsCommand n ts mid finish whole → Separates mid rest → IsList n ts whole rest
    more : {n : Nest} {ts mid next rest : List Token} {whole script : Script} →
        IsCommand n ts mid script whole → Separates mid next → IsList n next script rest → IsList n ts whole rest

-- the tokens are commands, each followed by a separator, which the last may lack
pub data IsWhole : List Token → Script → Type 0 where
  empty : IsWhole [] finish
  unended : {ts : List Token} {whole : Script} → IsCommand outermost ts [] finish whole → IsWhole ts whole
  continues : {ts mid rest : List Token} {whole script : Script} →
      IsCommand outermost ts mid script whole → Separates mid rest → IsWhole rest script → IsWhole ts whole

-- the tokens are a whole script: newlines, if any, then its commands
abbrev pub IsProgram : List Token → Script → Type 0
IsProgram ts script = (rest : List Token) × SkipsNewlines ts rest × IsWhole rest script
