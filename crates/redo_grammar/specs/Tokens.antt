-- The tokens of a text, as a relation by cases on its bytes.
use Rattle.std.specs.Prelude.{◌≡◌, ◌≢◌, ℕ, suc, Bool, true, false, if◌then◌else◌, List, [], ◌∷◌}
use Rattle.redo_script.specs.declared.ast.Parameter.{Parameter}
use Rattle.redo_script.specs.declared.ast.Parameter.TheVariants.{One, Two, Three}
use Rattle.redo_script.specs.Bytes.{is_digit, is_plain, is_blank, begins_name, continues_name}
use Rattle.redo_script.specs.Syntax.{byte, quoted, bare, named_quoted, named_bare, Word}
use Rattle.redo_script.specs.Tokens.{AtWordEnd, IsNotBefore, Token, begins_word, digits_then, is_escaped, line_after}
use Rattle.redo_script.specs.Tokens.{newline, redirect, semicolon, word}
use Rattle.redo_script.specs.Bytes as bytes

-- the parameter that a digit names
pub data Names : ℕ → Parameter → Type 0 where
  one : Names 49 One
  two : Names 50 Two
  three : Names 51 Three

-- a name ends here: at a byte that no name continues with, or at the end of the text
abbrev pub AtNameEnd : List ℕ → Type 0
AtNameEnd [] = Unit {0}
AtNameEnd (b ∷ bs) = continues_name b ≡ false

-- The bytes are the rest of a name, up to its end, followed by other bytes.
pub data EndsName : List ℕ → List ℕ → List ℕ → Type 0 where
  ends_here : {bs : List ℕ} → AtNameEnd bs → EndsName bs [] bs
  one_more : {b : ℕ} {bs name rest : List ℕ} →
      continues_name b ≡ true → EndsName bs name rest → EndsName (b ∷ bs) (b ∷ name) rest

-- one or more digits, then `>`
abbrev pub numbers_redirection : List ℕ → Bool
numbers_redirection [] = false
numbers_redirection (b ∷ bs) = if is_digit b then digits_then bs else false

mutual
  -- From here on, between words on this line, the bytes read as these tokens.
  pub data IsGap : ℕ → List ℕ → List Token → Type 0 where
    nothing : {l : ℕ} → IsGap l [] []
    blank : {l b : ℕ} {bs : List ℕ} {ts : List Token} →
        is_blank b ≡ true → IsGap l bs ts → IsGap l (b ∷ bs) ts
    line_end : {l b : ℕ} {bs : List ℕ} {ts : List Token} →
        b ≡ bytes.newline → IsGap (suc l) bs ts → IsGap l (b ∷ bs) (newline l ∷ ts)
    comment : {l b : ℕ} {bs : List ℕ} {ts : List Token} →
        b ≡ bytes.hash → IsComment l bs ts → IsGap l (b ∷ bs) ts
    separator : {l b : ℕ} {bs : List ℕ} {ts : List Token} →
        b ≡ bytes.semicolon → IsNotBefore bytes.semicolon bs → IsGap l bs ts → IsGap l (b ∷ bs) (semicolon l ∷ ts)
    truncates : {l b : ℕ} {bs : List ℕ} {ts : List Token} →
        b ≡ bytes.greater → IsNotBefore bytes.greater bs → IsGap l bs ts → IsGap l (b ∷ bs) (redirect l false ∷ ts)
    appends : {l b c : ℕ} {bs : List ℕ} {ts : List Token} →
        b ≡ bytes.greater → c ≡ bytes.greater → IsGap l bs ts → IsGap l (b ∷ c ∷ bs) (redirect l true ∷ ts)
    a_word : {l b : ℕ} {bs : List ℕ} {w : Word} {p : Bool} {ts : List Token} →
        begins_word b ≡ true → numbers_redirection (b ∷ bs) ≡ false → IsWord l (b ∷ bs) w p ts →
        IsGap l (b ∷ bs) (word l p w ∷ ts)

  -- A comment extends to the end of its line, and the bytes then read as these tokens.
  pub data IsComment : ℕ → List ℕ → List Token → Type 0 where
    at_end : {l : ℕ} → IsComment l [] []
    goes_on : {l b : ℕ} {bs : List ℕ} {ts : List Token} →
        b ≢ bytes.newline → IsComment l bs ts → IsComment l (b ∷ bs) ts
    at_newline : {l b : ℕ} {bs : List ℕ} {ts : List Token} →
        b ≡ bytes.newline → IsGap l (b ∷ bs) ts → IsComment l (b ∷ bs) ts

  -- The bytes go on with the rest of a word, in plain bytes only or not, and then read as these tokens.
  pub data IsWord : ℕ → List ℕ → Word → Bool → List Token → Type 0 where
    ends : {l : ℕ} {bs : List ℕ} {ts : List Token} →
        AtWordEnd bs → IsGap l bs ts → IsWord l bs [] true ts
    plain : {l b : ℕ} {bs : List ℕ} {w : Word} {p : Bool} {ts : List Token} →
        is_plain b ≡ true → IsWord l bs w p ts → IsWord l (b ∷ bs) (byte b ∷ w) p ts
    opens_single : {l b : ℕ} {bs : List ℕ} {w : Word} {ts : List Token} →
        b ≡ bytes.single_quote → IsSingle l bs w ts → IsWord l (b ∷ bs) w false ts
    opens_double : {l b : ℕ} {bs : List ℕ} {w : Word} {ts : List Token} →
        b ≡ bytes.double_quote → IsDouble l bs w ts → IsWord l (b ∷ bs) w false ts
    parameter : {l b c : ℕ} {k : Parameter} {bs : List ℕ} {w : Word} {p : Bool} {ts : List Token} →
        b ≡ bytes.dollar → Names c k → IsWord l bs w p ts → IsWord l (b ∷ c ∷ bs) (bare k ∷ w) false ts
    by_name : {l b c : ℕ} {bs name rest : List ℕ} {w : Word} {p : Bool} {ts : List Token} →
        b ≡ bytes.dollar → begins_name c ≡ true → EndsName bs name rest → IsWord l rest w p ts →
        IsWord l (b ∷ c ∷ bs) (named_bare (c ∷ name) ∷ w) false ts

  -- The bytes go on inside single quotes, where every other byte is literal, and then with the rest of the word.
  pub data IsSingle : ℕ → List ℕ → Word → List Token → Type 0 where
    closes : {l b : ℕ} {bs : List ℕ} {w : Word} {p : Bool} {ts : List Token} →
        b ≡ bytes.single_quote → IsWord l bs w p ts → IsSingle l (b ∷ bs) w ts
    stands : {l b : ℕ} {bs : List ℕ} {w : Word} {ts : List Token} →
        b ≢ bytes.single_quote → IsSingle (line_after l b) bs w ts → IsSingle l (b ∷ bs) (byte b ∷ w) ts

  -- The bytes go on inside double quotes, and then with the rest of the word. A backslash is literal before a byte
  -- to which it gives no meaning; before a newline it isn't allowed.
  pub data IsDouble : ℕ → List ℕ → Word → List Token → Type 0 where
    closes_double : {l b : ℕ} {bs : List ℕ} {w : Word} {p : Bool} {ts : List Token} →
        b ≡ bytes.double_quote → IsWord l bs w p ts → IsDouble l (b ∷ bs) w ts
    stands_double : {l b : ℕ} {bs : List ℕ} {w : Word} {ts : List Token} →
        is_escaped b ≡ false → IsDouble (line_after l b) bs w ts → IsDouble l (b ∷ bs) (byte b ∷ w) ts
    in_double : {l b c : ℕ} {k : Parameter} {bs : List ℕ} {w : Word} {ts : List Token} →
        b ≡ bytes.dollar → Names c k → IsDouble l bs w ts → IsDouble l (b ∷ c ∷ bs) (quoted k ∷ w) ts
    by_name_in_double : {l b c : ℕ} {bs name rest : List ℕ} {w : Word} {ts : List Token} →
        b ≡ bytes.dollar → begins_name c ≡ true → EndsName bs name rest → IsDouble l rest w ts →
        IsDouble l (b ∷ c ∷ bs) (named_quoted (c ∷ name) ∷ w) ts
    escapes : {l b c : ℕ} {bs : List ℕ} {w : Word} {ts : List Token} →
        b ≡ bytes.backslash → is_escaped c ≡ true → IsDouble l bs w ts → IsDouble l (b ∷ c ∷ bs) (byte c ∷ w) ts
    backslash : {l b c : ℕ} {bs : List ℕ} {w : Word} {ts : List Token} →
        b ≡ bytes.backslash → is_escaped c ≡ false → c ≢ bytes.newline → IsDouble l bs w ts →
        IsDouble l (b ∷ c ∷ bs) (byte b ∷ byte c ∷ w) ts

-- the tokens of a whole text
abbrev pub AreTokens : List ℕ → List Token → Type 0
AreTokens text ts = IsGap 1 text ts
