-- What is read without a fault has these tokens by the grammar.
use Rattle.std.proofs.Common.{◌≡◌, ◌≢◌, ◌⊎◌, ℕ, suc, Bool, true, false, ◌&&◌, ◌==◌, List, [], ◌∷◌, ◌++◌, Ok, refl}
use Rattle.std.proofs.Common.{sym, ap, ◌∙◌, subst, append_assoc, inl, inr}
use Rattle.std.proofs.lemmas.List.{append-nil}
use Rattle.std.proofs.lemmas.Bool.{cases_Bool, cases_eq, eqb-true, ne_eqb, or_cases, or_parts, and_left, and_right}
use Rattle.redo_script.specs.declared.lexer.Mode.{Mode}
use Rattle.redo_script.specs.declared.ast.Parameter.{Parameter}
use Rattle.redo_script.specs.declared.ast.Parameter.TheVariants.{One, Two, Three}
use Rattle.redo_script.specs.Bytes.{is_digit, is_plain, is_blank, begins_name, continues_name}
use Rattle.redo_script.specs.Syntax.{byte, quoted, bare, named_quoted, named_bare, Word, Symbol}
use Rattle.redo_script.specs.Tokens.{Token, word, semicolon, newline, redirect, IsNotBefore, begins_word, ends_word}
use Rattle.redo_script.specs.Tokens.{is_escaped, line_after, digits_then}
use Rattle.redo_grammar.specs.Tokens.{Names, one, two, three, IsGap, IsComment, IsWord, IsSingle, IsDouble, AreTokens}
use Rattle.redo_grammar.specs.Tokens.{numbers_redirection, nothing, blank, line_end, comment, separator, truncates}
use Rattle.redo_grammar.specs.Tokens.{appends, a_word, at_end, goes_on, at_newline, ends, plain, opens_single}
use Rattle.redo_grammar.specs.Tokens.{opens_double, parameter, closes, stands, closes_double, stands_double}
use Rattle.redo_grammar.specs.Tokens.{in_double, escapes, backslash, by_name, by_name_in_double, EndsName, ends_here}
use Rattle.redo_grammar.specs.Tokens.{one_more}
use Rattle.redo_script.specs.Reading.{Reader, next_byte, read_on, tokens_of, at_start, at_end as text_end}
use Rattle.redo_script.proofs.BitLemmas.{never, injected, not_same, and_true, and_false}
use Rattle.redo_grammar.proofs.ByteLemmas.{number_back, ill, name_begun, name_more, name_ended, quoted_name_ended}
use Rattle.redo_script.proofs.OneByteLemmas.{at, token_more, word_more, symbol_more, byte_more, word_begun, opened_at}
use Rattle.redo_script.specs.declared.lexer.Mode.TheVariants as modes
use Rattle.redo_script.proofs.OneByteLemmas
use Rattle.redo_grammar.proofs.ByteLemmas

-- From this place on the bytes have tokens by the grammar, and behind those so far they are ts.
record InGap (l : ℕ) (r : Reader) (bs : List ℕ) (ts : List Token) : Type 0 where
  more : List Token
  is : IsGap l bs more
  all : r.tokens ++ more ≡ ts

record InComment (l : ℕ) (r : Reader) (bs : List ℕ) (ts : List Token) : Type 0 where
  more : List Token
  is : IsComment l bs more
  all : r.tokens ++ more ≡ ts

record InWord (l : ℕ) (r : Reader) (bs : List ℕ) (ts : List Token) : Type 0 where
  w : Word
  p : Bool
  more : List Token
  is : IsWord l bs w p more
  number : (r.is_number && digits_then bs) ≡ false
  all : r.tokens ++ word r.word_line (r.is_plain && p) (r.word ++ w) ∷ more ≡ ts

-- the same within quotes, or behind $, with the $ in front
record InOpen (Is : Word → List Token → Type 0) (r : Reader) (ts : List Token) : Type 0 where
  w : Word
  more : List Token
  is : Is w more
  all : r.tokens ++ word r.word_line false (r.word ++ w) ∷ more ≡ ts

abbrev InDollar : ℕ → Reader → List ℕ → List Token → Type 0
InDollar l r bs = InOpen (λ w more. IsWord l (36 ∷ bs) w false more) r

abbrev InSingle : ℕ → Reader → List ℕ → List Token → Type 0
InSingle l r bs = InOpen (IsSingle l bs) r

abbrev InDouble : ℕ → Reader → List ℕ → List Token → Type 0
InDouble l r bs = InOpen (IsDouble l bs) r

-- the same in a name, which makes this symbol
record InNamed (symbol : List ℕ → Symbol) (Is : List ℕ → Word → List Token → Type 0) (r : Reader) (bs : List ℕ) (ts : List Token) : Type 0 where
  name : List ℕ
  rest : List ℕ
  w : Word
  more : List Token
  is_name : EndsName bs name rest
  is : Is rest w more
  all : r.tokens ++ word r.word_line false (r.word ++ symbol (r.name ++ name) ∷ w) ∷ more ≡ ts

abbrev InName : ℕ → Reader → List ℕ → List Token → Type 0
InName l = InNamed named_bare (λ rest w more. (p : Bool) × IsWord l rest w p more)

abbrev InQuotedName : ℕ → Reader → List ℕ → List Token → Type 0
InQuotedName l = InNamed named_quoted (IsDouble l)

abbrev After : Mode → ℕ → Reader → List ℕ → List Token → Type 0
After modes.Gap l r bs ts = InGap l r bs ts
After modes.Semicolon l r bs ts = IsNotBefore 59 bs × InGap l r bs ts
After modes.Redirect l r bs ts = InGap l r (62 ∷ bs) ts
After modes.Comment l r bs ts = InComment l r bs ts
After modes.Word l r bs ts = InWord l r bs ts
After modes.Dollar l r bs ts = InDollar l r bs ts
After modes.Name l r bs ts = InName l r bs ts
After modes.Single l r bs ts = InSingle l r bs ts
After modes.Double l r bs ts = InDouble l r bs ts
After modes.QuotedDollar l r bs ts = InDouble l r (36 ∷ bs) ts
After modes.QuotedName l r bs ts = InQuotedName l r bs ts
After modes.Escape l r bs ts = InDouble l r (92 ∷ bs) ts

-- within quotes and behind $ the word isn't plain bytes alone
abbrev seen : Mode → Reader → Reader
seen modes.Gap r = r
seen modes.Semicolon r = r
seen modes.Redirect r = r
seen modes.Comment r = r
seen modes.Word r = r
seen modes.Dollar r = ill r
seen modes.Name r = ill r
seen modes.Single r = ill r
seen modes.Double r = ill r
seen modes.QuotedDollar r = ill r
seen modes.QuotedName r = ill r
seen modes.Escape r = ill r

abbrev Found : List ℕ → Type 0
Found bs = (m : Mode) (l : ℕ) (r : Reader) (ts : List Token) → read_on (at m l (seen m r)) bs ≡ Ok ts → After m l r bs ts

token_in : (l : ℕ) (r : Reader) (t : Token) (bs cs : List ℕ) (k : ℕ) (ts : List Token) → InGap l (token_more r t) bs ts → ((more : List Token) → IsGap l bs more → IsGap k cs (t ∷ more)) → InGap k r cs ts
token_in l r t bs cs k ts g f = record { more = t ∷ g.more; is = f g.more g.is; all = sym (append_assoc r.tokens (t ∷ []) g.more) ∙ g.all }

-- symbols of the word, and then what is left of it
symbols_in : (r : Reader) (p : Bool) (u w : Word) (more ts : List Token) → r.tokens ++ word r.word_line p ((r.word ++ u) ++ w) ∷ more ≡ ts → r.tokens ++ word r.word_line p (r.word ++ (u ++ w)) ∷ more ≡ ts
symbols_in r p u w more ts h = ap (λ x. r.tokens ++ word r.word_line p x ∷ more) (sym (append_assoc r.word u w)) ∙ h

flag_in : (r : Reader) (w : Word) (more ts : List Token) → r.tokens ++ word r.word_line false (r.word ++ w) ∷ more ≡ ts → r.tokens ++ word r.word_line (r.is_plain && false) (r.word ++ w) ∷ more ≡ ts
flag_in r w more ts h = rw (and_false r.is_plain) h

at_once : Found []
unfolding read_on text_end
at_once modes.Gap l r ts h = record { more = []; is = nothing; all = append-nil r.tokens ∙ injected h }
at_once modes.Semicolon l r ts h = (tt, record { more = []; is = nothing; all = append-nil r.tokens ∙ injected h })
at_once modes.Redirect l r ts h = record { more = redirect l false ∷ []; is = truncates refl tt nothing; all = injected h }
at_once modes.Comment l r ts h = record { more = []; is = at_end; all = append-nil r.tokens ∙ injected h }
at_once modes.Word l r ts h = record { w = []; p = true; more = []; is = ends tt nothing; number = and_false r.is_number; all = rw (and_true r.is_plain, append-nil r.word) (injected h) }
at_once modes.Dollar l r ts h = never h
at_once modes.Name l r ts h = record { name = []; rest = []; w = []; more = []; is_name = ends_here tt; is = (true, ends tt nothing); all = rw (append-nil r.name) (injected h) }
at_once modes.Single l r ts h = never h
at_once modes.Double l r ts h = never h
at_once modes.QuotedDollar l r ts h = never h
at_once modes.QuotedName l r ts h = never h
at_once modes.Escape l r ts h = never h

-- a byte that a word goes on with
goes_in : (b : ℕ) (bs : List ℕ) → Found bs → begins_word b ≡ true → (l : ℕ) (r : Reader) (ts : List Token) → read_on (at modes.Word l r) (b ∷ bs) ≡ Ok ts → InWord l r (b ∷ bs) ts
unfolding read_on next_byte is_plain
goes_in b bs f e l r ts h = elim (cases_Bool (is_plain b)) [
  | inl here ↦
      let g = f modes.Word l (byte_more r b) ts (sym (OneByteLemmas.word_plain l r b bs here) ∙ h) in
      record {
        w = byte b ∷ g.w;
        p = g.p;
        more = g.more;
        is = plain here g.is;
        number = number_back r.is_number (is_digit b) _ (b == 62) g.number (not_same is_plain b 62 refl here);
        all = symbols_in r (r.is_plain && g.p) (byte b ∷ []) g.w g.more ts g.all;
      }
  | inr out ↦ elim (cases_eq b 39) [
    | inl is39 ↦
        let g = f modes.Single l (record r { opened = l }) ts (sym (OneByteLemmas.word_single l r b bs is39) ∙ h) in
        record { w = g.w; p = false; more = g.more; is = opens_single is39 g.is; number = rw is39 (and_false r.is_number); all = flag_in r g.w g.more ts g.all }
    | inr not39 ↦ elim (cases_eq b 34) [
      | inl is34 ↦
          let g = f modes.Double l (record r { opened = l }) ts (sym (OneByteLemmas.word_double l r b bs is34) ∙ h) in
          record { w = g.w; p = false; more = g.more; is = opens_double is34 g.is; number = rw is34 (and_false r.is_number); all = flag_in r g.w g.more ts g.all }
      | inr not34 ↦
          let is36 : b ≡ 36 = eqb-true b 36 (rw (out, ne_eqb b 39 not39, ne_eqb b 34 not34) at e) in
          let g = f modes.Dollar l (record r { opened = l }) ts (rw is36 at h) in
          record { w = g.w; p = false; more = g.more; is = subst (λ (x : ℕ). IsWord l (x ∷ bs) g.w false g.more) (sym is36) g.is; number = rw is36 (and_false r.is_number); all = flag_in r g.w g.more ts g.all }
    ]
  ]
]

begins_number : (b : ℕ) (bs : List ℕ) → digits_then (b ∷ bs) ≡ false → numbers_redirection (b ∷ bs) ≡ false
begins_number b bs h = elim (cases_Bool (is_digit b)) [
  | inl e ↦ rw e (rw e at h)
  | inr e ↦ rw e refl
]

gap_in : (b : ℕ) (bs : List ℕ) → Found bs → (l : ℕ) (r : Reader) (ts : List Token) → read_on (at modes.Gap l r) (b ∷ bs) ≡ Ok ts → InGap l r (b ∷ bs) ts
unfolding read_on next_byte
gap_in b bs f l r ts h = elim (cases_Bool (is_blank b)) [
  | inl e ↦
      let g = f modes.Gap l r ts (sym (OneByteLemmas.gap_blank l r b bs e) ∙ h) in
      record { more = g.more; is = blank e g.is; all = g.all }
  | inr e0 ↦ elim (cases_eq b 10) [
    | inl e ↦ token_in (suc l) r (newline l) bs (b ∷ bs) l ts (f modes.Gap (suc l) (token_more r (newline l)) ts (sym (OneByteLemmas.gap_line l r b bs e) ∙ h)) (λ more g. line_end e g)
    | inr e10 ↦ elim (cases_eq b 59) [
      | inl e ↦
          let g = f modes.Semicolon l (token_more r (semicolon l)) ts (sym (OneByteLemmas.gap_semicolon l r b bs e) ∙ h) in
          token_in l r (semicolon l) bs (b ∷ bs) l ts g.1 (λ more k. separator e g.0 k)
      | inr e59 ↦ elim (cases_eq b 62) [
        | inl e ↦ subst (λ (x : ℕ). InGap l r (x ∷ bs) ts) (sym e) (f modes.Redirect l r ts (rw e at h))
        | inr e62 ↦ elim (cases_eq b 35) [
          | inl e ↦
              let g = f modes.Comment l r ts (sym (OneByteLemmas.gap_comment l r b bs e) ∙ h) in
              record { more = g.more; is = comment e g.is; all = g.all }
          | inr e35 ↦ elim (cases_Bool (begins_word b)) [
            | inl e ↦
                let g = goes_in b bs f e l (word_begun l r) ts (sym (OneByteLemmas.gap_word l r b bs e) ∙ h) in
                record { more = word l g.p g.w ∷ g.more; is = a_word e (begins_number b bs g.number) g.is; all = g.all }
            | inr e ↦
                let p = or_parts _ (b == 36) e in
                let q = or_parts _ (b == 34) p.0 in
                let s = or_parts (is_plain b) (b == 39) q.0 in
                never (rw (e0, ne_eqb b 10 e10, ne_eqb b 59 e59, ne_eqb b 62 e62, ne_eqb b 35 e35, s.0, s.1, q.1, p.1) at h)
          ]
        ]
      ]
    ]
  ]
]

-- where a word ends, it isn't digits alone before >
number_in : (b : ℕ) (bs : List ℕ) (l : ℕ) (r : Reader) (ts : List Token) → ends_word b ≡ true → read_on (at modes.Word l r) (b ∷ bs) ≡ Ok ts → (r.is_number && digits_then (b ∷ bs)) ≡ false
unfolding read_on next_byte
number_in b bs l r ts e h =
    let other : (c : ℕ) → digits_then (c ∷ bs) ≡ false → (b == c) ≡ true → (r.is_number && digits_then (b ∷ bs)) ≡ false = λ c d t. rw (eqb-true b c t) (and_right r.is_number (digits_then (c ∷ bs)) d) in
    elim (or_cases _ (b == 62) e) [
      | inr t ↦ elim (cases_Bool r.is_number) [
        | inl n ↦ never (rw (eqb-true b 62 t, n) at h)
        | inr n ↦ and_left r.is_number _ n
      ]
      | inl e1 ↦ elim (or_cases _ (b == 59) e1) [
        | inr t ↦ other 59 refl t
        | inl e2 ↦ elim (or_cases _ (b == 10) e2) [
          | inr t ↦ other 10 refl t
          | inl e3 ↦ elim (or_cases (b == 32) (b == 9) e3) [ inl t ↦ other 32 refl t | inr t ↦ other 9 refl t ]
        ]
      ]
    ]

word_in : (b : ℕ) (bs : List ℕ) → Found bs → (l : ℕ) (r : Reader) (ts : List Token) → read_on (at modes.Word l r) (b ∷ bs) ≡ Ok ts → InWord l r (b ∷ bs) ts
unfolding read_on next_byte
word_in b bs f l r ts h = elim (cases_Bool (ends_word b)) [
  | inl e ↦
      let n : (r.is_number && digits_then (b ∷ bs)) ≡ false = number_in b bs l r ts e h in
      let g = gap_in b bs f l (word_more r) ts (sym (OneByteLemmas.word_ends l r (b ∷ bs) e n) ∙ h) in
      record {
        w = [];
        p = true;
        more = g.more;
        is = ends e g.is;
        number = n;
        all = rw (and_true r.is_plain, append-nil r.word) (sym (append_assoc r.tokens (word r.word_line r.is_plain r.word ∷ []) g.more) ∙ g.all);
      }
  | inr out ↦ elim (cases_Bool (begins_word b)) [
    | inl e ↦ goes_in b bs f e l r ts h
    | inr e ↦
        let a = or_parts _ (b == 62) out in
        let p = or_parts _ (b == 36) e in
        let q = or_parts _ (b == 34) p.0 in
        let s = or_parts (is_plain b) (b == 39) q.0 in
        never (rw (a.1, a.0, s.0, s.1, q.1, p.1) at h)
  ]
]

-- one more byte of a name
name_in : {symbol : List ℕ → Symbol} {Is : List ℕ → Word → List Token → Type 0} {r : Reader} {bs : List ℕ} (b : ℕ) {ts : List Token} → continues_name b ≡ true → InNamed symbol Is (name_more r (b ∷ [])) bs ts → InNamed symbol Is r (b ∷ bs) ts
name_in {symbol} {r} b e g = record {
  name = b ∷ g.name;
  rest = g.rest;
  w = g.w;
  more = g.more;
  is_name = one_more e g.is_name;
  is = g.is;
  all = ap (λ (n : List ℕ). r.tokens ++ word r.word_line false (r.word ++ symbol n ∷ g.w) ∷ g.more) (sym (append_assoc r.name (b ∷ []) g.name)) ∙ g.all;
}

-- which parameter a byte names
named : (b : ℕ) → ((k : Parameter) × Names b k) ⊎ ((b ≢ 49) × (b ≢ 50) × (b ≢ 51))
named b = elim (cases_eq b 49) [
  | inl e ↦ inl (One, subst (λ (x : ℕ). Names x One) (sym e) one)
  | inr n1 ↦ elim (cases_eq b 50) [
    | inl e ↦ inl (Two, subst (λ (x : ℕ). Names x Two) (sym e) two)
    | inr n2 ↦ elim (cases_eq b 51) [ inl e ↦ inl (Three, subst (λ (x : ℕ). Names x Three) (sym e) three) | inr n3 ↦ inr (n1, n2, n3) ]
  ]
]

single_in : (b : ℕ) (bs : List ℕ) → Found bs → (l : ℕ) (r : Reader) (ts : List Token) → read_on (at modes.Single l (ill r)) (b ∷ bs) ≡ Ok ts → InSingle l r (b ∷ bs) ts
single_in b bs f l r ts h = elim (cases_eq b 39) [
  | inl e ↦
      let g = f modes.Word l (ill r) ts (sym (OneByteLemmas.single_closes l (ill r) b bs e) ∙ h) in
      record { w = g.w; more = g.more; is = closes e g.is; all = g.all }
  | inr n ↦
      let g = f modes.Single (line_after l b) (symbol_more r (byte b)) ts (sym (OneByteLemmas.single_byte l (ill r) b bs n) ∙ h) in
      record { w = byte b ∷ g.w; more = g.more; is = stands n g.is; all = symbols_in r false (byte b ∷ []) g.w g.more ts g.all }
]

double_in : (b : ℕ) (bs : List ℕ) → Found bs → (l : ℕ) (r : Reader) (ts : List Token) → read_on (at modes.Double l (ill r)) (b ∷ bs) ≡ Ok ts → InDouble l r (b ∷ bs) ts
unfolding read_on next_byte
double_in b bs f l r ts h = elim (cases_eq b 34) [
  | inl e ↦
      let g = f modes.Word l (ill r) ts (sym (OneByteLemmas.double_closes l (ill r) b bs e) ∙ h) in
      record { w = g.w; more = g.more; is = closes_double e g.is; all = g.all }
  | inr n34 ↦ elim (cases_eq b 36) [
    | inl e ↦ subst (λ (x : ℕ). InDouble l r (x ∷ bs) ts) (sym e) (f modes.QuotedDollar l r ts (sym (OneByteLemmas.double_dollar l (ill r) b bs e) ∙ h))
    | inr n36 ↦ elim (cases_eq b 92) [
      | inl e ↦ subst (λ (x : ℕ). InDouble l r (x ∷ bs) ts) (sym e) (f modes.Escape l r ts (rw e at h))
      | inr n92 ↦ elim (cases_eq b 96) [
        | inl e ↦ never (rw e at h)
        | inr n96 ↦
            let n : is_escaped b ≡ false = rw (ne_eqb b 36 n36, ne_eqb b 96 n96, ne_eqb b 34 n34, ne_eqb b 92 n92) refl in
            let g = f modes.Double (line_after l b) (symbol_more r (byte b)) ts (sym (OneByteLemmas.double_byte l (ill r) b bs n) ∙ h) in
            record { w = byte b ∷ g.w; more = g.more; is = stands_double n g.is; all = symbols_in r false (byte b ∷ []) g.w g.more ts g.all }
      ]
    ]
  ]
]

redirect_in : (b : ℕ) (bs : List ℕ) → Found bs → (l : ℕ) (r : Reader) (ts : List Token) → read_on (at modes.Redirect l r) (b ∷ bs) ≡ Ok ts → InGap l r (62 ∷ b ∷ bs) ts
unfolding read_on next_byte
redirect_in b bs f l r ts h = elim (cases_eq b 62) [
  | inl e ↦ token_in l r (redirect l true) bs (62 ∷ b ∷ bs) l ts (f modes.Gap l (token_more r (redirect l true)) ts (rw e at h)) (λ more g. appends refl e g)
  | inr n ↦ token_in l r (redirect l false) (b ∷ bs) (62 ∷ b ∷ bs) l ts (gap_in b bs f l (token_more r (redirect l false)) ts (sym (ByteLemmas.redirect_gap l r (b ∷ bs) n) ∙ h)) (λ more g. truncates refl n g)
]

comment_in : (b : ℕ) (bs : List ℕ) → Found bs → (l : ℕ) (r : Reader) (ts : List Token) → read_on (at modes.Comment l r) (b ∷ bs) ≡ Ok ts → InComment l r (b ∷ bs) ts
comment_in b bs f l r ts h = elim (cases_eq b 10) [
  | inl e ↦
      let g = gap_in b bs f l r ts (sym (OneByteLemmas.comment_gap l r b bs e) ∙ h) in
      record { more = g.more; is = at_newline e g.is; all = g.all }
  | inr n ↦
      let g = f modes.Comment l r ts (sym (OneByteLemmas.comment_on l r b bs n) ∙ h) in
      record { more = g.more; is = goes_on n g.is; all = g.all }
]

escape_in : (b : ℕ) (bs : List ℕ) → Found bs → (l : ℕ) (r : Reader) (ts : List Token) → read_on (at modes.Escape l (ill r)) (b ∷ bs) ≡ Ok ts → InDouble l r (92 ∷ b ∷ bs) ts
unfolding read_on next_byte
escape_in b bs f l r ts h = elim (cases_Bool (is_escaped b)) [
  | inl e ↦
      let g = f modes.Double l (symbol_more r (byte b)) ts (rw (not_same is_escaped b 10 refl e, e) at h) in
      record { w = byte b ∷ g.w; more = g.more; is = escapes refl e g.is; all = symbols_in r false (byte b ∷ []) g.w g.more ts g.all }
  | inr e ↦ elim (cases_eq b 10) [
    | inl is10 ↦ never (rw is10 at h)
    | inr n ↦
        let g = f modes.Double l (symbol_more (symbol_more r (byte 92)) (byte b)) ts (rw (ne_eqb b 10 n, e) at h) in
        record {
          w = byte 92 ∷ byte b ∷ g.w;
          more = g.more;
          is = backslash refl e n g.is;
          all = symbols_in r false (byte 92 ∷ []) (byte b ∷ g.w) g.more ts (symbols_in (symbol_more r (byte 92)) false (byte b ∷ []) g.w g.more ts g.all);
        }
  ]
]

dollar_in : (b : ℕ) (bs : List ℕ) → Found bs → (l : ℕ) (r : Reader) (ts : List Token) → read_on (at modes.Dollar l (ill r)) (b ∷ bs) ≡ Ok ts → InDollar l r (b ∷ bs) ts
unfolding read_on next_byte
dollar_in b bs f l r ts h = elim (named b) [
  | inl k ↦
      let g = f modes.Word l (symbol_more (ill r) (bare k.0)) ts (sym (ByteLemmas.dollar_named l (ill r) b k.0 bs k.1) ∙ h) in
      record { w = bare k.0 ∷ g.w; more = g.more; is = parameter refl k.1 g.is; all = symbols_in r false (bare k.0 ∷ []) g.w g.more ts g.all }
  | inr n ↦ elim (cases_Bool (begins_name b)) [
    | inl e ↦
        let g = f modes.Name l (name_begun r b) ts (rw e at h) in
        record { w = named_bare (b ∷ g.name) ∷ g.w; more = g.more; is = by_name refl e g.is_name g.is.1; all = g.all }
    | inr e ↦ never (rw (e, ne_eqb b 49 n.0, ne_eqb b 50 n.1, ne_eqb b 51 n.2) at h)
  ]
]

name_goes : (b : ℕ) (bs : List ℕ) → Found bs → (l : ℕ) (r : Reader) (ts : List Token) → read_on (at modes.Name l (ill r)) (b ∷ bs) ≡ Ok ts → InName l r (b ∷ bs) ts
unfolding read_on next_byte
name_goes b bs f l r ts h = elim (cases_Bool (continues_name b)) [
  | inl e ↦ name_in b e (f modes.Name l (name_more r (b ∷ [])) ts (rw e at h))
  | inr e ↦
      let g = word_in b bs f l (name_ended (ill r)) ts (rw e at h) in
      record { name = []; rest = b ∷ bs; w = g.w; more = g.more; is_name = ends_here e; is = (g.p, g.is); all = rw (append-nil r.name) (symbols_in r false (named_bare r.name ∷ []) g.w g.more ts g.all) }
]

quoted_name_goes : (b : ℕ) (bs : List ℕ) → Found bs → (l : ℕ) (r : Reader) (ts : List Token) → read_on (at modes.QuotedName l (ill r)) (b ∷ bs) ≡ Ok ts → InQuotedName l r (b ∷ bs) ts
unfolding read_on next_byte
quoted_name_goes b bs f l r ts h = elim (cases_Bool (continues_name b)) [
  | inl e ↦ name_in b e (f modes.QuotedName l (name_more r (b ∷ [])) ts (rw e at h))
  | inr e ↦
      let g = double_in b bs f l (quoted_name_ended r) ts (rw e at h) in
      record { name = []; rest = b ∷ bs; w = g.w; more = g.more; is_name = ends_here e; is = g.is; all = rw (append-nil r.name) (symbols_in r false (named_quoted r.name ∷ []) g.w g.more ts g.all) }
]

quoted_dollar_in : (b : ℕ) (bs : List ℕ) → Found bs → (l : ℕ) (r : Reader) (ts : List Token) → read_on (at modes.QuotedDollar l (ill r)) (b ∷ bs) ≡ Ok ts → InDouble l r (36 ∷ b ∷ bs) ts
unfolding read_on next_byte
quoted_dollar_in b bs f l r ts h = elim (named b) [
  | inl k ↦
      let g = f modes.Double l (symbol_more r (quoted k.0)) ts (sym (ByteLemmas.quoted_dollar_named l (ill r) b k.0 bs k.1) ∙ h) in
      record { w = quoted k.0 ∷ g.w; more = g.more; is = in_double refl k.1 g.is; all = symbols_in r false (quoted k.0 ∷ []) g.w g.more ts g.all }
  | inr n ↦ elim (cases_Bool (begins_name b)) [
    | inl e ↦
        let g = f modes.QuotedName l (name_begun r b) ts (rw e at h) in
        record { w = named_quoted (b ∷ g.name) ∷ g.w; more = g.more; is = by_name_in_double refl e g.is_name g.is; all = g.all }
    | inr e ↦ never (rw (e, ne_eqb b 49 n.0, ne_eqb b 50 n.1, ne_eqb b 51 n.2) at h)
  ]
]

semicolon_in : (b : ℕ) (bs : List ℕ) → Found bs → (l : ℕ) (r : Reader) (ts : List Token) → read_on (at modes.Semicolon l r) (b ∷ bs) ≡ Ok ts → (b ≢ 59) × InGap l r (b ∷ bs) ts
unfolding read_on next_byte
semicolon_in b bs f l r ts h = elim (cases_eq b 59) [
  | inl e ↦ never (rw e at h)
  | inr n ↦ (n, gap_in b bs f l r ts (sym (OneByteLemmas.semicolon_gap l r (b ∷ bs) n) ∙ h))
]

one_byte : (b : ℕ) (bs : List ℕ) → Found bs → Found (b ∷ bs)
one_byte b bs f modes.Gap = gap_in b bs f
one_byte b bs f modes.Semicolon = semicolon_in b bs f
one_byte b bs f modes.Redirect = redirect_in b bs f
one_byte b bs f modes.Comment = comment_in b bs f
one_byte b bs f modes.Word = word_in b bs f
one_byte b bs f modes.Dollar = dollar_in b bs f
one_byte b bs f modes.Name = name_goes b bs f
one_byte b bs f modes.Single = single_in b bs f
one_byte b bs f modes.Double = double_in b bs f
one_byte b bs f modes.QuotedDollar = quoted_dollar_in b bs f
one_byte b bs f modes.QuotedName = quoted_name_goes b bs f
one_byte b bs f modes.Escape = escape_in b bs f

found : (bs : List ℕ) → Found bs
found [] = at_once
found (b ∷ bs) = one_byte b bs (found bs)

pub found_tokens : (text : List ℕ) (ts : List Token) → tokens_of text ≡ Ok ts → AreTokens text ts
unfolding tokens_of
found_tokens text ts h =
    let g = found text modes.Gap 1 at_start ts h in
    subst (λ (x : List Token). IsGap 1 text x) g.all g.is
