-- What one byte does to reading, by the place where it stands.
use Rattle.std.proofs.Common.{◌≡◌, ◌≢◌, ℕ, suc, Bool, true, false, ◌&&◌, ◌||◌, ◌==◌, List, [], ◌∷◌, ◌++◌, Ok, Some}
use Rattle.std.proofs.Common.{refl, sym, ap, add-one, inl, inr}
use Rattle.std.specs.Prelude.{codes}
use Rattle.std.proofs.lemmas.List.{append-nil}
use Rattle.std.proofs.lemmas.Bool.{ne_eqb, cases_eq}
use Rattle.redo_script.specs.declared.lexer.Mode.{Mode}
use Rattle.redo_script.specs.declared.ast.Parameter.{Parameter}
use Rattle.redo_script.specs.Bytes.{is_digit, is_letter, is_among, is_plain, is_blank, begins_name}
use Rattle.redo_script.specs.Syntax.{Symbol, byte, quoted}
use Rattle.redo_script.specs.Tokens.{Token, word, semicolon, newline, begins_word, is_escaped, line_after}
use Rattle.redo_script.specs.Tokens.{digits_then, AtWordEnd, IsNotBefore}
use Rattle.redo_script.specs.Reading.{Reader, next_byte, at_end, read_on, parameter_named}
use Rattle.redo_script.proofs.BitLemmas.{not_same, not_in, no_number}
use Rattle.redo_script.specs.declared.lexer.Mode.TheVariants as modes

-- reading at this mode and line
abbrev pub at : Mode → ℕ → Reader → Reader
at m l r = record r { mode = m; line = l }

-- one token more, and no word
abbrev pub token_more : Reader → Token → Reader
token_more r t = record r { tokens = r.tokens ++ t ∷ [] }

abbrev pub word_more : Reader → Reader
word_more r = record r { tokens = r.tokens ++ word r.word_line r.is_plain r.word ∷ []; word = [] }

abbrev pub symbol_more : Reader → Symbol → Reader
symbol_more r s = record r { word = r.word ++ s ∷ [] }

abbrev pub byte_more : Reader → ℕ → Reader
byte_more r b = record r { is_number = r.is_number && is_digit b; word = r.word ++ byte b ∷ [] }

abbrev pub word_begun : ℕ → Reader → Reader
word_begun l r = record r { word_line = l; is_plain = true; is_number = true; word = [] }

abbrev pub opened_at : ℕ → Reader → Reader
opened_at l r = record r { opened = l; is_plain = false; is_number = false }

pub gap_end : (l : ℕ) (r : Reader) → read_on (at modes.Gap l r) [] ≡ Ok (r.tokens ++ [])
unfolding read_on at_end
gap_end l r = ap (λ ts. Ok ts) (sym (append-nil r.tokens))

pub comment_end : (l : ℕ) (r : Reader) → read_on (at modes.Comment l r) [] ≡ Ok (r.tokens ++ [])
unfolding read_on at_end
comment_end l r = ap (λ ts. Ok ts) (sym (append-nil r.tokens))

pub gap_blank : (l : ℕ) (r : Reader) (b : ℕ) (bs : List ℕ) → is_blank b ≡ true → read_on (at modes.Gap l r) (b ∷ bs) ≡ read_on (at modes.Gap l r) bs
unfolding read_on next_byte
gap_blank l r b bs e = rw e refl

pub gap_line : (l : ℕ) (r : Reader) (b : ℕ) (bs : List ℕ) → b ≡ 10 → read_on (at modes.Gap l r) (b ∷ bs) ≡ read_on (at modes.Gap (suc l) (token_more r (newline l))) bs
unfolding read_on next_byte
gap_line l r b bs e = rw (e, add-one l) refl

pub gap_semicolon : (l : ℕ) (r : Reader) (b : ℕ) (bs : List ℕ) → b ≡ 59 → read_on (at modes.Gap l r) (b ∷ bs) ≡ read_on (at modes.Semicolon l (token_more r (semicolon l))) bs
unfolding read_on next_byte
gap_semicolon l r b bs e = rw e refl

pub gap_comment : (l : ℕ) (r : Reader) (b : ℕ) (bs : List ℕ) → b ≡ 35 → read_on (at modes.Gap l r) (b ∷ bs) ≡ read_on (at modes.Comment l r) bs
unfolding read_on next_byte
gap_comment l r b bs e = rw e refl

pub gap_word : (l : ℕ) (r : Reader) (b : ℕ) (bs : List ℕ) → begins_word b ≡ true → read_on (at modes.Gap l r) (b ∷ bs) ≡ read_on (at modes.Word l (word_begun l r)) (b ∷ bs)
unfolding read_on next_byte is_plain
gap_word l r b bs e =
    let e32 : (b == 32) ≡ false = not_same begins_word b 32 refl e in
    let e9 : (b == 9) ≡ false = not_same begins_word b 9 refl e in
    let e10 : (b == 10) ≡ false = not_same begins_word b 10 refl e in
    let e59 : (b == 59) ≡ false = not_same begins_word b 59 refl e in
    let e62 : (b == 62) ≡ false = not_same begins_word b 62 refl e in
    let e35 : (b == 35) ≡ false = not_same begins_word b 35 refl e in
    rw (e32, e9, e10, e59, e62, e35) refl

pub semicolon_gap : (l : ℕ) (r : Reader) (bs : List ℕ) → IsNotBefore 59 bs → read_on (at modes.Semicolon l r) bs ≡ read_on (at modes.Gap l r) bs
unfolding read_on next_byte at_end
semicolon_gap l r [] n = refl
semicolon_gap l r (b ∷ bs) n = rw (ne_eqb b 59 n) refl

pub comment_on : (l : ℕ) (r : Reader) (b : ℕ) (bs : List ℕ) → b ≢ 10 → read_on (at modes.Comment l r) (b ∷ bs) ≡ read_on (at modes.Comment l r) bs
unfolding read_on next_byte
comment_on l r b bs n = rw (ne_eqb b 10 n) refl

pub comment_gap : (l : ℕ) (r : Reader) (b : ℕ) (bs : List ℕ) → b ≡ 10 → read_on (at modes.Comment l r) (b ∷ bs) ≡ read_on (at modes.Gap l r) (b ∷ bs)
unfolding read_on next_byte
comment_gap l r b bs e = rw e refl

pub word_ends : (l : ℕ) (r : Reader) (bs : List ℕ) → AtWordEnd bs → (r.is_number && digits_then bs) ≡ false → read_on (at modes.Word l r) bs ≡ read_on (at modes.Gap l (word_more r)) bs
unfolding read_on next_byte at_end
word_ends l r [] e n = refl
word_ends l r (b ∷ bs) e n = rw (no_number b bs r.is_number n, e) refl

abbrev out_of_plain : ℕ → Bool
out_of_plain b = is_letter b || is_digit b || is_among (codes "_-./+,:=@%!") b

not_plain : (c : ℕ) → out_of_plain c ≡ false → is_plain c ≡ false
unfolding is_plain
not_plain c e = e

pub word_plain : (l : ℕ) (r : Reader) (b : ℕ) (bs : List ℕ) → is_plain b ≡ true → read_on (at modes.Word l r) (b ∷ bs) ≡ read_on (at modes.Word l (byte_more r b)) bs
unfolding read_on next_byte
word_plain l r b bs e =
    let out : (c : ℕ) → is_plain c ≡ false → (b == c) ≡ false = λ c n. not_same is_plain b c n e in
    rw (out 62 (not_plain 62 refl), out 32 (not_plain 32 refl), out 9 (not_plain 9 refl), out 10 (not_plain 10 refl), out 59 (not_plain 59 refl), e) refl

pub word_single : (l : ℕ) (r : Reader) (b : ℕ) (bs : List ℕ) → b ≡ 39 → read_on (at modes.Word l r) (b ∷ bs) ≡ read_on (at modes.Single l (opened_at l r)) bs
unfolding read_on next_byte is_plain
word_single l r b bs e = rw e refl

pub word_double : (l : ℕ) (r : Reader) (b : ℕ) (bs : List ℕ) → b ≡ 34 → read_on (at modes.Word l r) (b ∷ bs) ≡ read_on (at modes.Double l (opened_at l r)) bs
unfolding read_on next_byte is_plain
word_double l r b bs e = rw e refl

-- a digit that names a parameter begins no name
digit_named : (c : ℕ) (k : Parameter) → parameter_named c ≡ Some k → begins_name c ≡ false
digit_named c k e = elim (cases_eq c 49) [
  | inl e1 ↦ rw e1 refl
  | inr n1 ↦ elim (cases_eq c 50) [
    | inl e2 ↦ rw e2 refl
    | inr n2 ↦ elim (cases_eq c 51) [ inl e3 ↦ rw e3 refl | inr n3 ↦ absurd (cc (rw (ne_eqb c 49 n1, ne_eqb c 50 n2, ne_eqb c 51 n3) at e)) ]
  ]
]

pub quoted_dollar_read : (l : ℕ) (r : Reader) (c : ℕ) (k : Parameter) (bs : List ℕ) → parameter_named c ≡ Some k → read_on (at modes.QuotedDollar l r) (c ∷ bs) ≡ read_on (at modes.Double l (symbol_more r (quoted k))) bs
unfolding read_on next_byte
quoted_dollar_read l r c k bs e = rw (digit_named c k e, e) refl

pub single_closes : (l : ℕ) (r : Reader) (b : ℕ) (bs : List ℕ) → b ≡ 39 → read_on (at modes.Single l r) (b ∷ bs) ≡ read_on (at modes.Word l r) bs
unfolding read_on next_byte
single_closes l r b bs e = rw e refl

pub single_byte : (l : ℕ) (r : Reader) (b : ℕ) (bs : List ℕ) → b ≢ 39 → read_on (at modes.Single l r) (b ∷ bs) ≡ read_on (at modes.Single (line_after l b) (symbol_more r (byte b))) bs
unfolding read_on next_byte
single_byte l r b bs n = rw (ne_eqb b 39 n) refl

pub double_closes : (l : ℕ) (r : Reader) (b : ℕ) (bs : List ℕ) → b ≡ 34 → read_on (at modes.Double l r) (b ∷ bs) ≡ read_on (at modes.Word l r) bs
unfolding read_on next_byte
double_closes l r b bs e = rw e refl

pub double_byte : (l : ℕ) (r : Reader) (b : ℕ) (bs : List ℕ) → is_escaped b ≡ false → read_on (at modes.Double l r) (b ∷ bs) ≡ read_on (at modes.Double (line_after l b) (symbol_more r (byte b))) bs
unfolding read_on next_byte
double_byte l r b bs n =
    let out : (c : ℕ) → is_escaped c ≡ true → (b == c) ≡ false = λ c t. not_in is_escaped b c t n in
    rw (out 34 refl, out 36 refl, out 92 refl, out 96 refl) refl

pub double_dollar : (l : ℕ) (r : Reader) (b : ℕ) (bs : List ℕ) → b ≡ 36 → read_on (at modes.Double l r) (b ∷ bs) ≡ read_on (at modes.QuotedDollar l r) bs
unfolding read_on next_byte
double_dollar l r b bs e = rw e refl
