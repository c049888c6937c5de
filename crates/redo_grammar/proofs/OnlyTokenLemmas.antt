-- What has tokens by the grammar is read, as these tokens.
use Rattle.std.proofs.Common.{◌≡◌, ℕ, Bool, true, false, ◌&&◌, ◌==◌, if◌then◌else◌, List, [], ◌∷◌, ◌++◌, Result, Ok}
use Rattle.std.proofs.Common.{refl, ap, ◌∙◌, append_assoc}
use Rattle.std.proofs.lemmas.Bool.{ne_eqb}
use Rattle.std.proofs.lemmas.List.{append-nil}
use Rattle.redo_script.specs.declared.fault.ScriptFault.{ScriptFault}
use Rattle.redo_script.specs.Syntax.{byte, quoted, bare, named_quoted, named_bare, Word}
use Rattle.redo_script.specs.Tokens.{Token, word, semicolon, newline, redirect, digits_then, begins_word, is_escaped}
use Rattle.redo_grammar.specs.Tokens.{IsGap, IsComment, IsWord, IsSingle, IsDouble, AreTokens, numbers_redirection}
use Rattle.redo_grammar.specs.Tokens.{nothing, blank, line_end, comment, separator, truncates, appends, a_word}
use Rattle.redo_grammar.specs.Tokens.{at_end, goes_on, at_newline, ends, plain, opens_single, opens_double, parameter}
use Rattle.redo_grammar.specs.Tokens.{closes, stands, closes_double, stands_double, in_double, escapes, backslash}
use Rattle.redo_grammar.specs.Tokens.{by_name, by_name_in_double}
use Rattle.redo_script.specs.Reading.{Reader, next_byte, read_on, tokens_of, at_end as text_end}
use Rattle.redo_script.proofs.BitLemmas.{and_true, and_false, not_same}
use Rattle.redo_grammar.proofs.ByteLemmas.{number_on, ill}
use Rattle.redo_script.specs.Bytes.{is_digit, is_plain}
use Rattle.redo_script.proofs.OneByteLemmas.{at, token_more}
use Rattle.redo_script.specs.declared.lexer.Mode.TheVariants as modes
use Rattle.redo_script.proofs.OneByteLemmas
use Rattle.redo_grammar.proofs.ByteLemmas

-- the tokens so far, a word that goes on with w, and then ts
abbrev pub spelled : Reader → Bool → Word → List Token → List Token
spelled r p w ts = r.tokens ++ word r.word_line (r.is_plain && p) (r.word ++ w) ∷ ts

abbrev Gives : Reader → List ℕ → List Token → Type 0
Gives r bs ts = read_on r bs ≡ Ok ts

more_tokens : {v : Result (List Token) ScriptFault} (x y z : List Token) → v ≡ Ok ((x ++ y) ++ z) → v ≡ Ok (x ++ (y ++ z))
more_tokens x y z h = h ∙ ap (λ u. Ok u) (append_assoc x y z)

more_symbols : {v : Result (List Token) ScriptFault} (r : Reader) (p : Bool) (u w : Word) (ts : List Token) → v ≡ Ok (r.tokens ++ word r.word_line p ((r.word ++ u) ++ w) ∷ ts) → v ≡ Ok (r.tokens ++ word r.word_line p (r.word ++ (u ++ w)) ∷ ts)
more_symbols r p u w ts h = h ∙ ap (λ x. Ok (r.tokens ++ word r.word_line p x ∷ ts)) (append_assoc r.word u w)

no_symbols : {v : Result (List Token) ScriptFault} (r : Reader) (ts : List Token) → v ≡ Ok (r.tokens ++ word r.word_line r.is_plain r.word ∷ ts) → v ≡ Ok (spelled r true [] ts)
no_symbols r ts h = rw (and_true r.is_plain, append-nil r.word) h

not_plain : {v : Result (List Token) ScriptFault} (r : Reader) (w : Word) (ts : List Token) → v ≡ Ok (r.tokens ++ word r.word_line false (r.word ++ w) ∷ ts) → v ≡ Ok (spelled r false w ts)
not_plain r w ts h = rw (and_false r.is_plain) h

either_false : (d t f : Bool) → (if d then t else false) ≡ false → f ≡ false → (if d then t else f) ≡ false
either_false true t f h e = h
either_false false t f h e = e

number_begins : (b : ℕ) (bs : List ℕ) → begins_word b ≡ true → numbers_redirection (b ∷ bs) ≡ false → digits_then (b ∷ bs) ≡ false
unfolding is_plain
number_begins b bs e n = either_false (is_digit b) (digits_then bs) (b == 62) n (not_same begins_word b 62 refl e)

mutual
  unfolding read_on next_byte is_plain

  in_gap : {l : ℕ} {bs : List ℕ} {ts : List Token} → IsGap l bs ts → (r : Reader) → Gives (at modes.Gap l r) bs (r.tokens ++ ts)
  in_gap (nothing {l}) r = OneByteLemmas.gap_end l r
  in_gap (blank {l} {b} {bs} {ts} e g) r = OneByteLemmas.gap_blank l r b bs e ∙ in_gap g r
  in_gap (line_end {l} {b} {bs} {ts} e g) r = OneByteLemmas.gap_line l r b bs e ∙ more_tokens r.tokens (newline l ∷ []) ts (in_gap g (token_more r (newline l)))
  in_gap (comment {l} {b} {bs} {ts} e g) r = OneByteLemmas.gap_comment l r b bs e ∙ in_comment g r
  in_gap (separator {l} {b} {bs} {ts} e n g) r = OneByteLemmas.gap_semicolon l r b bs e ∙ (OneByteLemmas.semicolon_gap l (token_more r (semicolon l)) bs n ∙ more_tokens r.tokens (semicolon l ∷ []) ts (in_gap g (token_more r (semicolon l))))
  in_gap (truncates {l} {b} {bs} {ts} e n g) r = rw e (ByteLemmas.redirect_gap l r bs n ∙ more_tokens r.tokens (redirect l false ∷ []) ts (in_gap g (token_more r (redirect l false))))
  in_gap (appends {l} {b} {c} {bs} {ts} e f g) r = rw (e, f) (more_tokens r.tokens (redirect l true ∷ []) ts (in_gap g (token_more r (redirect l true))))
  in_gap (a_word {l} {b} {bs} {w} {p} {ts} e n g) r = OneByteLemmas.gap_word l r b bs e ∙ in_word g (OneByteLemmas.word_begun l r) (number_begins b bs e n)

  in_comment : {l : ℕ} {bs : List ℕ} {ts : List Token} → IsComment l bs ts → (r : Reader) → Gives (at modes.Comment l r) bs (r.tokens ++ ts)
  in_comment (at_end {l}) r = OneByteLemmas.comment_end l r
  in_comment (goes_on {l} {b} {bs} {ts} n g) r = OneByteLemmas.comment_on l r b bs n ∙ in_comment g r
  in_comment (at_newline {l} {b} {bs} {ts} e g) r = OneByteLemmas.comment_gap l r b bs e ∙ in_gap g r

  in_word : {l : ℕ} {bs : List ℕ} {w : Word} {p : Bool} {ts : List Token} → IsWord l bs w p ts → (r : Reader) → (r.is_number && digits_then bs) ≡ false → Gives (at modes.Word l r) bs (spelled r p w ts)
  in_word (ends {l} {bs} {ts} e g) r n = OneByteLemmas.word_ends l r bs e n ∙ no_symbols r ts (more_tokens r.tokens (word r.word_line r.is_plain r.word ∷ []) ts (in_gap g (OneByteLemmas.word_more r)))
  in_word (plain {l} {b} {bs} {w} {p} {ts} e g) r n = OneByteLemmas.word_plain l r b bs e ∙ more_symbols r (r.is_plain && p) (byte b ∷ []) w ts (in_word g (OneByteLemmas.byte_more r b) (number_on r.is_number _ _ _ n))
  in_word (opens_single {l} {b} {bs} {w} {ts} e g) r n = OneByteLemmas.word_single l r b bs e ∙ not_plain r w ts (in_single g (record r { opened = l }))
  in_word (opens_double {l} {b} {bs} {w} {ts} e g) r n = OneByteLemmas.word_double l r b bs e ∙ not_plain r w ts (in_double_quotes g (record r { opened = l }))
  in_word (parameter {l} {b} {c} {k} {bs} {w} {p} {ts} e names g) r n = rw e (ByteLemmas.dollar_named l (OneByteLemmas.opened_at l r) c k bs names ∙ not_plain r (bare k ∷ w) ts (more_symbols r false (bare k ∷ []) w ts (in_word g (OneByteLemmas.symbol_more (OneByteLemmas.opened_at l r) (bare k)) refl)))
  in_word (by_name {l} {b} {c} {bs} {name} {rest} {w} {p} {ts} e begins run g) r n = rw (e, begins) (ByteLemmas.name_read run l (ByteLemmas.name_begun (OneByteLemmas.opened_at l r) c) ∙ not_plain r (named_bare (c ∷ name) ∷ w) ts (more_symbols r false (named_bare (c ∷ name) ∷ []) w ts (in_word g (ByteLemmas.name_ended (record (OneByteLemmas.opened_at l r) { name = c ∷ name })) refl)))

  in_single : {l : ℕ} {bs : List ℕ} {w : Word} {ts : List Token} → IsSingle l bs w ts → (r : Reader) → Gives (at modes.Single l (ill r)) bs (spelled (ill r) false w ts)
  in_single (closes {l} {b} {bs} {w} {p} {ts} e g) r = OneByteLemmas.single_closes l (ill r) b bs e ∙ in_word g (ill r) refl
  in_single (stands {l} {b} {bs} {w} {ts} n g) r = OneByteLemmas.single_byte l (ill r) b bs n ∙ more_symbols r false (byte b ∷ []) w ts (in_single g (OneByteLemmas.symbol_more r (byte b)))

  in_double_quotes : {l : ℕ} {bs : List ℕ} {w : Word} {ts : List Token} → IsDouble l bs w ts → (r : Reader) → Gives (at modes.Double l (ill r)) bs (spelled (ill r) false w ts)
  in_double_quotes (closes_double {l} {b} {bs} {w} {p} {ts} e g) r = OneByteLemmas.double_closes l (ill r) b bs e ∙ in_word g (ill r) refl
  in_double_quotes (stands_double {l} {b} {bs} {w} {ts} n g) r = OneByteLemmas.double_byte l (ill r) b bs n ∙ more_symbols r false (byte b ∷ []) w ts (in_double_quotes g (OneByteLemmas.symbol_more r (byte b)))
  in_double_quotes (in_double {l} {b} {c} {k} {bs} {w} {ts} e names g) r = OneByteLemmas.double_dollar l (ill r) b (c ∷ bs) e ∙ (ByteLemmas.quoted_dollar_named l (ill r) c k bs names ∙ more_symbols r false (quoted k ∷ []) w ts (in_double_quotes g (OneByteLemmas.symbol_more r (quoted k))))
  in_double_quotes (by_name_in_double {l} {b} {c} {bs} {name} {rest} {w} {ts} e begins run g) r = OneByteLemmas.double_dollar l (ill r) b (c ∷ bs) e ∙ rw begins (ByteLemmas.quoted_name_read run l (ByteLemmas.name_begun (ill r) c) ∙ more_symbols r false (named_quoted (c ∷ name) ∷ []) w ts (in_double_quotes g (ByteLemmas.quoted_name_ended (record r { name = c ∷ name }))))
  in_double_quotes (escapes {l} {b} {c} {bs} {w} {ts} e t g) r = rw (e, not_same is_escaped c 10 refl t, t) (more_symbols r false (byte c ∷ []) w ts (in_double_quotes g (OneByteLemmas.symbol_more r (byte c))))
  in_double_quotes (backslash {l} {b} {c} {bs} {w} {ts} e t n g) r = rw (e, ne_eqb c 10 n, t) (more_symbols r false (byte 92 ∷ []) (byte c ∷ w) ts (more_symbols (OneByteLemmas.symbol_more r (byte 92)) false (byte c ∷ []) w ts (in_double_quotes g (OneByteLemmas.symbol_more (OneByteLemmas.symbol_more r (byte 92)) (byte c)))))

pub only_tokens : (text : List ℕ) (ts : List Token) → AreTokens text ts → tokens_of text ≡ Ok ts
unfolding tokens_of
only_tokens text ts g = in_gap g Rattle.redo_script.specs.Reading.at_start
