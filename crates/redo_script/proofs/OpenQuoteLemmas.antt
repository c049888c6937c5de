-- Quotes that are open at the end of a text.
use Rattle.std.proofs.Common.{◌≡◌, ◌⊎◌, ℕ, Bool, true, false, ◌&&◌, ◌==◌, if◌then◌else◌, List, Option, Some, None}
use Rattle.std.proofs.Common.{Result, Ok, Err, refl, sym, ◌∙◌, ap, inl, inr}
use Rattle.std.proofs.lemmas.Bool.{eqb-true, cases_Bool}
use Rattle.redo_script.specs.declared.ast.Parameter.{Parameter}
use Rattle.redo_script.specs.declared.fault.ScriptFault.{ScriptFault}
use Rattle.redo_script.specs.declared.lexer.Mode.{Mode}
use Rattle.redo_script.specs.Bytes.{is_plain, is_blank, begins_name, continues_name}
use Rattle.redo_script.specs.Syntax.{bare, quoted, named_bare, named_quoted}
use Rattle.redo_script.specs.Tokens.{Token, redirect, ends_word, is_escaped}
use Rattle.redo_script.specs.Reading.{Reader, with_token, with_begun_word, with_word, word_byte, gap_byte, in_word}
use Rattle.redo_script.specs.Reading.{parameter_named, with_parameter, with_symbol, with_name, after_dollar}
use Rattle.redo_script.specs.Reading.{in_double, next_byte, at_end}
use Rattle.redo_script.specs.Marks.{is_inside}
use Rattle.redo_script.proofs.BitLemmas.{never, injected}
use Rattle.redo_script.proofs.OneByteLemmas.{at}
use Rattle.redo_script.specs.declared.lexer.Mode.TheVariants as modes

-- a byte outside quotes opens them, in its line, if anything does
abbrev OpensAt : ℕ → ℕ → Mode → ℕ → Type 0
OpensAt l b m opened = is_inside m ≡ true → ((b ≡ 39) ⊎ (b ≡ 34)) × (opened ≡ l)

abbrev Opens : ℕ → ℕ → Result Reader ScriptFault → Type 0
Opens l b (Ok r) = OpensAt l b r.mode r.opened
Opens l b (Err f) = Unit {0}

-- a byte inside quotes leaves where they were opened
abbrev Remains : ℕ → Result Reader ScriptFault → Type 0
Remains o (Ok r) = is_inside r.mode ≡ true → r.opened ≡ o
Remains o (Err f) = Unit {0}

pub out : {C : Type 0} → false ≡ true → C
out {C} h = absurd (cc h)

by_if : (P : Result Reader ScriptFault → Type 0) (t : Bool) (x y : Result Reader ScriptFault) → (t ≡ true → P x) → (t ≡ false → P y) → P (if t then x else y)
by_if P true x y f g = f refl
by_if P false x y f g = g refl

word_opens : (r : Reader) (b : ℕ) → Opens r.line b (word_byte r b)
word_opens r b =
    by_if (Opens r.line b) (is_plain b) _ _ (λ e h. out h) (λ e.
    by_if (Opens r.line b) (b == 39) _ _ (λ e h. (inl (eqb-true b 39 e), refl)) (λ e.
    by_if (Opens r.line b) (b == 34) _ _ (λ e h. (inr (eqb-true b 34 e), refl)) (λ e.
    by_if (Opens r.line b) (b == 36) _ _ (λ e h. out h) (λ e. tt))))

gap_opens : (r : Reader) (b : ℕ) → Opens r.line b (gap_byte r b)
gap_opens r b =
    by_if (Opens r.line b) (is_blank b) _ _ (λ e h. out h) (λ e.
    by_if (Opens r.line b) (b == 10) _ _ (λ e h. out h) (λ n.
    by_if (Opens r.line b) (b == 59) _ _ (λ e h. out h) (λ e.
    by_if (Opens r.line b) (b == 62) _ _ (λ e h. out h) (λ e.
    by_if (Opens r.line b) (b == 35) _ _ (λ e h. out h) (λ e. word_opens (with_begun_word r) b)))))

in_word_opens : (r : Reader) (b : ℕ) → Opens r.line b (in_word r b)
in_word_opens r b =
    by_if (Opens r.line b) ((b == 62) && r.is_number) _ _ (λ e. tt) (λ e.
    by_if (Opens r.line b) (ends_word b) _ _ (λ e. gap_opens (with_word r) b) (λ e. word_opens r b))

comment_opens : (l : ℕ) (b : ℕ) (r : Reader) → Opens r.line b (next_byte (at modes.Comment r.line r) b)
unfolding next_byte
comment_opens l b r = by_if (Opens r.line b) (b == 10) _ _ (λ e. gap_opens (at modes.Comment r.line r) b) (λ n h. out h)

-- a place outside quotes where a quote may open: there the text may end
pub record MayEnd (r : Reader) : Type 0 where
  pub tokens : List Token
  pub ends : at_end r ≡ Ok tokens

pub record QuoteOpens (r : Reader) (b : ℕ) (r' : Reader) : Type 0 where
  pub is_quote : (b ≡ 39) ⊎ (b ≡ 34)
  pub here : r'.opened ≡ r.line
  pub may_end : MayEnd r

quote_opens : (r r' : Reader) (b : ℕ) (x : Result Reader ScriptFault) → x ≡ Ok r' → Opens r.line b x → is_inside r'.mode ≡ true → MayEnd r → QuoteOpens r b r'
quote_opens r r' b x e o i end =
    let q : ((b ≡ 39) ⊎ (b ≡ 34)) × (r'.opened ≡ r.line) = (rw e at o) i in
    record { is_quote = q.0; here = q.1; may_end = end }

named_out : {C : Type 0} (r r' : Reader) (o : Option Parameter) → with_parameter r modes.Word bare o ≡ Ok r' → is_inside r'.mode ≡ true → C
named_out r r' None e i = never e
named_out r r' (Some p) e i =
    let same : with_symbol r modes.Word (bare p) ≡ r' = injected e in
    let no : false ≡ true = ap (λ (x : Reader). is_inside x.mode) same ∙ i in
    out no

dollar_out : {C : Type 0} (r r' : Reader) (b : ℕ) → after_dollar r b ≡ Ok r' → is_inside r'.mode ≡ true → C
dollar_out {C} r r' b e i = elim (cases_Bool (begins_name b)) [
  | inl t ↦
      let same : with_name r modes.Name b ≡ r' = injected (rw t at e) in
      let no : false ≡ true = ap (λ (x : Reader). is_inside x.mode) same ∙ i in
      out no
  | inr f ↦ named_out r r' (parameter_named b) (rw f at e) i
]

name_opens : (b : ℕ) (r : Reader) → Opens r.line b (next_byte (at modes.Name r.line r) b)
unfolding next_byte
name_opens b r = by_if (Opens r.line b) (continues_name b) _ _ (λ e h. out h) (λ e. in_word_opens (with_symbol (at modes.Name r.line r) modes.Word (named_bare r.name)) b)

pub opens_from : (m : Mode) (r r' : Reader) (b : ℕ) → is_inside m ≡ false → next_byte (at m r.line r) b ≡ Ok r' → is_inside r'.mode ≡ true → QuoteOpens (at m r.line r) b r'
unfolding next_byte at_end
opens_from modes.Gap r r' b o e i = quote_opens (at modes.Gap r.line r) r' b _ e (gap_opens (at modes.Gap r.line r) b) i (record { tokens = _; ends = refl })
opens_from modes.Semicolon r r' b o e i =
    let opens : Opens r.line b (next_byte (at modes.Semicolon r.line r) b) = by_if (Opens r.line b) (b == 59) _ _ (λ e. tt) (λ e. gap_opens (at modes.Semicolon r.line r) b) in
    quote_opens (at modes.Semicolon r.line r) r' b _ e opens i (record { tokens = _; ends = refl })
opens_from modes.Redirect r r' b o e i =
    let opens : Opens r.line b (next_byte (at modes.Redirect r.line r) b) = by_if (Opens r.line b) (b == 62) _ _ (λ e h. out h) (λ e. gap_opens (with_token (at modes.Redirect r.line r) (redirect r.line false)) b) in
    quote_opens (at modes.Redirect r.line r) r' b _ e opens i (record { tokens = _; ends = refl })
opens_from modes.Comment r r' b o e i = quote_opens (at modes.Comment r.line r) r' b _ e (comment_opens r.line b r) i (record { tokens = _; ends = refl })
opens_from modes.Word r r' b o e i = quote_opens (at modes.Word r.line r) r' b _ e (in_word_opens (at modes.Word r.line r) b) i (record { tokens = _; ends = refl })
opens_from modes.Dollar r r' b o e i = dollar_out (at modes.Dollar r.line r) r' b e i
opens_from modes.Name r r' b o e i = quote_opens (at modes.Name r.line r) r' b _ e (name_opens b r) i (record { tokens = _; ends = refl })
opens_from modes.Single r r' b o e i = out (sym o)
opens_from modes.Double r r' b o e i = out (sym o)
opens_from modes.QuotedDollar r r' b o e i = out (sym o)
opens_from modes.QuotedName r r' b o e i = out (sym o)
opens_from modes.Escape r r' b o e i = out (sym o)

named_remains : (r : Reader) (o : Option Parameter) → Remains r.opened (with_parameter r modes.Double quoted o)
named_remains r None = tt
named_remains r (Some p) = λ h. refl

double_remains : (r : Reader) (b : ℕ) → Remains r.opened (in_double r b)
double_remains r b =
    by_if (Remains r.opened) (b == 34) _ _ (λ e h. out h) (λ e.
    by_if (Remains r.opened) (b == 36) _ _ (λ e h. refl) (λ e.
    by_if (Remains r.opened) (b == 92) _ _ (λ e h. refl) (λ e.
    by_if (Remains r.opened) (b == 96) _ _ (λ e. tt) (λ e h. refl))))

remains : (m : Mode) (r : Reader) (b : ℕ) → is_inside m ≡ true → Remains r.opened (next_byte (at m r.line r) b)
unfolding next_byte
remains modes.Gap r b i = out i
remains modes.Semicolon r b i = out i
remains modes.Redirect r b i = out i
remains modes.Comment r b i = out i
remains modes.Word r b i = out i
remains modes.Dollar r b i = out i
remains modes.Name r b i = out i
remains modes.Single r b i = by_if (Remains r.opened) (b == 39) _ _ (λ e h. out h) (λ e h. refl)
remains modes.Double r b i = double_remains (at modes.Double r.line r) b
remains modes.QuotedDollar r b i = by_if (Remains r.opened) (begins_name b) _ _ (λ e h. refl) (λ e. named_remains (at modes.QuotedDollar r.line r) (parameter_named b))
remains modes.QuotedName r b i = by_if (Remains r.opened) (continues_name b) _ _ (λ e h. refl) (λ e. double_remains (with_symbol (at modes.QuotedName r.line r) modes.Double (named_quoted r.name)) b)
remains modes.Escape r b i =
    by_if (Remains r.opened) (b == 10) _ _ (λ e. tt) (λ e.
    by_if (Remains r.opened) (is_escaped b) _ _ (λ e h. refl) (λ e h. refl))

pub remains_from : (r r' : Reader) (b : ℕ) → is_inside r.mode ≡ true → next_byte r b ≡ Ok r' → is_inside r'.mode ≡ true → r'.opened ≡ r.opened
remains_from r r' b i e i' = let h = remains r.mode r b i in (rw e at h) i'

-- a text does not end inside quotes
pub inside_ends : (m : Mode) (r : Reader) → is_inside m ≡ true → (fault : ScriptFault) × (at_end (at m r.line r) ≡ Err fault)
unfolding at_end
inside_ends modes.Gap r i = out i
inside_ends modes.Semicolon r i = out i
inside_ends modes.Redirect r i = out i
inside_ends modes.Comment r i = out i
inside_ends modes.Word r i = out i
inside_ends modes.Dollar r i = out i
inside_ends modes.Name r i = out i
inside_ends modes.Single r i = (_, refl)
inside_ends modes.Double r i = (_, refl)
inside_ends modes.QuotedDollar r i = (_, refl)
inside_ends modes.QuotedName r i = (_, refl)
inside_ends modes.Escape r i = (_, refl)
