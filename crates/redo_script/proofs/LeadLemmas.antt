-- What reading a beginning of a text leaves: its line, and the quote in which it stands.
use Rattle.std.proofs.Common.{◌≡◌, ℕ, Bool, true, false, ◌&&◌, ◌==◌, if◌then◌else◌, List, [], ◌∷◌, ◌++◌, Result, Ok}
use Rattle.std.proofs.Common.{Err, refl, sym, ◌∙◌, ap, inl, inr, add-one}
use Rattle.std.proofs.lemmas.Bool.{cases_Bool}
use Rattle.std.proofs.lemmas.List.{append-nil}
use Rattle.redo_script.specs.declared.ast.Parameter.{Parameter}
use Rattle.redo_script.specs.declared.fault.ScriptFault.{ScriptFault}
use Rattle.redo_script.specs.declared.lexer.Mode.{Mode}
use Rattle.redo_script.specs.Bytes.{is_plain, is_blank, begins_name, continues_name}
use Rattle.redo_script.specs.Syntax.{Symbol, bare, quoted, named_bare, named_quoted}
use Rattle.redo_script.specs.Tokens.{redirect, line_after, ends_word, is_escaped}
use Rattle.redo_script.specs.Reading.{Reader, with_token, with_begun_word, with_word, word_byte, gap_byte}
use Rattle.redo_script.specs.Reading.{with_symbol, after_dollar, after_quoted_dollar, in_word, in_single, in_double}
use Rattle.redo_script.specs.Reading.{after_backslash, parameter_named, with_parameter, next_byte, at_end, read_on}
use Rattle.redo_script.specs.Marks.{line_from, is_inside}
use Rattle.redo_script.proofs.BitLemmas.{not_same, not_in}
use Rattle.redo_script.proofs.OneByteLemmas.{at}
use Rattle.redo_script.proofs.OpenQuoteLemmas.{QuoteOpens, remains_from}
use Rattle.redo_script.specs.declared.fault.Reason.TheVariants as reasons
use Rattle.redo_script.specs.declared.lexer.Mode.TheVariants as modes

-- one byte leaves reading in its line or the next, or is the fault, in its line
abbrev pub KeepsLine : ℕ → ℕ → Result Reader ScriptFault → Type 0
KeepsLine l b (Ok r) = r.line ≡ line_after l b
KeepsLine l b (Err f) = f ≡ record { line = l; why = reasons.Unsupported }

by_if : (l b : ℕ) (t : Bool) (x y : Result Reader ScriptFault) → (t ≡ true → KeepsLine l b x) → (t ≡ false → KeepsLine l b y) → KeepsLine l b (if t then x else y)
by_if l b true x y f g = f refl
by_if l b false x y f g = g refl

stays : (l b : ℕ) → (b == 10) ≡ false → l ≡ line_after l b
stays l b n = rw n refl

-- a byte that is another one is no newline
other : (b c : ℕ) → (10 == c) ≡ false → (b == c) ≡ true → (b == 10) ≡ false
other b c n e = not_same (λ x. x == c) b 10 n e

word_keeps : (r : Reader) (b : ℕ) → (b == 10) ≡ false → KeepsLine r.line b (word_byte r b)
word_keeps r b n =
    by_if r.line b (is_plain b) _ _ (λ e. stays r.line b n) (λ e.
    by_if r.line b (b == 39) _ _ (λ e. stays r.line b n) (λ e.
    by_if r.line b (b == 34) _ _ (λ e. stays r.line b n) (λ e.
    by_if r.line b (b == 36) _ _ (λ e. stays r.line b n) (λ e. refl))))

gap_keeps : (r : Reader) (b : ℕ) → KeepsLine r.line b (gap_byte r b)
gap_keeps r b =
    by_if r.line b (is_blank b) _ _ (λ e. stays r.line b (not_same is_blank b 10 refl e)) (λ e.
    by_if r.line b (b == 10) _ _ (λ e. rw (e, add-one r.line) refl) (λ n.
    by_if r.line b (b == 59) _ _ (λ e. stays r.line b n) (λ e.
    by_if r.line b (b == 62) _ _ (λ e. stays r.line b n) (λ e.
    by_if r.line b (b == 35) _ _ (λ e. stays r.line b n) (λ e. word_keeps (with_begun_word r) b n)))))

in_word_keeps : (r : Reader) (b : ℕ) → KeepsLine r.line b (in_word r b)
in_word_keeps r b =
    by_if r.line b ((b == 62) && r.is_number) _ _ (λ e. refl) (λ e.
    by_if r.line b (ends_word b) _ _ (λ e. gap_keeps (with_word r) b) (λ e. word_keeps r b (not_in ends_word b 10 refl e)))

named_keeps : (r : Reader) (m : Mode) (symbol : Parameter → Symbol) (b : ℕ) → KeepsLine r.line b (with_parameter r m symbol (parameter_named b))
named_keeps r m symbol b = elim (cases_Bool (b == 49)) [
  | inl e ↦ rw e (stays r.line b (other b 49 refl e))
  | inr e1 ↦ elim (cases_Bool (b == 50)) [
    | inl e ↦ rw (e1, e) (stays r.line b (other b 50 refl e))
    | inr e2 ↦ elim (cases_Bool (b == 51)) [
      | inl e ↦ rw (e1, e2, e) (stays r.line b (other b 51 refl e))
      | inr e ↦ rw (e1, e2, e) refl
    ]
  ]
]

dollar_keeps : (r : Reader) (b : ℕ) → KeepsLine r.line b (after_dollar r b)
dollar_keeps r b = by_if r.line b (begins_name b) _ _ (λ e. stays r.line b (not_same begins_name b 10 refl e)) (λ e. named_keeps r modes.Word bare b)

quoted_dollar_keeps : (r : Reader) (b : ℕ) → KeepsLine r.line b (after_quoted_dollar r b)
quoted_dollar_keeps r b = by_if r.line b (begins_name b) _ _ (λ e. stays r.line b (not_same begins_name b 10 refl e)) (λ e. named_keeps r modes.Double quoted b)

single_keeps : (r : Reader) (b : ℕ) → KeepsLine r.line b (in_single r b)
single_keeps r b = by_if r.line b (b == 39) _ _ (λ e. stays r.line b (other b 39 refl e)) (λ e. refl)

double_keeps : (r : Reader) (b : ℕ) → KeepsLine r.line b (in_double r b)
double_keeps r b =
    by_if r.line b (b == 34) _ _ (λ e. stays r.line b (other b 34 refl e)) (λ e.
    by_if r.line b (b == 36) _ _ (λ e. stays r.line b (other b 36 refl e)) (λ e.
    by_if r.line b (b == 92) _ _ (λ e. stays r.line b (other b 92 refl e)) (λ e.
    by_if r.line b (b == 96) _ _ (λ e. refl) (λ e. refl))))

escape_keeps : (r : Reader) (b : ℕ) → KeepsLine r.line b (after_backslash r b)
escape_keeps r b =
    by_if r.line b (b == 10) _ _ (λ e. refl) (λ n.
    by_if r.line b (is_escaped b) _ _ (λ e. stays r.line b n) (λ e. stays r.line b n))

mode_keeps : (m : Mode) (r : Reader) (b : ℕ) → KeepsLine r.line b (next_byte (at m r.line r) b)
unfolding next_byte
mode_keeps modes.Gap r b = gap_keeps (at modes.Gap r.line r) b
mode_keeps modes.Semicolon r b = by_if r.line b (b == 59) _ _ (λ e. refl) (λ e. gap_keeps (at modes.Semicolon r.line r) b)
mode_keeps modes.Redirect r b =
    by_if r.line b (b == 62) _ _ (λ e. stays r.line b (other b 62 refl e)) (λ e.
    gap_keeps (with_token (at modes.Redirect r.line r) (redirect r.line false)) b)
mode_keeps modes.Comment r b =
    by_if r.line b (b == 10) _ _ (λ e. gap_keeps (at modes.Comment r.line r) b) (λ n. stays r.line b n)
mode_keeps modes.Word r b = in_word_keeps (at modes.Word r.line r) b
mode_keeps modes.Dollar r b = dollar_keeps (at modes.Dollar r.line r) b
mode_keeps modes.Name r b = by_if r.line b (continues_name b) _ _ (λ e. stays r.line b (not_same continues_name b 10 refl e)) (λ e. in_word_keeps (with_symbol (at modes.Name r.line r) modes.Word (named_bare r.name)) b)
mode_keeps modes.Single r b = single_keeps (at modes.Single r.line r) b
mode_keeps modes.Double r b = double_keeps (at modes.Double r.line r) b
mode_keeps modes.QuotedDollar r b = quoted_dollar_keeps (at modes.QuotedDollar r.line r) b
mode_keeps modes.QuotedName r b = by_if r.line b (continues_name b) _ _ (λ e. stays r.line b (not_same continues_name b 10 refl e)) (λ e. double_keeps (with_symbol (at modes.QuotedName r.line r) modes.Double (named_quoted r.name)) b)
mode_keeps modes.Escape r b = escape_keeps (at modes.Escape r.line r) b

pub keeps : (r : Reader) (b : ℕ) → KeepsLine r.line b (next_byte r b)
keeps r b = mode_keeps r.mode r b

-- what reading a beginning of the bytes leaves
pub data Leads : Reader → List ℕ → Reader → Type 0 where
  nowhere : {r : Reader} → Leads r [] r
  further : {r r' last : Reader} {b : ℕ} {bs : List ℕ} → next_byte r b ≡ Ok r' → Leads r' bs last → Leads r (b ∷ bs) last

pub leads_on : {r last : Reader} {bs : List ℕ} (more : List ℕ) → Leads r bs last → read_on r (bs ++ more) ≡ read_on last more
unfolding read_on
leads_on more nowhere = refl
leads_on more (further e k) = rw e (leads_on more k)

pub leads_line : {r last : Reader} {bs : List ℕ} → Leads r bs last → last.line ≡ line_from r.line bs
leads_line nowhere = refl
leads_line (further {r} {r'} {last} {b} {bs} e k) =
    let here : r'.line ≡ line_after r.line b = rw e at (keeps r b) in
    leads_line k ∙ ap (λ l. line_from l bs) here

-- reading goes on inside quotes
pub data Within : Reader → List ℕ → Reader → Type 0 where
  ends_in : {r : Reader} → is_inside r.mode ≡ true → Within r [] r
  goes_in : {r r' last : Reader} {b : ℕ} {bs : List ℕ} → is_inside r.mode ≡ true → next_byte r b ≡ Ok r' → Within r' bs last → Within r (b ∷ bs) last

pub is_within : {r last : Reader} {bs : List ℕ} → Within r bs last → is_inside r.mode ≡ true
is_within (ends_in i) = i
is_within (goes_in i e k) = i

pub same_opened : {r last : Reader} {bs : List ℕ} → Within r bs last → last.opened ≡ r.opened
same_opened (ends_in i) = refl
same_opened (goes_in {r} {r'} {last} {b} {bs} i e k) = same_opened k ∙ remains_from r r' b i e (is_within k)

-- the quote in which reading stands
pub record InQuote (r : Reader) (bs : List ℕ) (last : Reader) : Type 0 where
  pub before : List ℕ
  pub quote : ℕ
  pub inside : List ℕ
  pub mid : Reader
  pub inner : Reader
  pub is : bs ≡ before ++ quote ∷ inside
  pub leads : Leads r before mid
  pub opens : QuoteOpens mid quote inner
  pub step : next_byte mid quote ≡ Ok inner
  pub within : Within inner inside last

pub reads_to : {r last : Reader} {bs : List ℕ} → Leads r bs last → read_on r bs ≡ at_end last
unfolding read_on
reads_to {r} {last} {bs} k = ap (λ x. read_on r x) (sym (append-nil bs)) ∙ leads_on [] k

pub leads_one : {r mid last : Reader} {bs : List ℕ} (b : ℕ) → Leads r bs mid → next_byte mid b ≡ Ok last → Leads r (bs ++ b ∷ []) last
leads_one b nowhere e = further e nowhere
leads_one b (further k i) e = further k (leads_one b i e)
