-- Tokens that are handed over before reading goes on.
use Rattle.std.proofs.Common.{◌≡◌, ℕ, Bool, true, false, cond, ◌&&◌, ◌==◌, List, [], ◌∷◌, ◌++◌, Option, Some, None}
use Rattle.std.proofs.Common.{Result, Ok, Err, refl, sym, ap, ◌∙◌, append_assoc, inl, inr}
use Rattle.std.proofs.lemmas.Bool.{cases_Bool}
use Rattle.redo_script.specs.declared.fault.ScriptFault.{ScriptFault}
use Rattle.redo_script.specs.declared.ast.Parameter.{Parameter}
use Rattle.redo_script.specs.declared.lexer.Mode.{Mode}
use Rattle.redo_script.specs.declared.lexer.Mode.TheVariants as modes
use Rattle.redo_script.specs.Faults.{◌>>=◌, Fails}
use Rattle.redo_script.specs.Syntax.{Script, Symbol, bare, quoted, named_bare, named_quoted}
use Rattle.redo_script.specs.Tokens.{Token, word, semicolon, newline, redirect, ends_word, is_escaped}
use Rattle.redo_script.specs.Bytes.{is_plain, is_blank, begins_name, continues_name}
use Rattle.redo_script.specs.declared.statements.Statements.{Statements}
use Rattle.redo_script.specs.inside.Passes.{IsOn, Follows}
use Rattle.redo_script.specs.inside.Lexer.{with_no_tokens}
use Rattle.redo_script.specs.Parsing.{statements_of}
use Rattle.std.proofs.lemmas.List.{append-nil}
use Rattle.redo_script.specs.Reading.{tokens_of, Reader, with_token, unsupported, with_begun_word, word_byte, gap_byte}
use Rattle.redo_script.specs.Reading.{in_double, with_symbol, with_name, with_name_byte}
use Rattle.redo_script.specs.Reading.{with_word, in_word, with_parameter, parameter_named, by_mode, next_byte}
use Rattle.redo_script.specs.Reading.{end_by_mode, at_end, read_on}

-- these tokens before those so far
abbrev pub over : List Token → Reader → Reader
over ts r = record r { tokens = ts ++ r.tokens }

abbrev over_any : List Token → Result Reader ScriptFault → Result Reader ScriptFault
over_any ts (Ok r) = Ok (over ts r)
over_any ts (Err e) = Err e

-- these tokens before those that are read
abbrev pub handed : List Token → Result (List Token) ScriptFault → Result (List Token) ScriptFault
handed ts (Ok us) = Ok (ts ++ us)
handed ts (Err e) = Err e

module _ (ts : List Token) where
  choose : (c : Bool) (x x' y y' : Result Reader ScriptFault) → x' ≡ over_any ts x → y' ≡ over_any ts y → cond c x' y' ≡ over_any ts (cond c x y)
  choose true x x' y y' h k = h
  choose false x x' y y' h k = k

  word_over : (r : Reader) (b : ℕ) → word_byte (over ts r) b ≡ over_any ts (word_byte r b)
  word_over r b = elim (cases_Bool (is_plain b)) [
    | inl e ↦ rw e refl
    | inr e ↦ elim (cases_Bool (b == 39)) [
      | inl f ↦ rw (e, f) refl
      | inr f ↦ elim (cases_Bool (b == 34)) [
        | inl g ↦ rw (e, f, g) refl
        | inr g ↦ elim (cases_Bool (b == 36)) [ inl h ↦ rw (e, f, g, h) refl | inr h ↦ rw (e, f, g, h) refl ]
      ]
    ]
  ]

  token_over : (r : Reader) (t : Token) → with_token (over ts r) t ≡ over ts (with_token r t)
  token_over r t = rw (append_assoc ts r.tokens (t ∷ [])) refl

  gap_over : (r : Reader) (b : ℕ) → gap_byte (over ts r) b ≡ over_any ts (gap_byte r b)
  gap_over r b = elim (cases_Bool (is_blank b)) [
    | inl e ↦ rw e refl
    | inr e ↦ elim (cases_Bool (b == 10)) [
      | inl f ↦ rw (e, f, append_assoc ts r.tokens (newline r.line ∷ [])) refl
      | inr f ↦ elim (cases_Bool (b == 59)) [
        | inl g ↦ rw (e, f, g, append_assoc ts r.tokens (semicolon r.line ∷ [])) refl
        | inr g ↦ elim (cases_Bool (b == 62)) [
          | inl h ↦ rw (e, f, g, h) refl
          | inr h ↦ elim (cases_Bool (b == 35)) [ inl k ↦ rw (e, f, g, h, k) refl | inr k ↦ rw (e, f, g, h, k) (word_over (with_begun_word r) b) ]
        ]
      ]
    ]
  ]

  in_word_over : (r : Reader) (b : ℕ) → in_word (over ts r) b ≡ over_any ts (in_word r b)
  in_word_over r b =
      let same : with_word (over ts r) ≡ over ts (with_word r) = rw (append_assoc ts r.tokens (word r.word_line r.is_plain r.word ∷ [])) refl in
      elim (cases_Bool ((b == 62) && r.is_number)) [
        | inl e ↦ rw e refl
        | inr e ↦ elim (cases_Bool (ends_word b)) [
          | inl f ↦ rw (e, f) (ap (λ q. gap_byte q b) same ∙ gap_over (with_word r) b)
          | inr f ↦ rw (e, f) (word_over r b)
        ]
      ]

  parameter_over : (r : Reader) (m : Mode) (symbol : Parameter → Symbol) (p : Option Parameter) → with_parameter (over ts r) m symbol p ≡ over_any ts (with_parameter r m symbol p)
  parameter_over r m symbol None = refl
  parameter_over r m symbol (Some p) = refl

  double_over : (r : Reader) (b : ℕ) → in_double (over ts r) b ≡ over_any ts (in_double r b)
  double_over r b = elim (cases_Bool (b == 34)) [
    | inl e ↦ rw e refl
    | inr e ↦ elim (cases_Bool (b == 36)) [
      | inl f ↦ rw (e, f) refl
      | inr f ↦ elim (cases_Bool (b == 92)) [
        | inl g ↦ rw (e, f, g) refl
        | inr g ↦ elim (cases_Bool (b == 96)) [ inl h ↦ rw (e, f, g, h) refl | inr h ↦ rw (e, f, g, h) refl ]
      ]
    ]
  ]

  -- a byte behind `$`, which begins a name or is a parameter's digit
  dollar_over : (r : Reader) (n m : Mode) (symbol : Parameter → Symbol) (b : ℕ) → cond (begins_name b) (Ok (with_name (over ts r) n b)) (with_parameter (over ts r) m symbol (parameter_named b)) ≡ over_any ts (cond (begins_name b) (Ok (with_name r n b)) (with_parameter r m symbol (parameter_named b)))
  dollar_over r n m symbol b = choose (begins_name b) (Ok (with_name r n b)) (Ok (with_name (over ts r) n b)) (with_parameter r m symbol (parameter_named b)) (with_parameter (over ts r) m symbol (parameter_named b)) refl (parameter_over r m symbol (parameter_named b))

  mode_over : (m : Mode) (r : Reader) (b : ℕ) → by_mode m (over ts r) b ≡ over_any ts (by_mode m r b)
  mode_over modes.Gap r b = gap_over r b
  mode_over modes.Semicolon r b = choose (b == 59) (unsupported r) (unsupported (over ts r)) (gap_byte r b) (gap_byte (over ts r) b) refl (gap_over r b)
  mode_over modes.Redirect r b =
      let appends : Result Reader ScriptFault = Ok (with_token r (redirect r.line true)) in
      let appends' : Result Reader ScriptFault = Ok (with_token (over ts r) (redirect r.line true)) in
      let truncated = redirect r.line false in
      choose (b == 62) appends appends' (gap_byte (with_token r truncated) b) (gap_byte (with_token (over ts r) truncated) b) (ap (λ q. Ok q) (token_over r (redirect r.line true))) (ap (λ q. gap_byte q b) (token_over r truncated) ∙ gap_over (with_token r truncated) b)
  mode_over modes.Comment r b = choose (b == 10) (gap_byte r b) (gap_byte (over ts r) b) (Ok r) (Ok (over ts r)) (gap_over r b) refl
  mode_over modes.Word r b = in_word_over r b
  mode_over modes.Dollar r b = dollar_over r modes.Name modes.Word bare b
  mode_over modes.Name r b =
      let ended : Reader = with_symbol r modes.Word (named_bare r.name) in
      choose (continues_name b) (Ok (with_name_byte r b)) (Ok (with_name_byte (over ts r) b)) (in_word ended b) (in_word (over ts ended) b) refl (in_word_over ended b)
  mode_over modes.Single r b = elim (cases_Bool (b == 39)) [ inl e ↦ rw e refl | inr e ↦ rw e refl ]
  mode_over modes.Double r b = double_over r b
  mode_over modes.QuotedDollar r b = dollar_over r modes.QuotedName modes.Double quoted b
  mode_over modes.QuotedName r b =
      let ended : Reader = with_symbol r modes.Double (named_quoted r.name) in
      choose (continues_name b) (Ok (with_name_byte r b)) (Ok (with_name_byte (over ts r) b)) (in_double ended b) (in_double (over ts ended) b) refl (double_over ended b)
  mode_over modes.Escape r b = elim (cases_Bool (b == 10)) [
    | inl e ↦ rw e refl
    | inr e ↦ elim (cases_Bool (is_escaped b)) [ inl f ↦ rw (e, f) refl | inr f ↦ rw (e, f) refl ]
  ]

  end_over : (m : Mode) (r : Reader) → end_by_mode m (over ts r) ≡ handed ts (end_by_mode m r)
  end_over modes.Gap r = refl
  end_over modes.Semicolon r = refl
  end_over modes.Comment r = refl
  end_over modes.Redirect r = ap (λ us. Ok us) (append_assoc ts r.tokens (redirect r.line false ∷ []))
  end_over modes.Word r = ap (λ us. Ok us) (append_assoc ts r.tokens (word r.word_line r.is_plain r.word ∷ []))
  end_over modes.Name r = ap (λ us. Ok us) (append_assoc ts r.tokens (word r.word_line r.is_plain (r.word ++ named_bare r.name ∷ []) ∷ []))
  end_over modes.Dollar r = refl
  end_over modes.QuotedDollar r = refl
  end_over modes.QuotedName r = refl
  end_over modes.Single r = refl
  end_over modes.Double r = refl
  end_over modes.Escape r = refl

  bind_over : (bs : List ℕ) → ((r : Reader) → read_on (over ts r) bs ≡ handed ts (read_on r bs)) → (m m' : Result Reader ScriptFault) → m' ≡ over_any ts m → (m' >>= λ r. read_on r bs) ≡ handed ts (m >>= λ r. read_on r bs)
  bind_over bs h (Ok r) m' e = rw e (h r)
  bind_over bs h (Err f) m' e = rw e refl

  -- what is read behind these tokens is what is read without them, with them before it
  pub read_over : (bs : List ℕ) (r : Reader) → read_on (over ts r) bs ≡ handed ts (read_on r bs)
  unfolding read_on next_byte at_end
  read_over [] r = end_over r.mode r
  read_over (b ∷ bs) r = bind_over bs (λ q. read_over bs q) (by_mode r.mode r b) (by_mode r.mode (over ts r) b) (mode_over r.mode r b)

-- what is taken for tokens, with those to come behind them
pub tokens_taken : (s t : Statements) (ts : List Token) (before after : Reader) (left : List ℕ) (total : Result Script ScriptFault) → before.tokens ≡ ts → after ≡ with_no_tokens before → ((us : List Token) (whole : Result Script ScriptFault) → IsOn s (ts ++ us) whole → IsOn t us whole) → Follows s (read_on before left) total → Follows t (read_on after left) total
tokens_taken s t ts before after left total is e takes h =
    let same : over ts after ≡ before = rw (e, append-nil ts, ← is) refl in
    let split : read_on before left ≡ handed ts (read_on after left) = ap (λ r. read_on r left) (sym same) ∙ read_over ts left after in
    go (read_on after left) (rw split at h)
  where
    go : (read : Result (List Token) ScriptFault) → Follows s (handed ts read) total → Follows t read total
    go (Ok us) k = takes us total k
    go (Err f) k = k

-- a step that meets a fault of the tokens
pub step_fails : (s : Statements) (read : Result (List Token) ScriptFault) (fault : ScriptFault) (total : Result Script ScriptFault) → Fails fault read → Follows s read total → Fails fault total
step_fails s read fault total (inl m) h = inl m
step_fails s read fault total (inr e) h = inr (rw e at h)

-- before the first byte
pub first : (s : Statements) (text : List ℕ) → ((ts : List Token) → IsOn s ts (statements_of ts)) → Follows s (tokens_of text) (tokens_of text >>= statements_of)
first s text h = go (tokens_of text)
  where
    go : (read : Result (List Token) ScriptFault) → Follows s read (read >>= statements_of)
    go (Ok ts) = h ts
    go (Err e) = refl

-- the last tokens
pub last_taken : (s t : Statements) (r : Reader) (ts : List Token) (total : Result Script ScriptFault) → at_end r ≡ Ok ts → ((us : List Token) (whole : Result Script ScriptFault) → IsOn s (ts ++ us) whole → IsOn t us whole) → Follows s (read_on r []) total → IsOn t [] total
unfolding read_on
last_taken s t r ts total e takes h =
    let k : IsOn s ts total = rw e at h in
    takes [] total (rw (append-nil ts) k)

-- the end has a fault
pub end_fails : (s : Statements) (r : Reader) (fault : ScriptFault) (total : Result Script ScriptFault) → Fails fault (at_end r) → Follows s (read_on r []) total → Fails fault total
unfolding read_on
end_fails s r fault total f h = step_fails s (at_end r) fault total f h
