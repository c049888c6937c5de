-- What is read at once between words: it is a token before what is read of the rest.
use Rattle.std.proofs.Common.{◌≡◌, ℕ, ◌+◌, ◌≤◌, ◌-◌, Bool, true, false, cond, ◌&&◌, ◌==◌, List, [], ◌∷◌, ◌++◌, map}
use Rattle.std.proofs.Common.{length, take, drop, get_or, Option, Some, None, Result, Ok, Err, refl, sym, ap, ◌∙◌, inl, inr, add-one}
use Rattle.std.proofs.Common.{add-one}
use Rattle.std.proofs.lemmas.Bool.{both_ways, cases_Bool, eq-eqb}
use Rattle.redo_script.specs.declared.fault.ScriptFault.{ScriptFault}
use Rattle.redo_script.specs.declared.ast.Parameter.{Parameter}
use Rattle.redo_script.specs.declared.lexer.Mode.{Mode}
use Rattle.redo_script.specs.declared.lexer.Mode.TheVariants as modes
use Rattle.redo_script.specs.Faults.{◌>>=◌}
use Rattle.redo_script.specs.Syntax.{Symbol, byte, bare, quoted}
use Rattle.redo_script.specs.Tokens.{Token, word, semicolon, newline, redirect, ends_word, is_escaped, IsNotBefore}
use Rattle.redo_script.specs.Bytes.{is_plain, is_blank, begins_name}
use Rattle.redo_script.specs.Reading.{Reader, unsupported, with_begun_word, with_token, word_byte, gap_byte, in_word}
use Rattle.redo_script.specs.Reading.{with_word, in_double, with_parameter, parameter_named, by_mode, next_byte}
use Rattle.redo_script.specs.Reading.{end_by_mode, at_end, read_on}
use Rattle.redo_script.specs.declared.statements.Statements.{Statements}
use Rattle.redo_script.specs.Syntax.{Script}
use Rattle.redo_script.specs.inside.Lexer.{with_quoted}
use Rattle.redo_script.specs.inside.Passes.{IsOn, Follows}
use Rattle.redo_script.specs.inside.Runs.{all_plain, begins_with, ends_plainly}
use Rattle.redo_script.proofs.HandedLemmas.{handed, read_over}
use Rattle.redo_script.proofs.OneByteLemmas.{token_more, gap_line, gap_semicolon, semicolon_gap}
use Rattle.redo_script.proofs.RunLemmas.{in_mode, head_on, word_passed}

-- the word that was begun still matters
abbrev keeps_word : Mode → Bool
keeps_word modes.Gap = false
keeps_word modes.Semicolon = false
keeps_word modes.Redirect = false
keeps_word modes.Comment = false
keeps_word modes.Word = true
keeps_word modes.Dollar = true
keeps_word modes.Name = true
keeps_word modes.Single = true
keeps_word modes.Double = true
keeps_word modes.QuotedDollar = true
keeps_word modes.QuotedName = true
keeps_word modes.Escape = true

-- so does the line of the quote that was opened last
abbrev keeps_opened : Mode → Bool
keeps_opened modes.Gap = false
keeps_opened modes.Semicolon = false
keeps_opened modes.Redirect = false
keeps_opened modes.Comment = false
keeps_opened modes.Word = false
keeps_opened modes.Dollar = true
keeps_opened modes.Name = true
keeps_opened modes.Single = true
keeps_opened modes.Double = true
keeps_opened modes.QuotedDollar = true
keeps_opened modes.QuotedName = true
keeps_opened modes.Escape = true

-- so does the name that was begun last
abbrev keeps_name : Mode → Bool
keeps_name modes.Gap = false
keeps_name modes.Semicolon = false
keeps_name modes.Redirect = false
keeps_name modes.Comment = false
keeps_name modes.Word = false
keeps_name modes.Dollar = false
keeps_name modes.Name = true
keeps_name modes.Single = false
keeps_name modes.Double = false
keeps_name modes.QuotedDollar = false
keeps_name modes.QuotedName = true
keeps_name modes.Escape = false

-- a reader in this mode, with what still matters alone
abbrev live : Mode → Reader → Reader
live m r = record {
  mode = m;
  line = r.line;
  opened = cond (keeps_opened m) r.opened 0;
  word_line = cond (keeps_word m) r.word_line 0;
  is_plain = cond (keeps_word m) r.is_plain true;
  is_number = cond (keeps_word m) r.is_number true;
  word = cond (keeps_word m) r.word [];
  name = cond (keeps_name m) r.name [];
  tokens = r.tokens;
}

abbrev mode_of : Mode → Reader → Reader
mode_of m r = record r { mode = m }

abbrev live_any : Result Reader ScriptFault → Result Reader ScriptFault
live_any (Ok r) = Ok (live r.mode r)
live_any (Err e) = Err e

-- two steps that leave the same, as far as it matters
abbrev Alike : Result Reader ScriptFault → Result Reader ScriptFault → Type 0
Alike x y = live_any x ≡ live_any y

choose : (c : Bool) (x x' y y' : Result Reader ScriptFault) → Alike x x' → Alike y y' → Alike (cond c x y) (cond c x' y')
choose true x x' y y' h k = h
choose false x x' y y' h k = k

word_alike : (r : Reader) (m : Mode) (o : ℕ) (n : List ℕ) (b : ℕ) → Alike (word_byte (record r { mode = m; opened = o; name = n }) b) (word_byte r b)
word_alike r m o n b = elim (cases_Bool (is_plain b)) [
  | inl e ↦ rw e refl
  | inr e ↦ elim (cases_Bool (b == 39)) [
    | inl f ↦ rw (e, f) refl
    | inr f ↦ elim (cases_Bool (b == 34)) [
      | inl g ↦ rw (e, f, g) refl
      | inr g ↦ elim (cases_Bool (b == 36)) [ inl h ↦ rw (e, f, g, h) refl | inr h ↦ rw (e, f, g, h) refl ]
    ]
  ]
]

-- between words nothing of the word before matters
gap_alike : (r : Reader) (m : Mode) (o l : ℕ) (p k : Bool) (w : List Symbol) (n : List ℕ) (b : ℕ) → Alike (gap_byte (record r { mode = m; opened = o; word_line = l; is_plain = p; is_number = k; word = w; name = n }) b) (gap_byte r b)
gap_alike r m o l p k w n b = elim (cases_Bool (is_blank b)) [
  | inl e ↦ rw e refl
  | inr e ↦ elim (cases_Bool (b == 10)) [
    | inl f ↦ rw (e, f) refl
    | inr f ↦ elim (cases_Bool (b == 59)) [
      | inl g ↦ rw (e, f, g) refl
      | inr g ↦ elim (cases_Bool (b == 62)) [
        | inl h ↦ rw (e, f, g, h) refl
        | inr h ↦ elim (cases_Bool (b == 35)) [ inl i ↦ rw (e, f, g, h, i) refl | inr i ↦ rw (e, f, g, h, i) (word_alike (with_begun_word r) m o n b) ]
      ]
    ]
  ]
]

in_word_alike : (r : Reader) (m : Mode) (o : ℕ) (n : List ℕ) (b : ℕ) → Alike (in_word (record r { mode = m; opened = o; name = n }) b) (in_word r b)
in_word_alike r m o n b = elim (cases_Bool ((b == 62) && r.is_number)) [
  | inl e ↦ rw e refl
  | inr e ↦ elim (cases_Bool (ends_word b)) [
    | inl f ↦ rw (e, f) (gap_alike (with_word r) modes.Gap o r.word_line r.is_plain r.is_number [] n b)
    | inr f ↦ rw (e, f) (word_alike r m o n b)
  ]
]

parameter_alike : (r : Reader) (o : ℕ) (n : List ℕ) (m : Mode) (symbol : Parameter → Symbol) (p : Option Parameter) → keeps_name m ≡ false → Alike (with_parameter (record r { name = n }) m symbol p) (with_parameter r m symbol p)
parameter_alike r o n m symbol None k = refl
parameter_alike r o n m symbol (Some p) k = rw k refl

double_alike : (r : Reader) (n : List ℕ) (b : ℕ) → Alike (in_double (record r { name = n }) b) (in_double r b)
double_alike r n b = elim (cases_Bool (b == 34)) [
  | inl e ↦ rw e refl
  | inr e ↦ elim (cases_Bool (b == 36)) [
    | inl f ↦ rw (e, f) refl
    | inr f ↦ elim (cases_Bool (b == 92)) [
      | inl g ↦ rw (e, f, g) refl
      | inr g ↦ elim (cases_Bool (b == 96)) [ inl h ↦ rw (e, f, g, h) refl | inr h ↦ rw (e, f, g, h) refl ]
    ]
  ]
]

mode_alike : (m : Mode) (r : Reader) (b : ℕ) → Alike (by_mode m (live m r) b) (by_mode m (mode_of m r) b)
mode_alike modes.Gap r b = gap_alike (mode_of modes.Gap r) modes.Gap 0 0 true true [] [] b
mode_alike modes.Semicolon r b = choose (b == 59) (unsupported (live modes.Semicolon r)) (unsupported (mode_of modes.Semicolon r)) (gap_byte (live modes.Semicolon r) b) (gap_byte (mode_of modes.Semicolon r) b) refl (gap_alike (mode_of modes.Semicolon r) modes.Semicolon 0 0 true true [] [] b)
mode_alike modes.Redirect r b =
    let q : Reader = mode_of modes.Redirect r in
    let dead : Reader = live modes.Redirect r in
    choose (b == 62) (Ok (with_token dead (redirect r.line true))) (Ok (with_token q (redirect r.line true))) (gap_byte (with_token dead (redirect r.line false)) b) (gap_byte (with_token q (redirect r.line false)) b) refl (gap_alike (with_token q (redirect r.line false)) modes.Gap 0 0 true true [] [] b)
mode_alike modes.Comment r b = choose (b == 10) (gap_byte (live modes.Comment r) b) (gap_byte (mode_of modes.Comment r) b) (Ok (live modes.Comment r)) (Ok (mode_of modes.Comment r)) (gap_alike (mode_of modes.Comment r) modes.Comment 0 0 true true [] [] b) refl
mode_alike modes.Word r b = in_word_alike (mode_of modes.Word r) modes.Word 0 [] b
mode_alike modes.Dollar r b = elim (cases_Bool (begins_name b)) [ inl e ↦ rw e refl | inr e ↦ rw e (parameter_alike (mode_of modes.Dollar r) 0 [] modes.Word bare (parameter_named b) refl) ]
mode_alike modes.Name r b = refl
mode_alike modes.Single r b = elim (cases_Bool (b == 39)) [ inl e ↦ rw e refl | inr e ↦ rw e refl ]
mode_alike modes.Double r b = double_alike (mode_of modes.Double r) [] b
mode_alike modes.QuotedDollar r b = elim (cases_Bool (begins_name b)) [ inl e ↦ rw e refl | inr e ↦ rw e (parameter_alike (mode_of modes.QuotedDollar r) 0 [] modes.Double quoted (parameter_named b) refl) ]
mode_alike modes.QuotedName r b = refl
mode_alike modes.Escape r b = elim (cases_Bool (b == 10)) [
  | inl e ↦ rw e refl
  | inr e ↦ elim (cases_Bool (is_escaped b)) [ inl f ↦ rw (e, f) refl | inr f ↦ rw (e, f) refl ]
]

end_alike : (m : Mode) (r : Reader) → end_by_mode m (live m r) ≡ end_by_mode m (mode_of m r)
end_alike modes.Gap r = refl
end_alike modes.Semicolon r = refl
end_alike modes.Redirect r = refl
end_alike modes.Comment r = refl
end_alike modes.Word r = refl
end_alike modes.Dollar r = refl
end_alike modes.Name r = refl
end_alike modes.Single r = refl
end_alike modes.Double r = refl
end_alike modes.QuotedDollar r = refl
end_alike modes.QuotedName r = refl
end_alike modes.Escape r = refl

-- Two steps that leave the same go on alike, if reading goes on from what matters alone as from all.
bind_alike : (bs : List ℕ) → ((m : Mode) (r : Reader) → read_on (live m r) bs ≡ read_on (mode_of m r) bs) → (x y : Result Reader ScriptFault) → Alike x y → (x >>= λ r. read_on r bs) ≡ (y >>= λ r. read_on r bs)
bind_alike bs h x y same = sym (forgotten x) ∙ (ap (λ z. z >>= λ r. read_on r bs) same ∙ forgotten y)
  where
    forgotten : (z : Result Reader ScriptFault) → (live_any z >>= λ r. read_on r bs) ≡ (z >>= λ r. read_on r bs)
    forgotten (Ok r) = h r.mode r
    forgotten (Err e) = refl

read_alike : (bs : List ℕ) (m : Mode) (r : Reader) → read_on (live m r) bs ≡ read_on (mode_of m r) bs
unfolding read_on next_byte at_end
read_alike [] m r = end_alike m r
read_alike (b ∷ bs) m r = bind_alike bs (read_alike bs) (by_mode m (live m r) b) (by_mode m (mode_of m r) b) (mode_alike m r b)

-- between words only the line and the tokens matter
pub same_between : (r q : Reader) (bs : List ℕ) → r.mode ≡ modes.Gap → q.mode ≡ modes.Gap → r.line ≡ q.line → r.tokens ≡ q.tokens → read_on r bs ≡ read_on q bs
same_between r q bs m n l t =
    let here : read_on (live modes.Gap r) bs ≡ read_on r bs = read_alike bs modes.Gap r ∙ ap (λ k. read_on (mode_of k r) bs) (sym m) in
    let there : read_on (live modes.Gap q) bs ≡ read_on q bs = read_alike bs modes.Gap q ∙ ap (λ k. read_on (mode_of k q) bs) (sym n) in
    let same : live modes.Gap r ≡ live modes.Gap q = rw (l, t) refl in
    sym here ∙ (ap (λ k. read_on k bs) same ∙ there)

-- a reader that has one token, and the same place as another that has none
once : (r q : Reader) (t : Token) (rest : List ℕ) → r.mode ≡ modes.Gap → r.tokens ≡ [] → q.mode ≡ modes.Gap → q.line ≡ r.line → q.tokens ≡ t ∷ [] → read_on q rest ≡ handed (t ∷ []) (read_on r rest)
once r q t rest m none qm ql qt =
    let without : Reader = record q { tokens = [] } in
    let split : read_on q rest ≡ handed (t ∷ []) (read_on without rest) = ap (λ ts. read_on (record q { tokens = ts }) rest) qt ∙ read_over (t ∷ []) rest without in
    split ∙ ap (λ read. handed (t ∷ []) read) (same_between without r rest qm m ql (sym none))

-- a word of plain bytes alone
pub plain_once : (r : Reader) (text bytes rest : List ℕ) (n : ℕ) → r.mode ≡ modes.Gap → r.tokens ≡ [] → text ≡ bytes ++ rest → bytes ≡ take n text → all_plain (take n text) ≡ true → (length bytes == 0) ≡ false → ends_plainly rest ≡ true → read_on r text ≡ handed (word r.line true (map byte bytes) ∷ []) (read_on r rest)
plain_once r text bytes rest n m none t f plain some stop =
    let all : all_plain bytes ≡ true = ap all_plain f ∙ plain in
    let one : r.tokens ++ word r.line true (map byte bytes) ∷ [] ≡ word r.line true (map byte bytes) ∷ [] = ap (λ ts. ts ++ word r.line true (map byte bytes) ∷ []) none in
    ap (λ bs. read_on r bs) t ∙ (sym (word_passed r bytes rest m some all stop) ∙ once r _ (word r.line true (map byte bytes)) rest m none refl refl one)

-- a word that is one pair of quotes
pub quoted_once : (r : Reader) (text bytes rest : List ℕ) → r.mode ≡ modes.Gap → r.tokens ≡ [] → read_on (with_quoted r bytes) rest ≡ read_on r text → read_on r text ≡ handed (word r.line false (map byte bytes) ∷ []) (read_on r rest)
quoted_once r text bytes rest m none h =
    let one : r.tokens ++ word r.line false (map byte bytes) ∷ [] ≡ word r.line false (map byte bytes) ∷ [] = ap (λ ts. ts ++ word r.line false (map byte bytes) ∷ []) none in
    sym h ∙ once r (with_quoted r bytes) (word r.line false (map byte bytes)) rest m none refl refl one

-- the end of a line
pub newline_once : (r : Reader) (text : List ℕ) → 1 ≤ length text → get_or text 0 0 ≡ 10 → r.mode ≡ modes.Gap → r.tokens ≡ [] → read_on r text ≡ handed (newline r.line ∷ []) (read_on (record r { line = r.line + 1 }) (take (length text - 1) (drop 1 text)))
newline_once r text some is m none =
    let rest = take (length text - 1) (drop 1 text) in
    let one : r.tokens ++ newline r.line ∷ [] ≡ newline r.line ∷ [] = ap (λ ts. ts ++ newline r.line ∷ []) none in
    ap (λ bs. read_on r bs) (sym (head_on text some)) ∙ (ap (λ q. read_on q (get_or text 0 0 ∷ rest)) (sym (in_mode r modes.Gap m)) ∙ (gap_line r.line r (get_or text 0 0) rest is ∙ once (record r { line = r.line + 1 }) _ (newline r.line) rest m none refl (sym (add-one r.line)) one))

not_before : (text : List ℕ) → begins_with 59 text ≡ false → IsNotBefore 59 text
not_before [] h = tt
not_before (b ∷ bs) h = λ e. both_ways (b == 59) h (eq-eqb b 59 e)

-- `;` alone
pub semicolon_once : (r : Reader) (text : List ℕ) → 1 ≤ length text → get_or text 0 0 ≡ 59 → begins_with 59 (take (length text - 1) (drop 1 text)) ≡ false → r.mode ≡ modes.Gap → r.tokens ≡ [] → read_on r text ≡ handed (semicolon r.line ∷ []) (read_on r (take (length text - 1) (drop 1 text)))
semicolon_once r text some is alone m none =
    let rest = take (length text - 1) (drop 1 text) in
    let one : r.tokens ++ semicolon r.line ∷ [] ≡ semicolon r.line ∷ [] = ap (λ ts. ts ++ semicolon r.line ∷ []) none in
    let more : Reader = token_more r (semicolon r.line) in
    ap (λ bs. read_on r bs) (sym (head_on text some)) ∙ (ap (λ q. read_on q (get_or text 0 0 ∷ rest)) (sym (in_mode r modes.Gap m)) ∙ (gap_semicolon r.line r (get_or text 0 0) rest is ∙ (semicolon_gap r.line more rest (not_before rest alone) ∙ once r _ (semicolon r.line) rest m none refl refl one)))

-- a token that the parser took
pub handed_on : (s t : Statements) (tok : Token) (read : Result (List Token) ScriptFault) (total : Result Script ScriptFault) → ((us : List Token) (whole : Result Script ScriptFault) → IsOn s (tok ∷ us) whole → IsOn t us whole) → Follows s (handed (tok ∷ []) read) total → Follows t read total
handed_on s t tok (Ok us) total takes h = takes us total h
handed_on s t tok (Err e) total takes h = h
