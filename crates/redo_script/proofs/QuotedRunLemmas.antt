-- What runs of bytes in quotes do to reading.
use Rattle.std.proofs.Common.{◌≡◌, ℕ, zero, suc, ◌<◌, ◌≤◌, ◌+◌, ◌-◌, drop, Bool, true, false, not, ◌==◌, List, [], ◌∷◌}
use Rattle.std.proofs.Common.{◌++◌, map, take, length, get_or, add-one, refl, sym, ap, ◌∙◌, append_assoc, arith, ◌⊎◌}
use Rattle.std.proofs.Common.{inl, inr, Some, Result, Ok}
use Rattle.std.proofs.lemmas.List.{append-nil, map-append, take_all}
use Rattle.std.proofs.lemmas.Bool.{and_parts, or_parts, or_cases, both_ways, eq-eqb, eqb-true}
use Rattle.redo_script.specs.declared.lexer.Mode.{Mode}
use Rattle.redo_script.specs.declared.lexer.Mode.TheVariants as modes
use Rattle.redo_script.specs.declared.ast.Part.{Part}
use Rattle.redo_script.specs.View.{symbols_of}
use Rattle.redo_script.specs.declared.ast.Parameter.{Parameter}
use Rattle.redo_script.specs.declared.fault.ScriptFault.{ScriptFault}
use Rattle.redo_script.specs.Syntax.{byte, quoted}
use Rattle.redo_script.specs.Tokens.{is_escaped, line_after, begins_word}
use Rattle.redo_script.specs.Reading.{Reader, read_on, parameter_named}
use Rattle.redo_script.specs.inside.Calls.{with_symbols}
use Rattle.redo_script.specs.inside.Runs.{is_special, is_quote, all_quotable, ends_plainly}
use Rattle.redo_script.specs.inside.Lexer.{with_quoted}
use Rattle.redo_script.proofs.BitLemmas.{injected}
use Rattle.redo_script.proofs.OneByteLemmas.{at, symbol_more, single_byte, double_byte, word_begun, opened_at, gap_word}
use Rattle.redo_script.proofs.OneByteLemmas.{word_single, word_double, single_closes, double_closes, double_dollar}
use Rattle.redo_script.proofs.OneByteLemmas.{quoted_dollar_read, word_ends}
use Rattle.redo_script.proofs.RunLemmas.{in_mode, ends, head_on}
use Rattle.redo_script.specs.Bytes.{is_plain}

abbrev quoted_more : Reader → List ℕ → Reader
quoted_more r bs = record r { word = r.word ++ map byte bs }

not_so : (b : Bool) → not b ≡ true → b ≡ false
not_so true h = absurd (both_ways (not true) refl h)
not_so false h = refl

-- a reader in quotes of this kind takes such a byte into the word
abbrev Takes : Mode → Type 0
Takes m = (r : Reader) (b : ℕ) (bs : List ℕ) → is_special b ≡ false → read_on (at m r.line r) (b ∷ bs) ≡ read_on (at m r.line (symbol_more r (byte b))) bs

takes_single : Takes modes.Single
takes_single r b bs h =
    let p = or_parts _ (b == 10) h in
    let q = or_parts (is_escaped b) (b == 39) p.0 in
    let line : line_after r.line b ≡ r.line = rw p.1 refl in
    single_byte r.line r b bs (λ e. both_ways (b == 39) q.1 (eq-eqb b 39 e)) ∙ ap (λ l. read_on (at modes.Single l (symbol_more r (byte b))) bs) line

takes_double : Takes modes.Double
takes_double r b bs h =
    let p = or_parts _ (b == 10) h in
    let q = or_parts (is_escaped b) (b == 39) p.0 in
    let line : line_after r.line b ≡ r.line = rw p.1 refl in
    double_byte r.line r b bs q.0 ∙ ap (λ l. read_on (at modes.Double l (symbol_more r (byte b))) bs) line

quoted_run : (m : Mode) → Takes m → (r : Reader) (run rest : List ℕ) → all_quotable run ≡ true → read_on (at m r.line r) (run ++ rest) ≡ read_on (at m r.line (quoted_more r run)) rest
quoted_run m takes r [] rest h = rw (append-nil r.word) refl
quoted_run m takes r (b ∷ run) rest h =
    let p = and_parts (not (is_special b)) (all_quotable run) h in
    let same : quoted_more (symbol_more r (byte b)) run ≡ quoted_more r (b ∷ run) = rw (append_assoc r.word (byte b ∷ []) (map byte run)) refl in
    takes r b (run ++ rest) (not_so (is_special b) p.0) ∙ (quoted_run m takes (symbol_more r (byte b)) run rest p.1 ∙ ap (λ q. read_on (at m r.line q) rest) same)

run_over : (m : Mode) → Takes m → (r : Reader) (text bytes rest : List ℕ) (n : ℕ) → r.mode ≡ m → text ≡ bytes ++ rest → bytes ≡ take n text → all_quotable (take n text) ≡ true → read_on (quoted_more r bytes) rest ≡ read_on r text
run_over m takes r text bytes rest n e t f quotable =
    let all : all_quotable bytes ≡ true = ap all_quotable f ∙ quotable in
    let same = in_mode r m e in
    ap (λ q. read_on (quoted_more q bytes) rest) (sym same) ∙ (sym (quoted_run m takes r bytes rest all) ∙ (ap (λ q. read_on q (bytes ++ rest)) same ∙ ap (λ bs. read_on r bs) (sym t)))

run_passed : (m : Mode) → Takes m → (r : Reader) (text bytes rest : List ℕ) (n : ℕ) (parts : List Part) (literal literal' : List ℕ) → r.mode ≡ m → r.word ≡ symbols_of parts ++ map byte literal → text ≡ bytes ++ rest → bytes ≡ take n text → all_quotable (take n text) ≡ true → literal' ≡ literal ++ bytes → read_on (record r { word = symbols_of parts ++ map byte literal' }) rest ≡ read_on r text
run_passed m takes r text bytes rest n parts literal literal' e w t f quotable l =
    let more : symbols_of parts ++ map byte literal' ≡ r.word ++ map byte bytes = rw (l, w, map-append byte literal bytes) (sym (append_assoc (symbols_of parts) (map byte literal) (map byte bytes))) in
    rw more (run_over m takes r text bytes rest n e t f quotable)

-- bytes in double quotes that are a piece of their own
pub piece_taken : (r new : Reader) (text bytes rest : List ℕ) (n : ℕ) → r.mode ≡ modes.Double → text ≡ bytes ++ rest → bytes ≡ take n text → all_quotable (take n text) ≡ true → (let made : Result Reader ScriptFault = Ok (with_symbols r r.mode (map byte bytes)) in made ≡ Ok new) → read_on new rest ≡ read_on r text
piece_taken r new text bytes rest n e t f quotable made = ap (λ q. read_on q rest) (sym (injected made)) ∙ run_over modes.Double takes_double r text bytes rest n e t f quotable

-- bytes behind the pieces of a word, in quotes
pub quoted_taken : (r : Reader) (text bytes rest : List ℕ) (n : ℕ) (parts : List Part) (literal literal' : List ℕ) → (r.mode ≡ modes.Single) ⊎ (r.mode ≡ modes.Double) → r.word ≡ symbols_of parts ++ map byte literal → text ≡ bytes ++ rest → bytes ≡ take n text → all_quotable (take n text) ≡ true → literal' ≡ literal ++ bytes → read_on (record r { word = symbols_of parts ++ map byte literal' }) rest ≡ read_on r text
quoted_taken r text bytes rest n parts literal literal' (inl e) w t f quotable l = run_passed modes.Single takes_single r text bytes rest n parts literal literal' e w t f quotable l
quoted_taken r text bytes rest n parts literal literal' (inr e) w t f quotable l = run_passed modes.Double takes_double r text bytes rest n parts literal literal' e w t f quotable l

quotable_next : (text : List ℕ) (i : ℕ) → i < length text → all_quotable (take i text) ≡ true → is_special (get_or text i 0) ≡ false → all_quotable (take (suc i) text) ≡ true
quotable_next [] i lt h p = absurd (omega (arith, lt))
quotable_next (x ∷ xs) zero lt h p = rw p refl
quotable_next (x ∷ xs) (suc i) lt h p = let q = and_parts (not (is_special x)) (all_quotable (take i xs)) h in rw q.0 (quotable_next xs i (omega (arith, lt)) q.1 p)

pub quotable_here : (bs : List ℕ) (i : ℕ) → i < length bs → all_quotable (take i bs) ≡ true → is_special (get_or bs i 0) ≡ false → all_quotable (take (i + 1) bs) ≡ true
quotable_here bs i lt h p = rw (add-one i) (quotable_next bs i lt h p)

quote_run : (m : Mode) → Takes m → (q : ℕ) → ((r : Reader) (bs : List ℕ) → read_on (at modes.Word r.line r) (q ∷ bs) ≡ read_on (at m r.line (opened_at r.line r)) bs) → ((r : Reader) (bs : List ℕ) → read_on (at m r.line r) (q ∷ bs) ≡ read_on (at modes.Word r.line r) bs) → begins_word q ≡ true → (r : Reader) (run rest : List ℕ) → r.mode ≡ modes.Gap → all_quotable run ≡ true → ends_plainly rest ≡ true → read_on (with_quoted r run) rest ≡ read_on r (q ∷ (run ++ q ∷ rest))
quote_run m takes q opens closes begins r run rest e h n =
    let same = in_mode r modes.Gap e in
    let begun = word_begun r.line r in
    let inside = opened_at r.line begun in
    let full = quoted_more inside run in
    let start = gap_word r.line r q (run ++ q ∷ rest) begins in
    let quote = opens begun (run ++ q ∷ rest) in
    let taken = quoted_run m takes inside run (q ∷ rest) h in
    let closed = closes full rest in
    let ended = word_ends r.line full rest (ends rest n) refl in
    sym (ap (λ k. read_on k (q ∷ (run ++ q ∷ rest))) (sym same) ∙ (start ∙ (quote ∙ (taken ∙ (closed ∙ ended)))))

-- a word that is one pair of quotes
quoted_passed : (q c : ℕ) (r : Reader) (run rest : List ℕ) → (q ≡ 39) ⊎ (q ≡ 34) → c ≡ q → r.mode ≡ modes.Gap → all_quotable run ≡ true → ends_plainly rest ≡ true → read_on (with_quoted r run) rest ≡ read_on r (q ∷ (run ++ c ∷ rest))
unfolding is_plain
quoted_passed q c r run rest (inl is) same e h n = rw (same, is) (quote_run modes.Single takes_single 39 (λ s bs. word_single s.line s 39 bs refl) (λ s bs. single_closes s.line s 39 bs refl) refl r run rest e h n)
quoted_passed q c r run rest (inr is) same e h n = rw (same, is) (quote_run modes.Double takes_double 34 (λ s bs. word_double s.line s 34 bs refl) (λ s bs. double_closes s.line s 34 bs refl) refl r run rest e h n)

which_quote : (q : ℕ) → is_quote q ≡ true → (q ≡ 39) ⊎ (q ≡ 34)
which_quote q h = elim (or_cases (q == 39) (q == 34) h) [ inl e ↦ inl (eqb-true q 39 e) | inr e ↦ inr (eqb-true q 34 e) ]

pub quoted_here : (text bytes closing : List ℕ) (n : ℕ) → 1 ≤ length text → 1 ≤ length closing → is_quote (get_or text 0 0) ≡ true → get_or closing 0 0 ≡ get_or text 0 0 → take (length text - 1) (drop 1 text) ≡ bytes ++ closing → bytes ≡ take n (take (length text - 1) (drop 1 text)) → all_quotable (take n (take (length text - 1) (drop 1 text))) ≡ true → ends_plainly (take (length closing - 1) (drop 1 closing)) ≡ true → (r : Reader) → r.mode ≡ modes.Gap → read_on (with_quoted r bytes) (take (length closing - 1) (drop 1 closing)) ≡ read_on r text
quoted_here text bytes closing n some last is same split front quotable end r e =
    let q = get_or text 0 0 in
    let all : all_quotable bytes ≡ true = ap all_quotable front ∙ quotable in
    let passed = quoted_passed q (get_or closing 0 0) r bytes (take (length closing - 1) (drop 1 closing)) (which_quote q is) same e all end in
    passed ∙ (ap (λ xs. read_on r (q ∷ (bytes ++ xs))) (head_on closing last) ∙ (ap (λ xs. read_on r (q ∷ xs)) (sym split) ∙ ap (λ xs. read_on r xs) (head_on text some)))

-- a parameter in double quotes
pub parameter_taken : (r new : Reader) (text : List ℕ) (p : Parameter) → 2 ≤ length text → get_or text 0 0 ≡ 36 → parameter_named (get_or text 1 0) ≡ Some p → r.mode ≡ modes.Double → (let made : Result Reader ScriptFault = Ok (with_symbols r modes.Double (quoted p ∷ [])) in made ≡ Ok new) → read_on new (take (length text - 2) (drop 2 text)) ≡ read_on r text
parameter_taken r new [] p some is named e made = absurd (omega (arith, some))
parameter_taken r new (a ∷ []) p some is named e made = absurd (omega (arith, some))
parameter_taken r new (a ∷ b ∷ bs) p some is named e made =
    let same = in_mode r modes.Double e in
    let dollar = double_dollar r.line r a (b ∷ bs) is in
    let read = quoted_dollar_read r.line r b p bs named in
    let whole : take (length (a ∷ b ∷ bs) - 2) bs ≡ bs = take_all (length (a ∷ b ∷ bs) - 2) bs (omega arith) in
    rw whole (sym (ap (λ q. read_on q (a ∷ b ∷ bs)) (sym same) ∙ (dollar ∙ (read ∙ ap (λ q. read_on q bs) (injected made)))))
