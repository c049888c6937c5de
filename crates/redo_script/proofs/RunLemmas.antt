-- What runs of bytes do to reading.
use Rattle.std.proofs.Common.{◌≡◌, ℕ, ◌≢◌, zero, suc, ◌<◌, ◌≤◌, ◌+◌, ◌-◌, Result, Ok, drop, add-one, Bool, true}
use Rattle.std.proofs.Common.{false, ◌&&◌, ◌==◌, List, [], ◌∷◌, ◌++◌, map, take, length, get_or, refl, sym, ap, ◌∙◌}
use Rattle.std.proofs.Common.{append_assoc, arith, inl, inr}
use Rattle.std.proofs.Math.Seq.{drop-cons}
use Rattle.std.proofs.lemmas.List.{append-nil, map-append, take_all, nil_from_length}
use Rattle.std.proofs.lemmas.Bool.{eqb-true, and_parts, or_cases}
use Rattle.redo_script.specs.declared.lexer.Mode.TheVariants as modes
use Rattle.redo_script.specs.Bytes.{is_digit, is_plain, is_blank}
use Rattle.redo_script.specs.declared.fault.ScriptFault.{ScriptFault}
use Rattle.redo_script.specs.declared.ast.Part.{Part}
use Rattle.redo_script.specs.View.{symbols_of}
use Rattle.redo_script.specs.Syntax.{byte}
use Rattle.redo_script.specs.Tokens.{Token, word, digits_then, begins_word, AtWordEnd}
use Rattle.redo_script.specs.Reading.{Reader, read_on, at_end, with_word}
use Rattle.redo_script.specs.inside.Runs.{all_plain, all_digits, ends_plainly}
use Rattle.redo_script.proofs.BitLemmas.{and_true, and_false, injected}
use Rattle.redo_script.proofs.OneByteLemmas.{at, word_begun, byte_more, gap_blank, gap_comment, gap_word, gap_end, comment_on, comment_end, comment_gap}
use Rattle.redo_script.proofs.OneByteLemmas.{word_plain, word_ends}

-- plain bytes more
abbrev bytes_more : Reader → List ℕ → Reader
bytes_more r bs = record r { is_number = r.is_number && all_digits bs; word = r.word ++ map byte bs }

and_assoc : (a b c : Bool) → ((a && b) && c) ≡ (a && (b && c))
and_assoc true b c = refl
and_assoc false b c = refl

plain_run : (r : Reader) (run rest : List ℕ) → all_plain run ≡ true → read_on (at modes.Word r.line r) (run ++ rest) ≡ read_on (at modes.Word r.line (bytes_more r run)) rest
plain_run r [] rest h = rw (and_true r.is_number, append-nil r.word) refl
plain_run r (b ∷ run) rest h =
    let p = and_parts (is_plain b) (all_plain run) h in
    let same : bytes_more (byte_more r b) run ≡ bytes_more r (b ∷ run) = rw (and_assoc r.is_number (is_digit b) (all_digits run), append_assoc r.word (byte b ∷ []) (map byte run)) refl in
    word_plain r.line r b (run ++ rest) p.0 ∙ (plain_run (byte_more r b) run rest p.1 ∙ ap (λ q. read_on (at modes.Word r.line q) rest) same)

-- a reader that stands in this mode
pub in_mode : (r : Reader) (m : modes.the_data) → r.mode ≡ m → at m r.line r ≡ r
in_mode r m e = ap (λ k. at k r.line r) (sym e)

blank_passed : (r : Reader) (b : ℕ) (bs : List ℕ) → r.mode ≡ modes.Gap → is_blank b ≡ true → read_on r bs ≡ read_on r (b ∷ bs)
blank_passed r b bs e h =
    let same = in_mode r modes.Gap e in
    ap (λ q. read_on q bs) (sym same) ∙ (sym (gap_blank r.line r b bs h) ∙ ap (λ q. read_on q (b ∷ bs)) same)

comment_passed : (r : Reader) (b : ℕ) (bs : List ℕ) → r.mode ≡ modes.Comment → (b ≡ 10 → ⊥) → read_on r bs ≡ read_on r (b ∷ bs)
comment_passed r b bs e h =
    let same = in_mode r modes.Comment e in
    ap (λ q. read_on q bs) (sym same) ∙ (sym (comment_on r.line r b bs h) ∙ ap (λ q. read_on q (b ∷ bs)) same)

bytes_passed : (r : Reader) (run rest : List ℕ) → r.mode ≡ modes.Word → all_plain run ≡ true → read_on (record r { is_number = r.is_number && all_digits run; word = r.word ++ map byte run }) rest ≡ read_on r (run ++ rest)
bytes_passed r run rest e h =
    let same = in_mode r modes.Word e in
    ap (λ q. read_on (bytes_more q run) rest) (sym same) ∙ (sym (plain_run r run rest h) ∙ ap (λ q. read_on q (run ++ rest)) same)

not_digits : (c : ℕ) (cs : List ℕ) → ends_plainly (c ∷ cs) ≡ true → digits_then (c ∷ cs) ≡ false
not_digits c cs h = elim (or_cases _ _ h) [
  | inr e ↦ rw (eqb-true c 59 e) refl
  | inl e ↦ elim (or_cases _ _ e) [
    | inr f ↦ rw (eqb-true c 10 f) refl
    | inl f ↦ elim (or_cases _ _ f) [ inl g ↦ rw (eqb-true c 32 g) refl | inr g ↦ rw (eqb-true c 9 g) refl ]
  ]
]

no_digits : (n : Bool) (rest : List ℕ) → ends_plainly rest ≡ true → (n && digits_then rest) ≡ false
no_digits n [] h = and_false n
no_digits n (c ∷ cs) h = rw (not_digits c cs h) (and_false n)

pub ends : (rest : List ℕ) → ends_plainly rest ≡ true → AtWordEnd rest
ends [] h = tt
ends (c ∷ cs) h = rw h refl

begins : (b : ℕ) → is_plain b ≡ true → begins_word b ≡ true
begins b h = rw h refl

-- a word of plain bytes alone, behind which another word can't go on
pub word_passed : (r : Reader) (run rest : List ℕ) → r.mode ≡ modes.Gap → (length run == 0) ≡ false → all_plain run ≡ true → ends_plainly rest ≡ true → read_on (record r { mode = modes.Gap; word_line = r.line; is_plain = true; is_number = all_digits run; word = []; tokens = r.tokens ++ word r.line true (map byte run) ∷ [] }) rest ≡ read_on r (run ++ rest)
word_passed r [] rest e some h n = absurd (cc some)
word_passed r (b ∷ bs) rest e some h n =
    let same = in_mode r modes.Gap e in
    let plain = and_parts (is_plain b) (all_plain bs) h in
    let begun = gap_word r.line r b (bs ++ rest) (begins b plain.0) in
    let run = plain_run (word_begun r.line r) (b ∷ bs) rest h in
    let ended = word_ends r.line (bytes_more (word_begun r.line r) (b ∷ bs)) rest (ends rest n) (no_digits (all_digits (b ∷ bs)) rest n) in
    sym (ap (λ q. read_on q (b ∷ (bs ++ rest))) (sym same) ∙ (begun ∙ (run ∙ ended)))

all_plain-next : (text : List ℕ) (i : ℕ) → i < length text → all_plain (take i text) ≡ true → is_plain (get_or text i 0) ≡ true → all_plain (take (suc i) text) ≡ true
all_plain-next [] i lt h p = absurd (omega (arith, lt))
all_plain-next (x ∷ xs) zero lt h p = rw p refl
all_plain-next (x ∷ xs) (suc i) lt h p = let q = and_parts (is_plain x) (all_plain (take i xs)) h in rw q.0 (all_plain-next xs i (omega (arith, lt)) q.1 p)

pub digits_here : (bs : List ℕ) (i : ℕ) → i < length bs → all_digits (drop i bs) ≡ (is_digit (get_or bs i 0) && all_digits (drop (i + 1) bs))
digits_here bs i lt = rw (add-one, drop-cons bs i 0 lt) refl

pub plain_here : (bs : List ℕ) (i : ℕ) → i < length bs → all_plain (take i bs) ≡ true → is_plain (get_or bs i 0) ≡ true → all_plain (take (i + 1) bs) ≡ true
plain_here bs i lt h p = rw (add-one i) (all_plain-next bs i lt h p)

pub head_on : (left : List ℕ) → 1 ≤ length left → get_or left 0 0 ∷ take (length left - 1) (drop 1 left) ≡ left
head_on [] some = absurd (omega (arith, some))
head_on (x ∷ xs) some = let e : take (length (x ∷ xs) - 1) xs ≡ xs = take_all (length (x ∷ xs) - 1) xs (omega arith) in rw e refl

pub blanks_on : (left text : List ℕ) → 1 ≤ length left → is_blank (get_or left 0 0) ≡ true → ((r : Reader) → r.mode ≡ modes.Gap → read_on r left ≡ read_on r text) → (r : Reader) → r.mode ≡ modes.Gap → read_on r (take (length left - 1) (drop 1 left)) ≡ read_on r text
blanks_on left text some blank h r m = blank_passed r (get_or left 0 0) (take (length left - 1) (drop 1 left)) m blank ∙ (ap (λ bs. read_on r bs) (head_on left some) ∙ h r m)

pub comment_on_to : (left text : List ℕ) → 1 ≤ length left → get_or left 0 0 ≢ 10 → ((r : Reader) → r.mode ≡ modes.Comment → read_on r left ≡ read_on r text) → (r : Reader) → r.mode ≡ modes.Comment → read_on r (take (length left - 1) (drop 1 left)) ≡ read_on r text
comment_on_to left text some other h r m = comment_passed r (get_or left 0 0) (take (length left - 1) (drop 1 left)) m other ∙ (ap (λ bs. read_on r bs) (head_on left some) ∙ h r m)

-- plain bytes behind the pieces of a word
pub bytes_taken : (r : Reader) (text bytes rest : List ℕ) (n : ℕ) (parts : List Part) (literal literal' : List ℕ) (is_number : Bool) → r.mode ≡ modes.Word → r.word ≡ symbols_of parts ++ map byte literal → text ≡ bytes ++ rest → bytes ≡ take n text → all_plain (take n text) ≡ true → literal' ≡ literal ++ bytes → is_number ≡ (r.is_number && all_digits bytes) → read_on (record r { is_number = is_number; word = symbols_of parts ++ map byte literal' }) rest ≡ read_on r text
bytes_taken r text bytes rest n parts literal literal' is_number m w t f plain l d =
    let all : all_plain bytes ≡ true = ap all_plain f ∙ plain in
    let more : symbols_of parts ++ map byte literal' ≡ r.word ++ map byte bytes = rw (l, w, map-append byte literal bytes) (sym (append_assoc (symbols_of parts) (map byte literal) (map byte bytes))) in
    rw (more, d) (bytes_passed r bytes rest m all ∙ ap (λ bs. read_on r bs) (sym t))

-- behind a comment, reading goes on as between words
pub comment_over : (left : List ℕ) → (1 ≤ length left → get_or left 0 0 ≡ 10) → (r : Reader) → r.mode ≡ modes.Gap → read_on r left ≡ read_on (record r { mode = modes.Comment }) left
comment_over [] h r m = ap (λ q. read_on q []) (sym (in_mode r modes.Gap m)) ∙ (gap_end r.line r ∙ sym (comment_end r.line r))
comment_over (b ∷ bs) h r m = ap (λ q. read_on q (b ∷ bs)) (sym (in_mode r modes.Gap m)) ∙ sym (comment_gap r.line r b bs (h (omega arith)))

-- a comment, up to the end of its line
pub comment_once : (r : Reader) (text rest : List ℕ) → 1 ≤ length text → get_or text 0 0 ≡ 35 → r.mode ≡ modes.Gap → read_on r rest ≡ read_on (record r { mode = modes.Comment }) (take (length text - 1) (drop 1 text)) → read_on r rest ≡ read_on r text
comment_once r text rest some is e h =
    let behind = take (length text - 1) (drop 1 text) in
    h ∙ (sym (gap_comment r.line r (get_or text 0 0) behind is) ∙ (ap (λ q. read_on q (get_or text 0 0 ∷ behind)) (in_mode r modes.Gap e) ∙ ap (λ bs. read_on r bs) (head_on text some)))

-- a word ends, behind which another can't go on
pub word_over : (r ended : Reader) (left : List ℕ) → r.mode ≡ modes.Word → ends_plainly left ≡ true → (let made : Result Reader ScriptFault = Ok (with_word r) in made ≡ Ok ended) → read_on r left ≡ read_on ended left
word_over r ended left e n made =
    let over = word_ends r.line r left (ends left n) (no_digits r.is_number left n) in
    ap (λ q. read_on q left) (sym (in_mode r modes.Word e)) ∙ (over ∙ ap (λ q. read_on q left) (injected made))

pub is_done : (r : Reader) (left : List ℕ) (total : Result (List Token) ScriptFault) → length left ≤ 0 → read_on r left ≡ total → at_end r ≡ total
unfolding read_on
is_done r left total le h =
    let none : left ≡ [] = nil_from_length left (omega arith) in
    rw none at h
