-- A text is a book's or has a first line at fault, and is that of one book at most.
use Rattle.std.proofs.Common.{◌≡◌, ◌≢◌, ℕ, zero, suc, ◌+◌, ◌<◌, ◌≤◌, Bool, true, false, cond, not, ◌||◌, List, [], ◌∷◌, ◌++◌}
use Rattle.std.proofs.Common.{refl, sym, ap, subst, ◌∙◌, Option, Some, None, append_assoc, append-nil, length, take, drop, arith}
use Rattle.std.proofs.Common.{get_or, add-one, nat_lt, take-append-drop}
use Rattle.std.proofs.lemmas.Grind.{common_steps, flat_map-append}
use Rattle.std.proofs.lemmas.List.{append_cancel_right}
use Rattle.std.proofs.lemmas.List.Folds.{list_any-append}
use Rattle.std.proofs.lemmas.List.Sums.{prefix_len-le-length}
use Rattle.std.proofs.Math.Seq.{drop-cons}
use Rattle.std.specs.List.{before_first, flat_map, list_any, position, position_or_len}
use Rattle.std.specs.Prelude.{codes, option_and_then}
use Rattle.memchr.specs.Find.{IsFirstByte, is_byte}
use Rattle.redo_path.proofs.ApartLemmas.{apart}
use Rattle.redo_path.proofs.PartLemmas.{AllByRecursion-append}
use Rattle.redo_book.specs.Book.{Begins, IsText, Record, book_lines, is_newline, record_lines, text_of}
use Rattle.redo_book.specs.inside.Reading.{IsCut, Made, Reached, at_first, next, records_of, run}
use Rattle.redo_book.proofs.MadeLemmas.{first_made}
use Rattle.redo_book.proofs.RunLemmas.{AreLines, book_is_lines, no_end, run-append, run_goes, same_lines, stuck}
use borrow.Author.Tests.{ltb-false}

-- ---- lines in a text

-- a text is cut at its first newline in one way
pub cut_line : (a b x y : List ℕ) → list_any is_newline a ≡ false → list_any is_newline b ≡ false → a ++ 10 ∷ x ≡ b ++ 10 ∷ y → (a ≡ b) × (x ≡ y)
cut_line [] [] x y h k e = (refl, cc)
cut_line [] (c ∷ b) x y h k e = let ten : 10 ≡ c = cc in let t : is_newline c ≡ true = ap is_newline (sym ten) in let f : (is_newline c || list_any is_newline b) ≡ false = k in apart (let g = rw t at f in cc)
cut_line (c ∷ a) [] x y h k e = let ten : c ≡ 10 = cc in let t : is_newline c ≡ true = ap is_newline ten in let f : (is_newline c || list_any is_newline a) ≡ false = h in apart (let g = rw t at f in cc)
cut_line (c ∷ a) (d ∷ b) x y h k e =
    let head : c ≡ d = cc in
    let tail : a ++ 10 ∷ x ≡ b ++ 10 ∷ y = cc in
    let (same, rest) = cut_line a b x y (behind_byte c a h) (behind_byte d b k) tail in
    ((λ i. head i ∷ same i), rest)
  where
    behind_byte : (c : ℕ) (a : List ℕ) → (is_newline c || list_any is_newline a) ≡ false → list_any is_newline a ≡ false
    behind_byte c a h = elim (is_newline c) as (λ b. (b || list_any is_newline a) ≡ false → list_any is_newline a ≡ false) [ true ↦ λ h. apart cc | false ↦ λ h. h ] h

pub ended : (line rest : List ℕ) → (line ++ 10 ∷ []) ++ rest ≡ line ++ 10 ∷ rest
ended line rest = append_assoc line (10 ∷ []) rest

pub text_cons : (line : List ℕ) (lines : List (List ℕ)) (rest : List ℕ) → text_of (line ∷ lines) ++ rest ≡ line ++ 10 ∷ (text_of lines ++ rest)
text_cons line lines rest = append_assoc (line ++ 10 ∷ []) (text_of lines) rest ∙ ended line (text_of lines ++ rest)

pub text_snoc : (lines : List (List ℕ)) (line rest : List ℕ) → text_of lines ++ (line ++ 10 ∷ rest) ≡ text_of (lines ++ line ∷ []) ++ rest
text_snoc lines line rest =
    sym (ap (λ t. t ++ rest) (flat_map-append (λ line. line ++ 10 ∷ []) lines (line ∷ []) ∙ ap (λ t. text_of lines ++ t) (append-nil (line ++ 10 ∷ [])))
    ∙ append_assoc (text_of lines) (line ++ 10 ∷ []) rest ∙ ap (λ t. text_of lines ++ t) (ended line rest))

pub no_bytes : (line : List ℕ) (rest : List ℕ) → line ++ 10 ∷ rest ≡ [] → ⊥
no_bytes [] rest e = cc
no_bytes (b ∷ bs) rest e = cc

-- a text of lines that begins with others has those others first
pub lines_begin : (xs ys : List (List ℕ)) (rest : List ℕ) → AreLines xs → AreLines ys → text_of xs ++ rest ≡ text_of ys → (zs : List (List ℕ)) × (ys ≡ xs ++ zs) × (rest ≡ text_of zs)
lines_begin [] ys rest h k e = (ys, refl, e)
lines_begin (x ∷ xs) [] rest h k e = absurd (no_bytes x (text_of xs ++ rest) (sym (text_cons x xs rest) ∙ e))
lines_begin (x ∷ xs) (y ∷ ys) rest h k e =
    let (same, more) = cut_line x y (text_of xs ++ rest) (text_of ys) h.0 k.0 (sym (text_cons x xs rest) ∙ e ∙ ended y (text_of ys)) in
    let (zs, tail, left) = lines_begin xs ys rest h.1 k.1 more in
    (zs, (λ i. sym same i ∷ tail i), left)

-- a text of lines has a newline, if it has a byte
text_ends : (zs : List (List ℕ)) → list_any is_newline (text_of zs) ≡ false → zs ≡ []
text_ends [] h = refl
text_ends (z ∷ zs) h =
    let some : list_any is_newline (text_of (z ∷ zs)) ≡ true = ap (list_any is_newline) (ended z (text_of zs)) ∙ list_any-append is_newline z (10 ∷ text_of zs) ∙ or_true (list_any is_newline z) in
    apart cc
  where
    or_true : (b : Bool) → (b || true) ≡ true
    or_true true = refl
    or_true false = refl

-- ---- what was read so far

-- a book's text begins with the lines that were good
pub good_begin : (lines : List (List ℕ)) (b : Made) → run at_first lines ≡ Some b → Begins lines
good_begin lines b ran =
    let r = run_goes at_first b lines first_made ran in (
      records_of b,
      text_of (codes "end" ∷ []),
      record {
        ordered = r.made.book;
        whole = sym (flat_map-append (λ line. line ++ 10 ∷ []) lines (codes "end" ∷ [])) ∙ ap (λ ls. text_of (ls ++ codes "end" ∷ [])) (sym r.lines);
      },
    )

-- the end behind good lines makes the text that of the book
pub reads_book : (text : List ℕ) (b : Made) (n : ℕ) → Reached text b n (codes "end\n") → IsText text (records_of b)
reads_book text b n h =
    let r = run_goes at_first b h.lines first_made h.made in
    record {
      ordered = r.made.book;
      whole = h.whole ∙ sym (flat_map-append (λ line. line ++ 10 ∷ []) h.lines (codes "end" ∷ [])) ∙ ap (λ ls. text_of (ls ++ codes "end" ∷ [])) (sym r.lines);
    }

-- a text is that of one book at most
pub one_book : (text : List ℕ) (rs qs : List Record) → IsText text rs → IsText text qs → rs ≡ qs
one_book text rs qs h k =
    let (zs, same, none) = lines_begin (book_lines rs) (book_lines qs) [] (book_is_lines rs h.ordered) (book_is_lines qs k.ordered) (append-nil (text_of (book_lines rs)) ∙ sym h.whole ∙ k.whole) in
    let nothing : zs ≡ [] = text_ends zs (ap (list_any is_newline) (sym none)) in
    let lines : book_lines rs ≡ book_lines qs = sym (same ∙ ap (λ zs. book_lines rs ++ zs) nothing ∙ append-nil (book_lines rs)) in
    same_lines rs qs h.ordered k.ordered (append_cancel_right (flat_map record_lines rs) (flat_map record_lines qs) (codes "end" ∷ []) lines)

-- ---- faults

-- a line that doesn't go on what was good
pub bad_line : (lines : List (List ℕ)) (b : Made) (line : List ℕ) → AreLines lines → list_any is_newline line ≡ false → run at_first lines ≡ Some b → next b line ≡ None → line ≢ codes "end" → Begins (lines ++ line ∷ []) → ⊥
bad_line lines b line each one ran none other (rs, rest, h) =
    let are = AllByRecursion-append (λ line. list_any is_newline line ≡ false) lines (line ∷ []) each (one, tt) in
    let (zs, same, more) = lines_begin (lines ++ line ∷ []) (book_lines rs) rest are (book_is_lines rs h.ordered) h.whole in
    let (last, end) = stuck b lines zs line rs ran none h.ordered (same ∙ append_assoc lines (line ∷ []) zs) in
    other end

-- what is left has no whole line
pub unfinished : (lines : List (List ℕ)) (b : Made) (text rest : List ℕ) → AreLines lines → run at_first lines ≡ Some b → text ≡ text_of lines ++ rest → list_any is_newline rest ≡ false → (rs : List Record) → IsText text rs → ⊥
unfinished lines b text rest each ran whole none rs h =
    let (zs, same, left) = lines_begin lines (book_lines rs) rest each (book_is_lines rs h.ordered) (sym whole ∙ h.whole) in
    let nothing : zs ≡ [] = text_ends zs (ap (list_any is_newline) (sym left) ∙ none) in
    let all : lines ≡ book_lines rs = sym (same ∙ ap (λ zs. lines ++ zs) nothing ∙ append-nil lines) in
    let stops : run at_first lines ≡ None =
    ap (run at_first) all ∙ run-append at_first (flat_map record_lines rs) (codes "end" ∷ []) ∙ never (run at_first (flat_map record_lines rs)) in
    let e : ◌≡◌ {A = Option Made} (Some b) None = sym ran ∙ stops in
    apart cc
  where
    never : (o : Option Made) → option_and_then (λ c. run c (codes "end" ∷ [])) o ≡ None
    never None = refl
    never (Some c) = refl

-- nothing stands behind the end
pub behind_end : (lines : List (List ℕ)) (b : Made) (rest : List ℕ) (rs : List Record) → AreLines lines → run at_first lines ≡ Some b → IsText (text_of (lines ++ codes "end" ∷ []) ++ rest) rs → rest ≡ []
behind_end lines b rest rs each ran h =
    let are = AllByRecursion-append (λ line. list_any is_newline line ≡ false) lines (codes "end" ∷ []) each (refl, tt) in
    let (zs, same, left) = lines_begin (lines ++ codes "end" ∷ []) (book_lines rs) rest are (book_is_lines rs h.ordered) h.whole in
    let (last, end) = stuck b lines zs (codes "end") rs ran (no_end b) h.ordered (same ∙ append_assoc lines (codes "end" ∷ []) zs) in
    left ∙ ap text_of last

-- ---- cut at the first newline

cond_none : (b : Bool) (n : ℕ) → cond b (Some n) None ≡ None → b ≡ false
cond_none true n h = cc
cond_none false n h = refl

cond_some : (b : Bool) (n m : ℕ) → cond b (Some n) None ≡ Some m → (b ≡ true) × (n ≡ m)
cond_some true n m h = (refl, cc)
cond_some false n m h = apart cc

all_fail : (p : ℕ → Bool) (xs : List ℕ) → position_or_len p xs ≡ length xs → list_any p xs ≡ false
all_fail p [] h = refl
all_fail p (x ∷ xs) h = elim (p x) as (λ b. p x ≡ b → cond (not b) (1 + position_or_len p xs) 0 ≡ length (x ∷ xs) → (b || list_any p xs) ≡ false) [
  | true ↦ λ e l. absurd (omega arith)
  | false ↦ λ e l. all_fail p xs (omega arith)
] refl h

-- no newline was found
pub none_found : (xs : List ℕ) → position is_newline xs ≡ None → list_any is_newline xs ≡ false
none_found xs h =
    let e = ltb-false (position_or_len is_newline xs) (length xs) (cond_none _ _ h) in
    all_fail is_newline xs (omega (arith, e, prefix_len-le-length (λ x. not (is_newline x)) xs))

none_front : (p : ℕ → Bool) (xs : List ℕ) (k : ℕ) → k ≤ position_or_len p xs → list_any p (take k xs) ≡ false
none_front p xs zero h = refl
none_front p [] (suc k) h = refl
none_front p (x ∷ xs) (suc k) h = elim (p x) as (λ b. p x ≡ b → suc k ≤ cond (not b) (1 + position_or_len p xs) 0 → list_any p (take (suc k) (x ∷ xs)) ≡ false) [
  | true ↦ λ e l. absurd (omega arith)
  | false ↦ λ e l. rw e (none_front p xs k (omega arith))
] refl h

at_first_newline : (xs : List ℕ) → position_or_len is_newline xs < length xs → get_or xs (position_or_len is_newline xs) 0 ≡ 10
at_first_newline [] h = absurd (omega arith)
at_first_newline (x ∷ xs) h = elim (is_newline x) as (λ b. is_newline x ≡ b → cond (not b) (1 + position_or_len is_newline xs) 0 < length (x ∷ xs) → get_or (x ∷ xs) (cond (not b) (1 + position_or_len is_newline xs) 0) 0 ≡ 10) [
  | true ↦ λ e l. grind (arith, common_steps)
  | false ↦ λ e l. let k : 1 + position_or_len is_newline xs ≡ suc (position_or_len is_newline xs) = omega arith in rw k (at_first_newline xs (omega arith))
] refl h

-- a newline was found, behind a line
pub cut_at : (xs : List ℕ) (n : ℕ) → position is_newline xs ≡ Some n → IsCut xs (take n xs) (drop (n + 1) xs)
cut_at xs n h =
    let (inside, at) = cond_some _ (position_or_len is_newline xs) n h in
    let lt : position_or_len is_newline xs < length xs = grind (arith, common_steps) in
    let within : n < length xs = omega arith in
    let here : get_or xs n 0 ≡ 10 = subst (λ n. get_or xs n 0 ≡ 10) at (at_first_newline xs lt) in
    record {
      whole = sym (take-append-drop n xs) ∙ ap (λ t. take n xs ++ t) ((rw add-one (drop-cons xs n 0 within)) ∙ ap (λ x. x ∷ drop (n + 1) xs) here);
      one = none_front is_newline xs n (omega arith);
    }

pub front_at : (xs : List ℕ) (n : ℕ) → position is_newline xs ≡ Some n → take n xs ≡ before_first is_newline xs
front_at xs n h = let (inside, at) = cond_some _ (position_or_len is_newline xs) n h in ap (λ k. take k xs) (sym at)

-- the first place that was found is the position
place_first : (xs : List ℕ) (k : ℕ) → ((j : ℕ) → j < k → is_newline (get_or xs j 0) ≡ true → ⊥) → is_newline (get_or xs k 0) ≡ true → k < length xs → position_or_len is_newline xs ≡ k
place_first [] k none here l = absurd (omega arith)
place_first (x ∷ xs) zero none here l = rw here refl
place_first (x ∷ xs) (suc k) none here l =
    elim (is_newline x) as (λ b. is_newline x ≡ b → cond (not b) (1 + position_or_len is_newline xs) 0 ≡ suc k) [
      | true ↦ λ e. absurd (none zero (omega arith) e)
      | false ↦ λ e. let r = place_first xs k (λ j lt h. none (suc j) (omega arith) h) here (omega arith) in omega arith
    ] refl

place_none : (xs : List ℕ) → ((j : ℕ) → j < length xs → is_newline (get_or xs j 0) ≡ true → ⊥) → position_or_len is_newline xs ≡ length xs
place_none [] none = refl
place_none (x ∷ xs) none =
    elim (is_newline x) as (λ b. is_newline x ≡ b → cond (not b) (1 + position_or_len is_newline xs) 0 ≡ length (x ∷ xs)) [
      | true ↦ λ e. absurd (none zero (omega arith) e)
      | false ↦ λ e. let r = place_none xs (λ j lt h. none (suc j) (omega arith) h) in omega arith
    ] refl

pub position_found : (xs : List ℕ) (r : Option ℕ) → IsFirstByte (is_byte 10) xs r → r ≡ position is_newline xs
position_found xs None h =
    let e = place_none xs (λ j l t. h j (omega arith) l t) in
    rw e (let f : nat_lt (length xs) (length xs) ≡ false = grind (arith, common_steps) in rw f refl)
position_found xs (Some k) h =
    let first = h.0 in
    let l : k < length xs = first.high in
    let e = place_first xs k (λ j lt t. first.before j (omega arith) lt t) h.1 l in
    rw e (let f : nat_lt k (length xs) ≡ true = grind (arith, common_steps) in rw f refl)
