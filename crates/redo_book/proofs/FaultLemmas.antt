-- The first line at fault.
use Rattle.std.proofs.Common.{◌≡◌, ◌≢◌, ℕ, zero, suc, ◌+◌, ◌<◌, ◌≤◌, Bool, true, false, ◌||◌, List, [], ◌∷◌, ◌++◌}
use Rattle.std.proofs.Common.{refl, sym, ap, subst, ◌∙◌, Some, None, append_assoc, length, take, drop, arith}
use Rattle.std.proofs.Common.{◌==◌, inl, inr, length-append}
use Rattle.std.proofs.lemmas.Grind.{common_steps, flat_map-append}
use Rattle.std.proofs.lemmas.List.Folds.{list_any-append}
use Rattle.std.specs.List.{before_first, list_any, position}
use Rattle.std.specs.Prelude.{MatchBool, Err, codes, option_and_then}
use Rattle.std.specs.Str.{bytes_eq}
use Rattle.redo_path.proofs.ApartLemmas.{apart}
use Rattle.redo_path.proofs.PartLemmas.{AllByRecursion-append}
use Rattle.redo_book.specs.declared.faults.BookFault.{BookFault}
use Rattle.redo_book.specs.declared.faults.BookFault.TheVariants.{Line, Memory}
use Rattle.redo_book.specs.Book.{Begins, IsRefused, IsText, IsTextOrRefused, Record, Refuses, RefusesAll, is_newline}
use Rattle.redo_book.specs.Book.{text_of}
use Rattle.redo_book.specs.inside.Reading.{IsCut, Made, Makes, Reached, at_first, next, records_of, run}
use Rattle.redo_book.proofs.MadeLemmas.{first_made}
use Rattle.redo_book.proofs.RunLemmas.{AreLines, run-append, run_goes}
use Rattle.redo_book.proofs.TextLemmas.{bad_line, behind_end, cut_at, cut_line, front_at, good_begin, no_bytes, none_found}
use Rattle.redo_book.proofs.TextLemmas.{reads_book, text_cons, text_snoc, unfinished}
use Rattle.redo_book.proofs.WordLemmas.{same_bytes}

-- ---- the first line

-- a newline has a place
found_some : (xs : List ℕ) → list_any is_newline xs ≡ true → (k : ℕ) × (position is_newline xs ≡ Some k)
found_some xs e = elim (position is_newline xs) as (λ o. position is_newline xs ≡ o → (k : ℕ) × (o ≡ Some k)) [
  | None ↦ λ f. let none = none_found xs f in apart cc
  | Some k ↦ λ f. (k, refl)
] refl

some_newline : (line rest : List ℕ) → list_any is_newline (line ++ 10 ∷ rest) ≡ true
some_newline line rest = list_any-append is_newline line (10 ∷ rest) ∙ or_true (list_any is_newline line)
  where
    or_true : (b : Bool) → (b || true) ≡ true
    or_true true = refl
    or_true false = refl

-- the first line of a text
pub front_line : (line rest : List ℕ) → list_any is_newline line ≡ false → before_first is_newline (line ++ 10 ∷ rest) ≡ line
front_line line rest one =
    let (k, found) = found_some (line ++ 10 ∷ rest) (some_newline line rest) in
    let cut = cut_at (line ++ 10 ∷ rest) k found in
    let (same, more) = cut_line line (take k (line ++ 10 ∷ rest)) rest (drop (k + 1) (line ++ 10 ∷ rest)) one cut.one cut.whole in
    sym (front_at (line ++ 10 ∷ rest) k found) ∙ sym same

cut_some : (text line rest : List ℕ) → IsCut text line rest → list_any is_newline text ≡ true
cut_some text line rest cut = ap (list_any is_newline) cut.whole ∙ some_newline line rest

cut_front : (text line rest : List ℕ) → IsCut text line rest → line ≡ before_first is_newline text
cut_front text line rest cut = sym (ap (before_first is_newline) cut.whole ∙ front_line line rest cut.one)

-- ---- line by line

pub reached_first : (text : List ℕ) → Reached text at_first 1 text
reached_first text = record { lines = []; each = tt; whole = refl; number = refl; made = refl }

length-snoc : (lines : List (List ℕ)) (line : List ℕ) → length (lines ++ line ∷ []) ≡ length lines + 1
length-snoc lines line = grind (arith, common_steps)

-- a good line more was read
pub reached_next : (text : List ℕ) (b c : Made) (n : ℕ) (rest line left : List ℕ) → Reached text b n rest → IsCut rest line left → next b line ≡ Some c → Reached text c (n + 1) left
reached_next text b c n rest line left h cut good = record {
  lines = h.lines ++ line ∷ [];
  each = AllByRecursion-append (λ line. list_any is_newline line ≡ false) h.lines (line ∷ []) h.each (cut.one, tt);
  whole = h.whole ∙ ap (λ t. text_of h.lines ++ t) cut.whole ∙ text_snoc h.lines (line) (left);
  number = let l = length-snoc h.lines (line) in let m = h.number in omega arith;
  made = run-append at_first h.lines (line ∷ []) ∙ ap (option_and_then (λ c. run c (line ∷ []))) h.made ∙ ap (option_and_then (λ c. run c [])) good;
}

-- ---- each way to be refused

pub refused_unfinished : (text : List ℕ) (b : Made) (n : ℕ) (rest : List ℕ) → Reached text b n rest → list_any is_newline rest ≡ false → IsRefused text n
refused_unfinished text b n rest h none = record {
  lines = h.lines;
  rest = rest;
  each = h.each;
  whole = h.whole;
  number = h.number;
  begins = good_begin h.lines b h.made;
  fault = rw none (unfinished h.lines b text rest h.each h.made h.whole none);
}

pub refused_line : (text : List ℕ) (b : Made) (n : ℕ) (rest line left : List ℕ) → Reached text b n rest → IsCut rest line left → next b (line) ≡ None → line ≢ codes "end" → IsRefused text n
refused_line text b n rest line left h cut none other = record {
  lines = h.lines;
  rest = rest;
  each = h.each;
  whole = h.whole;
  number = h.number;
  begins = good_begin h.lines b h.made;
  fault = rw (cut_some rest line left cut) (subst (λ l. Begins (h.lines ++ l ∷ []) → ⊥) (cut_front rest line left cut) (bad_line h.lines b (line) h.each cut.one h.made none other));
}

-- with their end, good lines are a book's
whole_begin : (lines : List (List ℕ)) (b : Made) → run at_first lines ≡ Some b → Begins (lines ++ codes "end" ∷ [])
whole_begin lines b ran =
    let (rs, rest, h) = good_begin lines b ran in
    let reached : Reached (text_of lines ++ codes "end\n") b (length lines + 1) (codes "end\n") = record { lines = lines; each = (run_goes at_first b lines first_made ran).each; whole = refl; number = refl; made = ran } in
    (records_of b, [], subst (λ t. IsText t (records_of b)) (text_snoc lines (codes "end") []) (reads_book (text_of lines ++ codes "end\n") b (length lines + 1) reached))

pub refused_behind : (text : List ℕ) (b : Made) (n : ℕ) (rest line left : List ℕ) → Reached text b n rest → IsCut rest line left → line ≡ codes "end" → left ≢ [] → IsRefused text (n + 1)
refused_behind text b n rest line left h cut end more =
    let lines = h.lines ++ codes "end" ∷ [] in
    let whole : text ≡ text_of lines ++ left = h.whole ∙ ap (λ t. text_of h.lines ++ t) (cut.whole ∙ ap (λ l. l ++ 10 ∷ left) end) ∙ text_snoc h.lines (codes "end") left in
    record {
      lines = lines;
      rest = left;
      each = AllByRecursion-append (λ line. list_any is_newline line ≡ false) h.lines (codes "end" ∷ []) h.each (refl, tt);
      whole = whole;
      number = let l = length-snoc h.lines (codes "end") in let m = h.number in omega arith;
      begins = whole_begin h.lines b h.made;
      fault = elim (list_any is_newline left) as (λ some. MatchBool some (Begins (lines ++ before_first is_newline left ∷ []) → ⊥) ((book : List Record) → IsText text book → ⊥)) [
        | true ↦ λ (rs, rest, is).
            let line = before_first is_newline left in
            no_bytes line rest (behind_end h.lines b (line ++ 10 ∷ rest) rs h.each h.made (subst (λ t. IsText t rs) (sym (text_snoc lines line rest)) is))
        | false ↦ λ rs is. more (behind_end h.lines b left rs h.each h.made (subst (λ t. IsText t rs) whole is))
      ];
    }

-- ---- each text

pub reads_end : (text : List ℕ) (b : Made) (n : ℕ) (rest line left : List ℕ) → Reached text b n rest → IsCut rest line left → line ≡ codes "end" → left ≡ [] → IsText text (records_of b)
reads_end text b n rest line left h cut end none =
    let same : rest ≡ codes "end\n" = cut.whole ∙ (λ i. end i ++ 10 ∷ none i) in
    reads_book text b n (subst (Reached text b n) same h)

end_or : (text : List ℕ) (b : Made) (n : ℕ) (rest line left : List ℕ) → Reached text b n rest → IsCut rest line left → line ≡ codes "end" → IsTextOrRefused text
end_or text b n rest line [] h cut end = inl (records_of b, reads_end text b n rest line [] h cut end refl)
end_or text b n rest line (x ∷ xs) h cut end = inr (n + 1, refused_behind text b n rest line (x ∷ xs) h cut end (λ none. cc))

pub not_end : (line : List ℕ) → bytes_eq line (codes "end") ≡ false → line ≢ codes "end"
not_end line h e = let t : bytes_eq line (codes "end") ≡ true = ap (λ l. bytes_eq l (codes "end")) e in apart cc

pub shorter : (rest line left : List ℕ) → IsCut rest line left → length left < length rest
shorter rest line left cut =
    let whole : length rest ≡ length line + length (10 ∷ left) = ap length cut.whole ∙ length-append line (10 ∷ left) in
    omega arith

turn : (text : List ℕ) (b : Made) (n : ℕ) (rest line left : List ℕ) → Reached text b n rest → IsCut rest line left → ((c : Made) → Reached text c (n + 1) left → IsTextOrRefused text) → IsTextOrRefused text
turn text b n rest line left h cut on =
    elim (bytes_eq line (codes "end")) as (λ e. bytes_eq line (codes "end") ≡ e → IsTextOrRefused text) [
      | true ↦ λ e. end_or text b n rest line left h cut (same_bytes line (codes "end") e)
      | false ↦ λ e.
          elim (next b line) as (λ o. next b line ≡ o → IsTextOrRefused text) [
            | None ↦ λ f. inr (n, refused_line text b n rest line left h cut f (not_end line e))
            | Some c ↦ λ f. on c (reached_next text b c n rest line left h cut f)
          ] refl
    ] refl

each_from : (size : ℕ) (text : List ℕ) (b : Made) (n : ℕ) (rest : List ℕ) → length rest ≤ size → Reached text b n rest → IsTextOrRefused text
each_from zero text b n rest l h =
    elim (position is_newline rest) as (λ o. position is_newline rest ≡ o → IsTextOrRefused text) [
      | None ↦ λ e. inr (n, refused_unfinished text b n rest h (none_found rest e))
      | Some k ↦ λ e. absurd (let s = shorter rest (take k rest) (drop (k + 1) rest) (cut_at rest k e) in omega arith)
    ] refl
each_from (suc size) text b n rest l h =
    elim (position is_newline rest) as (λ o. position is_newline rest ≡ o → IsTextOrRefused text) [
      | None ↦ λ e. inr (n, refused_unfinished text b n rest h (none_found rest e))
      | Some k ↦ λ e.
          let cut = cut_at rest k e in
          let s = shorter rest (take k rest) (drop (k + 1) rest) cut in
          turn text b n rest (take k rest) (drop (k + 1) rest) h cut (λ c more. each_from size text c (n + 1) (drop (k + 1) rest) (omega arith) more)
    ] refl

pub each_text : (text : List ℕ) → IsTextOrRefused text
each_text text = each_from (length text) text at_first 1 text (omega arith) (reached_first text)

-- a book's text has no line at fault
pub never_both : (text : List ℕ) (rs : List Record) (n : ℕ) → IsText text rs → IsRefused text n → ⊥
never_both text rs n h r =
    go (list_any is_newline r.rest) refl r.fault
  where
    go : (b : Bool) → list_any is_newline r.rest ≡ b → MatchBool b (Begins (r.lines ++ before_first is_newline r.rest ∷ []) → ⊥) ((book : List Record) → IsText text book → ⊥) → ⊥
    go false e f = f rs h
    go true e f =
        let (k, found) = found_some r.rest e in
        let cut = cut_at r.rest k found in
        let whole : text ≡ text_of (r.lines ++ take k r.rest ∷ []) ++ drop (k + 1) r.rest = r.whole ∙ ap (λ t. text_of r.lines ++ t) cut.whole ∙ text_snoc r.lines (take k r.rest) (drop (k + 1) r.rest) in
        f (rs, drop (k + 1) r.rest, subst (λ l. IsText (text_of (r.lines ++ l ∷ []) ++ drop (k + 1) r.rest) rs) (front_at r.rest k found) (subst (λ t. IsText t rs) whole h))

-- ---- one fault

-- how far two ways to cut a text into lines go together
data Compares (xs ys : List (List ℕ)) (r s : List ℕ) : Type 0 where
  alike : xs ≡ ys → Compares xs ys r s
  first : (line : List ℕ) (more : List (List ℕ)) → ys ≡ xs ++ line ∷ more → r ≡ line ++ 10 ∷ (text_of more ++ s) → list_any is_newline line ≡ false → Compares xs ys r s
  second : (line : List ℕ) (more : List (List ℕ)) → xs ≡ ys ++ line ∷ more → s ≡ line ++ 10 ∷ (text_of more ++ r) → list_any is_newline line ≡ false → Compares xs ys r s

compare : (xs ys : List (List ℕ)) (r s : List ℕ) → AreLines xs → AreLines ys → text_of xs ++ r ≡ text_of ys ++ s → Compares xs ys r s
compare [] [] r s h k e = alike refl
compare [] (y ∷ ys) r s h k e = first y ys refl (e ∙ text_cons y ys s) k.0
compare (x ∷ xs) [] r s h k e = second x xs refl (sym e ∙ text_cons x xs r) h.0
compare (x ∷ xs) (y ∷ ys) r s h k e =
    let (same, rest) = cut_line x y (text_of xs ++ r) (text_of ys ++ s) h.0 k.0 (sym (text_cons x xs r) ∙ e ∙ text_cons y ys s) in
    elim (compare xs ys r s h.1 k.1 rest) [
      | alike f ↦ alike (λ i. same i ∷ f i)
      | first line more f g one ↦ first line more (λ i. sym same i ∷ f i) g one
      | second line more f g one ↦ second line more (λ i. same i ∷ f i) g one
    ]

-- what begins with more lines begins with fewer
fewer : (xs more : List (List ℕ)) (line : List ℕ) → Begins (xs ++ line ∷ more) → Begins (xs ++ line ∷ [])
fewer xs more line (rs, rest, h) =
    let cut : text_of (xs ++ line ∷ more) ≡ text_of (xs ++ line ∷ []) ++ text_of more =
    ap text_of (sym (append_assoc xs (line ∷ []) more)) ∙ flat_map-append (λ line. line ++ 10 ∷ []) (xs ++ line ∷ []) more in
    (rs, text_of more ++ rest, subst (λ t. IsText t rs) (ap (λ t. t ++ rest) cut ∙ append_assoc (text_of (xs ++ line ∷ [])) (text_of more) rest) h)

-- a line at fault is no line before another at fault
not_before : (text text' : List ℕ) (n m : ℕ) (a : IsRefused text n) (b : IsRefused text' m) (line : List ℕ) (more : List (List ℕ)) (left : List ℕ) → b.lines ≡ a.lines ++ line ∷ more → a.rest ≡ line ++ 10 ∷ left → list_any is_newline line ≡ false → ⊥
not_before text text' n m a b line more left e f one =
    let some : list_any is_newline a.rest ≡ true = ap (list_any is_newline) f ∙ some_newline line left in
    let front : before_first is_newline a.rest ≡ line = ap (before_first is_newline) f ∙ front_line line left one in
    let fault : Begins (a.lines ++ before_first is_newline a.rest ∷ []) → ⊥ =
    subst (λ b. MatchBool b (Begins (a.lines ++ before_first is_newline a.rest ∷ []) → ⊥) ((book : List Record) → IsText text book → ⊥)) some a.fault in
    fault (subst (λ l. Begins (a.lines ++ l ∷ [])) (sym front) (fewer a.lines more line (subst Begins e b.begins)))

pub one_fault : (text : List ℕ) (n m : ℕ) → IsRefused text n → IsRefused text m → n ≡ m
one_fault text n m a b =
    elim (compare a.lines b.lines a.rest b.rest a.each b.each (sym a.whole ∙ b.whole)) [
      | alike e ↦ a.number ∙ ap (λ (l : List (List ℕ)). length l + 1) e ∙ sym b.number
      | first line more e f one ↦ absurd (not_before text text n m a b line more (text_of more ++ b.rest) e f one)
      | second line more e f one ↦ absurd (not_before text text m n b a line more (text_of more ++ a.rest) e f one)
    ]

-- ---- as the reader answers

lines_small : (lines : List (List ℕ)) → length lines ≤ length (text_of lines)
lines_small [] = omega arith
lines_small (line ∷ lines) =
    let whole : length (text_of (line ∷ lines)) ≡ length (line ++ 10 ∷ []) + length (text_of lines) = length-append (line ++ 10 ∷ []) (text_of lines) in
    let one : length (line ++ 10 ∷ []) ≡ length line + 1 = length-append line (10 ∷ []) in
    let more = lines_small lines in omega arith

-- a text has as many bytes as lines, at least
pub number_small : (text : List ℕ) (b : Made) (n : ℕ) (rest line left : List ℕ) → Reached text b n rest → IsCut rest line left → n ≤ length text
number_small text b n rest line left h cut =
    let whole : length text ≡ length (text_of h.lines) + length rest = ap length h.whole ∙ length-append (text_of h.lines) rest in
    let lines = lines_small h.lines in
    let some = shorter rest line left cut in
    let number = h.number in
    omega arith

pub refuses_line : (text : List ℕ) (b new : Made) (n : ℕ) (rest line left : List ℕ) (fault : BookFault) → Reached text b n rest → IsCut rest line left → line ≢ codes "end" → Makes {A = Unit {0}} n (Err fault) (next b line) new → Refuses fault text
refuses_line text b new n rest line left (Line m) h cut other f = subst (IsRefused text) (sym f.0) (refused_line text b n rest line left h cut f.1 other)
refuses_line text b new n rest line left Memory h cut other f = tt

pub refuses_all : (text : List ℕ) (fault : BookFault) → Refuses fault text → RefusesAll fault text
refuses_all text (Line n) h = λ rs is. never_both text rs n is h
refuses_all text Memory h = tt

pub none_left : (left : List ℕ) → (length left == 0) ≡ true → left ≡ []
none_left [] h = refl
none_left (x ∷ xs) h = absurd (let l : length (x ∷ xs) ≡ 0 = grind (arith, common_steps) in omega arith)

pub some_left : (left : List ℕ) → (length left == 0) ≡ false → left ≢ []
some_left [] h e = apart cc
some_left (x ∷ xs) h e = cc
