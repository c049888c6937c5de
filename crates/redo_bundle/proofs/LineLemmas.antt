-- Where a line ends in bytes that come in pieces.
use Rattle.std.proofs.Common.{◌≡◌, ℕ, zero, suc, ◌+◌, ◌*◌, ◌-◌, ◌<◌, ◌≤◌, Bool, true, false, cond, not, List, [], ◌∷◌}
use Rattle.std.proofs.Common.{◌++◌, length, take, drop, get_or, refl, sym, ap, subst, ◌∙◌, arith, Option, Some, None}
use Rattle.std.proofs.Common.{lt-ltb, append_assoc, append-nil, inl, inr, IfSome, add-one, ◌^◌, nat_le, take-append-drop}
use Rattle.std.proofs.lemmas.Grind.{common_steps}
use Rattle.std.proofs.lemmas.List.Sums.{prefix_len-le-length, prefix_len_stops, split_at_first, fold-append}
use Rattle.std.specs.List.{list_any, position_or_len, position, before_first, after_first, fold}
use Rattle.std.proofs.lemmas.List.{length-take-le}
use Rattle.std.proofs.lemmas.List.Prefix.{front_rest}
use Rattle.std.proofs.Math.Seq.{drop-cons, take-append-add}
use Rattle.std.specs.Prelude.{Err, option_map, codes, ◌&&◌, ◌||◌, decimal}
use Rattle.std.specs.Str.{bytes_eq}
use Rattle.std.specs.Io.KnownBytes.{Consumes, IsAtEnd, prepend_known}
use Rattle.std.proofs.KnownBytes.{Consumes-trans}
use Rattle.redo_bundle.specs.declared.faults.BundleFault.{BundleFault}
use Rattle.redo_bundle.specs.declared.faults.BundleFault.TheVariants.{Line, Path, Tree as TreeAt, Truncated, Read}
use Rattle.redo_bundle.specs.declared.faults.BundleFault.TheVariants.{Memory}
use Rattle.redo_bundle.specs.Bundle.{IsHeader, is_newline, is_space, size_of, header_of}
use Rattle.redo_bundle.specs.inside.Steps.{IsLine, Shows, words_of, line_fault}
use borrow.Author.Tests.{ltb-false}

cond_none : (b : Bool) (n : ℕ) → cond b (Some n) None ≡ None → b ≡ false
cond_none true n h = cc
cond_none false n h = refl

cond_some : (b : Bool) (n m : ℕ) → cond b (Some n) None ≡ Some m → n ≡ m
cond_some true n m h = cc
cond_some false n m h = cc

pub position_none : (p : ℕ → Bool) (xs : List ℕ) → position p xs ≡ None → position_or_len p xs ≡ length xs
position_none p xs h = let e = ltb-false (position_or_len p xs) (length xs) (cond_none _ _ h) in omega (arith, e, prefix_len-le-length (λ x. not (p x)) xs)

pub position_some : (p : ℕ → Bool) (xs : List ℕ) (n : ℕ) → position p xs ≡ Some n → position_or_len p xs ≡ n
position_some p xs n h = cond_some _ _ _ h

none_front : (p : ℕ → Bool) (xs : List ℕ) (k : ℕ) → k ≤ position_or_len p xs → list_any p (take k xs) ≡ false
none_front p xs zero h = refl
none_front p [] (suc k) h = refl
none_front p (x ∷ xs) (suc k) h = elim (p x) as (λ b. p x ≡ b → suc k ≤ cond (not b) (1 + position_or_len p xs) 0 → list_any p (take (suc k) (x ∷ xs)) ≡ false) [
  | true ↦ λ e l. absurd (omega arith)
  | false ↦ λ e l. rw e (none_front p xs k (omega arith))
] refl h

-- no element passes
pub none_before : (p : ℕ → Bool) (xs : List ℕ) → list_any p (before_first p xs) ≡ false
none_before p xs = none_front p xs (position_or_len p xs) (omega arith)

pub any-append : (p : ℕ → Bool) (xs ys : List ℕ) → list_any p xs ≡ false → list_any p (xs ++ ys) ≡ list_any p ys
any-append p [] ys h = refl
any-append p (x ∷ xs) ys h = elim (p x) as (λ b. p x ≡ b → list_any p (x ∷ xs) ≡ false → list_any p ((x ∷ xs) ++ ys) ≡ list_any p ys) [
  | true ↦ λ e k. let k2 = rw e at k in cc
  | false ↦ λ e k. rw e (any-append p xs ys (rw e at k))
] refl h

pub end-append : (p : ℕ → Bool) (xs ys : List ℕ) → list_any p xs ≡ false → position_or_len p (xs ++ ys) ≡ length xs + position_or_len p ys
end-append p [] ys h = omega arith
end-append p (x ∷ xs) ys h = elim (p x) as (λ b. p x ≡ b → list_any p (x ∷ xs) ≡ false → position_or_len p ((x ∷ xs) ++ ys) ≡ length (x ∷ xs) + position_or_len p ys) [
  | true ↦ λ e k. let k2 = rw e at k in cc
  | false ↦ λ e k. let r = end-append p xs ys (rw e at k) in rw e (omega arith)
] refl h

pub take-length : (xs ys : List ℕ) → take (length xs) (xs ++ ys) ≡ xs
take-length xs ys = grind (arith, common_steps)

pub drop-length : (xs : List ℕ) (x : ℕ) (ys : List ℕ) → drop (length xs + 1) (xs ++ x ∷ ys) ≡ ys
drop-length xs x ys =
    let one : length (xs ++ x ∷ []) ≡ length xs + 1 = grind (arith, common_steps) in
    ap (λ k. drop k (xs ++ x ∷ ys)) (sym one) ∙ front_rest (xs ++ x ∷ ys) (xs ++ x ∷ []) ys (sym (append_assoc xs (x ∷ []) ys))

-- a list in which the first element that passes stands between two parts
pub record IsCut (p : ℕ → Bool) (list front rest : List ℕ) : Type 0 where
  pub before : before_first p list ≡ front
  pub after : after_first p list ≡ rest
  pub some : list_any p list ≡ true

pub cut_first : (p : ℕ → Bool) (front : List ℕ) (x : ℕ) (rest : List ℕ) → list_any p front ≡ false → p x ≡ true → IsCut p (front ++ x ∷ rest) front rest
cut_first p front x rest none pass =
    let first : position_or_len p (x ∷ rest) ≡ 0 = ap (λ b. cond (not b) (1 + position_or_len p rest) 0) pass in
    let at : position_or_len p (front ++ x ∷ rest) ≡ length front = end-append p front (x ∷ rest) none ∙ omega arith in
    record {
      before = ap (λ k. take k (front ++ x ∷ rest)) at ∙ take-length front (x ∷ rest);
      after = ap (λ k. drop (k + 1) (front ++ x ∷ rest)) at ∙ drop-length front x rest;
      some = any-append p front (x ∷ rest) none ∙ ap (λ b. b || list_any p rest) pass;
    }

pub end-le : (p : ℕ → Bool) (xs ys : List ℕ) → position_or_len p xs ≤ position_or_len p (xs ++ ys)
end-le p [] ys = omega arith
end-le p (x ∷ xs) ys = let r = end-le p xs ys in grind (arith, common_steps)

all_fail : (p : ℕ → Bool) (xs : List ℕ) → position_or_len p xs ≡ length xs → list_any p xs ≡ false
all_fail p [] h = refl
all_fail p (x ∷ xs) h = elim (p x) as (λ b. p x ≡ b → cond (not b) (1 + position_or_len p xs) 0 ≡ length (x ∷ xs) → list_any p (x ∷ xs) ≡ false) [
  | true ↦ λ e k. absurd (omega arith)
  | false ↦ λ e k. rw e (all_fail p xs (omega arith))
] refl h

any_none : (p : ℕ → Bool) (xs : List ℕ) → position p xs ≡ None → list_any p xs ≡ false
any_none p xs h = all_fail p xs (position_none p xs h)

any_some : (p : ℕ → Bool) (xs : List ℕ) → position_or_len p xs < length xs → list_any p xs ≡ true
any_some p [] h = absurd (omega arith)
any_some p (x ∷ xs) h = elim (p x) as (λ b. p x ≡ b → position_or_len p (x ∷ xs) < length (x ∷ xs) → list_any p (x ∷ xs) ≡ true) [
  | true ↦ λ e k. rw e refl
  | false ↦ λ e k. let k2 = rw e at k in rw e (any_some p xs (omega arith))
] refl h

cond_true : (b : Bool) (n m : ℕ) → cond b (Some n) None ≡ Some m → b ≡ true
cond_true true n m h = refl
cond_true false n m h = cc

position_inside : (p : ℕ → Bool) (xs : List ℕ) (n : ℕ) → position p xs ≡ Some n → position_or_len p xs < length xs
position_inside p xs n h = let e = cond_true _ _ _ h in grind (arith, common_steps)

pub words_none : (words : List ℕ) → position is_space words ≡ None → words_of words ≡ None
words_none words h = rw (any_none is_space words h) refl

pub words_at : (words : List ℕ) (n : ℕ) → position is_space words ≡ Some n → words_of words ≡ option_map {U = ℕ × List ℕ} (λ size. (size, drop (n + 1) words)) (size_of (take n words))
words_at words n h =
    let e = any_some is_space words (position_inside is_space words n h) in
    rw e (ap (λ k. option_map (λ size. (size, drop (k + 1) words)) (size_of (take k words))) (position_some is_space words n h))

pub words_found : (words path : List ℕ) (n size : ℕ) → position is_space words ≡ Some n → size_of (take n words) ≡ Some size → path ≡ drop (n + 1) words → ◌≡◌ {A = Option (ℕ × List ℕ)} (Some (size, path)) (words_of words)
words_found words path n size at sized rest =
    (λ i. Some (size, rest i)) ∙ sym (words_at words n at ∙ ap (option_map {U = ℕ × List ℕ} (λ k. (k, drop (n + 1) words))) sized)

pub header_none : (line : List ℕ) → bytes_eq (take 4 line) (codes "dir ") ≡ false → bytes_eq (take 5 line) (codes "file ") ≡ false → header_of line ≡ None
header_none line d f = rw (d, f) refl

chosen_none : (b : Bool) (words : List ℕ) (o : Option ℕ) → cond b (option_map {U = Option ℕ × List ℕ} (λ size. (Some size, after_first is_space words)) o) None ≡ option_map {U = Option ℕ × List ℕ} (λ w. (Some w.0, w.1)) (cond b (option_map {U = ℕ × List ℕ} (λ size. (size, after_first is_space words)) o) None)
chosen_none true words None = refl
chosen_none true words (Some n) = refl
chosen_none false words o = refl

pub header_file : (line : List ℕ) → bytes_eq (take 4 line) (codes "dir ") ≡ false → bytes_eq (take 5 line) (codes "file ") ≡ true → header_of line ≡ option_map {U = Option ℕ × List ℕ} (λ w. (Some w.0, w.1)) (words_of (drop 5 line))
header_file line d f = rw (d, f) (chosen_none (list_any is_space (drop 5 line)) (drop 5 line) (size_of (before_first is_space (drop 5 line))))

fold_grows : (n : ℕ) (xs : List ℕ) → n ≤ fold (λ sum digit. 10 * sum + (digit - 48)) n xs
fold_grows n [] = omega arith
fold_grows n (x ∷ xs) = let r = fold_grows (10 * n + (x - 48)) xs in omega arith

no_size : (b : Bool) (n : ℕ) → 2 ^ 30 < n → cond (b && nat_le n (2 ^ 30)) (Some n) None ≡ None
no_size true n h = let e : nat_le n (2 ^ 30) ≡ false = grind (arith, common_steps) in rw e refl
no_size false n h = refl

pub drop-cons-one : (xs : List ℕ) (i : ℕ) → i < length xs → drop i xs ≡ get_or xs i 0 ∷ drop (i + 1) xs
drop-cons-one xs i l = rw add-one (drop-cons xs i 0 l)

-- a number that is too large stays so
pub size_too_large : (digits : List ℕ) (i sum : ℕ) → i < length digits → sum ≡ fold (λ sum digit. 10 * sum + (digit - 48)) 0 (take i digits) → 2 ^ 30 < 10 * sum + (get_or digits i 0 - 48) → size_of digits ≡ None
size_too_large digits i sum l e h =
    let f : ℕ → ℕ → ℕ = λ sum digit. 10 * sum + (digit - 48) in
    let cut : digits ≡ take i digits ++ (get_or digits i 0 ∷ drop (i + 1) digits) = sym (take-append-drop i digits) ∙ ap (λ l. take i digits ++ l) (drop-cons-one digits i l) in
    let whole : fold f 0 digits ≡ fold f (f (fold f 0 (take i digits)) (get_or digits i 0)) (drop (i + 1) digits) = ap (fold f 0) cut ∙ fold-append f 0 (take i digits) (get_or digits i 0 ∷ drop (i + 1) digits) in
    let large : 2 ^ 30 < fold f 0 digits = let g = fold_grows (f (fold f 0 (take i digits)) (get_or digits i 0)) (drop (i + 1) digits) in omega arith in
    no_size (bytes_eq (decimal (fold f 0 digits)) digits) (fold f 0 digits) large

pub Consumes-front : (left : Option (List ℕ)) (held new front : List ℕ) → held ≡ front ++ new → Consumes (prepend_known held left) (prepend_known new left) front
Consumes-front None held new front e = tt
Consumes-front (Some y) held new front e = ap (λ l. l ++ y) e ∙ append_assoc front new y

-- a front of what is held is gone
pub came-more : (a b left : Option (List ℕ)) (held new bytes front grown : List ℕ) → Consumes a b bytes → Consumes b (prepend_known held left) [] → held ≡ front ++ new → grown ≡ bytes ++ front → Consumes a (prepend_known new left) grown
came-more a b left held new bytes front grown p q e g =
    subst (Consumes a (prepend_known new left)) (sym g) (Consumes-trans a b _ bytes front p (Consumes-trans b (prepend_known held left) _ [] front q (Consumes-front left held new front e)))

long_text : (n : ℕ) (text : List ℕ) → 1100 < position_or_len is_newline text → line_fault n text ≡ Some (Line n)
long_text n text h =
    let l : 1100 < length (before_first is_newline text) = omega (arith, length-take-le (position_or_len is_newline text) text (prefix_len-le-length (λ x. not (is_newline x)) text)) in
    rw (lt-ltb 1100 (length (before_first is_newline text)) l) refl

long_known : (a left : Option (List ℕ)) (held line : List ℕ) (n : ℕ) → Consumes a (prepend_known held left) line → list_any is_newline line ≡ false → 1100 < length line + position_or_len is_newline held → IfSome a (λ text. line_fault n text ≡ Some (Line n))
long_known None left held line n p one h = tt
long_known (Some x) None held line n p one h = absurd p
long_known (Some x) (Some y) held line n p one h =
    let e : position_or_len is_newline x ≡ length line + position_or_len is_newline (held ++ y) = ap (position_or_len is_newline) p ∙ end-append is_newline line (held ++ y) one in
    long_text n x (omega (arith, e, end-le is_newline held y))

pub line_too_long : (a b left : Option (List ℕ)) (held line : List ℕ) (n : ℕ) → Consumes a b line → Consumes b (prepend_known held left) [] → list_any is_newline line ≡ false → 1100 < length line + position_or_len is_newline held → IfSome a (λ text. line_fault n text ≡ Some (Line n))
line_too_long a b left held line n p q one h = long_known a left held line n (subst (Consumes a (prepend_known held left)) (append-nil line) (Consumes-trans a b _ line [] p q)) one h

-- ---- the header that a refusal shows

before-append : (p : ℕ → Bool) (xs ys : List ℕ) → list_any p xs ≡ false → before_first p (xs ++ ys) ≡ xs ++ before_first p ys
before-append p xs ys none = ap (λ k. take k (xs ++ ys)) (end-append p xs ys none) ∙ take-append-add xs ys (position_or_len p ys)

rest_known : (a left : Option (List ℕ)) (held line : List ℕ) → Consumes a (prepend_known held left) line → held ≡ [] → IsAtEnd left → list_any is_newline line ≡ false → IfSome a (λ text. IsHeader text line)
rest_known None left held line p none end one = tt
rest_known (Some x) None held line p none end one = absurd p
rest_known (Some x) (Some y) held line p none end one =
    let whole : x ≡ line ++ [] = p ∙ ap (λ l. line ++ l) ((λ i. none i ++ end i)) in
    inl (sym (ap (before_first is_newline) whole ∙ before-append is_newline line [] one ∙ append-nil line))

beginning_known : (a left : Option (List ℕ)) (held line : List ℕ) → Consumes a (prepend_known held left) line → list_any is_newline line ≡ false → 1100 < length line + position_or_len is_newline held → IfSome a (λ text. IsHeader text line)
beginning_known None left held line p one h = tt
beginning_known (Some x) None held line p one h = absurd p
beginning_known (Some x) (Some y) held line p one h =
    let whole : before_first is_newline x ≡ line ++ before_first is_newline (held ++ y) = ap (before_first is_newline) p ∙ before-append is_newline line (held ++ y) one in
    let long : 1100 < length (before_first is_newline x) =
    (let at = ap (position_or_len is_newline) p ∙ end-append is_newline line (held ++ y) one in
    let more = end-le is_newline held y in
    omega (arith, at, more, length-take-le (position_or_len is_newline x) x (prefix_len-le-length (λ b. not (is_newline b)) x))) in
    inr (long, (before_first is_newline (held ++ y), whole))

-- a whole line is one, and a newline behind it
pub shows_line : (a b : Option (List ℕ)) (line : List ℕ) → IsLine line → Consumes a b (line ++ 10 ∷ []) → IfSome a (λ text. IsHeader text line)
shows_line None b line h p = tt
shows_line (Some x) None line h p = absurd p
shows_line (Some x) (Some y) line h p = inl (sym (ap (before_first is_newline) (p ∙ append_assoc line (10 ∷ []) y) ∙ (cut_first is_newline line 10 y h.one refl).before))

-- the input ended in the line
pub shows_rest : (a b left : Option (List ℕ)) (held line : List ℕ) → Consumes a b line → Consumes b (prepend_known held left) [] → held ≡ [] → IsAtEnd left → list_any is_newline line ≡ false → IfSome a (λ text. IsHeader text line)
shows_rest a b left held line p q none end one = rest_known a left held line (subst (Consumes a (prepend_known held left)) (append-nil line) (Consumes-trans a b _ line [] p q)) none end one

-- the line is too long, and this much of it was read
pub shows_beginning : (a b left : Option (List ℕ)) (held line : List ℕ) → Consumes a b line → Consumes b (prepend_known held left) [] → list_any is_newline line ≡ false → 1100 < length line + position_or_len is_newline held → IfSome a (λ text. IsHeader text line)
shows_beginning a b left held line p q one h = beginning_known a left held line (subst (Consumes a (prepend_known held left)) (append-nil line) (Consumes-trans a b _ line [] p q)) one h

-- whatever the fault
pub shows : (f : BundleFault) (left : Option (List ℕ)) (line : List ℕ) → IfSome left (λ text. IsHeader text line) → Shows {A = Bool} (Err f) left line
shows Read left line h = tt
shows Memory left line h = tt
shows Truncated left line h = h
shows (Line k) left line h = h
shows (Path k f) left line h = h
shows (TreeAt k f) left line h = h

not_false : (b : Bool) → not b ≡ false → b ≡ true
not_false true h = refl
not_false false h = cc

any_inside : (p : ℕ → Bool) (xs : List ℕ) → list_any p xs ≡ true → position_or_len p xs < length xs
any_inside p [] h = cc
any_inside p (x ∷ xs) h = elim (p x) as (λ b. p x ≡ b → (b || list_any p xs) ≡ true → cond (not b) (1 + position_or_len p xs) 0 < length (x ∷ xs)) [
  | true ↦ λ e k. omega arith
  | false ↦ λ e k. let r = any_inside p xs k in omega arith
] refl h

-- a list with one that passes, cut there
pub split_first : (p : ℕ → Bool) (y : ℕ) → ((x : ℕ) → p x ≡ true → x ≡ y) → (xs : List ℕ) → list_any p xs ≡ true → xs ≡ before_first p xs ++ y ∷ after_first p xs
split_first p y one xs h =
    let l = any_inside p xs h in
    let is_one : get_or xs (position_or_len p xs) 0 ≡ y = one _ (not_false _ (prefix_len_stops (λ x. not (p x)) xs 0 l)) in
    split_at_first p xs 0 l ∙ ap (λ x. before_first p xs ++ x ∷ after_first p xs) is_one

pub newline_is : (x : ℕ) → is_newline x ≡ true → x ≡ 10
newline_is x h = grind (arith, common_steps)

at_newline : (xs : List ℕ) → position_or_len is_newline xs < length xs → get_or xs (position_or_len is_newline xs) 0 ≡ 10
at_newline xs h = newline_is _ (not_false _ (prefix_len_stops (λ x. not (is_newline x)) xs 0 h))

-- what stands before the newline, the newline, and what follows
pub upto_newline : (held : List ℕ) (n : ℕ) → n ≡ position_or_len is_newline held → n < length held → held ≡ (take n held ++ 10 ∷ []) ++ drop (n + 1) held
upto_newline held n at l =
    let is_ten : get_or held n 0 ≡ 10 = ap (λ k. get_or held k 0) at ∙ at_newline held (omega arith) in
    sym (take-append-drop n held) ∙ ap (λ l. take n held ++ l) (drop-cons-one held n l ∙ ap (λ x. x ∷ drop (n + 1) held) is_ten) ∙ sym (append_assoc (take n held) (10 ∷ []) (drop (n + 1) held))
