-- What a word or a line says is spelled so, and no other text says it.
use Rattle.std.proofs.Common.{◌≡◌, ◌≢◌, ℕ, zero, suc, ◌/◌, ◌%◌, ◌<◌, ◌≤◌, Bool, true, false, cond, ◌||◌}
use Rattle.std.proofs.Common.{List, [], ◌∷◌, ◌++◌, length, take, drop, refl, sym, ap, subst, ◌∙◌, arith, Option, Some, None}
use Rattle.std.proofs.Common.{take-append-drop, nat_eq}
use Rattle.std.proofs.lemmas.Grind.{common_steps}
use Rattle.std.proofs.lemmas.List.{take_all}
use Rattle.std.proofs.lemmas.List.Folds.{list_any-append}
use Rattle.std.proofs.lemmas.Slice.Eq.{bytes_eq-Decides}
use Rattle.std.proofs.Math.Seq.{drop-append_seam, take-append_seam}
use Rattle.std.specs.List.{AllByRecursion, list_any}
use Rattle.std.specs.Prelude.{Result, Ok, Err, codes, option_map, option_and_then, slice_index}
use Rattle.std.specs.Result.{result_ok}
use Rattle.std.specs.Str.{bytes_eq}
use Rattle.hex.specs.Hex.{IsBytes, encode_lower, encode_with, hex_digit_value, lower_digits}
use Rattle.hex.proofs.HexLemmas.{IsDigits-lower_digits, length-encode_with}
use Rattle.redo_digest.proofs.SpellingLemmas.{digest_is, digest_spelled}
use Rattle.redo_digest.specs.Digest.{IsDigest, IsState, State, digest_of}
use Rattle.redo_path.proofs.ApartLemmas.{apart}
use Rattle.redo_path.proofs.CanonicalLemmas.{path-resolved, printable_path, resolved-path}
use Rattle.redo_path.specs.Names.{IsBelowRoot, IsPath, is_control}
use Rattle.redo_path.specs.Resolve.{resolved}
use Rattle.redo_book.specs.declared.book.BookEntry.TheVariants.{Change, Create, Always}
use Rattle.redo_book.specs.declared.lines.Line.{Line}
use Rattle.redo_book.specs.declared.lines.Line.TheVariants.{Target, Entry}
use Rattle.redo_book.specs.Book.{IsEntry, entry_line, is_newline, state_text}
use Rattle.redo_book.specs.inside.Reading.{line_of, only_if, place_of, split_state, stated}

pub only_if-some : {A : Type 0} (b : Bool) (x y : A) → only_if b x ≡ Some y → (b ≡ true) × (x ≡ y)
only_if-some true x y h = (refl, cc)
only_if-some false x y h = apart cc

pub bytes_same : (xs : List ℕ) → bytes_eq xs xs ≡ true
bytes_same xs = (bytes_eq-Decides xs xs).1 refl

pub same_bytes : (xs ys : List ℕ) → bytes_eq xs ys ≡ true → xs ≡ ys
same_bytes xs ys h = (bytes_eq-Decides xs ys).0 h

pub bytes_differ : (xs ys : List ℕ) → (xs ≡ ys → ⊥) → bytes_eq xs ys ≡ false
bytes_differ xs ys h =
    elim (bytes_eq xs ys) as (λ b. bytes_eq xs ys ≡ b → b ≡ false) [
      | true ↦ λ e. absurd (h (same_bytes xs ys e))
      | false ↦ λ e. refl
    ] refl

-- texts that differ at a place
pub bytes_differ_at : (xs ys : List ℕ) (at : ℕ) → slice_index xs at ≢ slice_index ys at → bytes_eq xs ys ≡ false
bytes_differ_at xs ys at h = bytes_differ xs ys (λ e. absurd (h (ap (λ l. slice_index l at) e)))

-- texts of one length that are the same up to their end
pub same_taken : (xs ys : List ℕ) (n : ℕ) → length xs ≤ n → length ys ≤ n → take n xs ≡ take n ys → bytes_eq xs ys ≡ true
same_taken xs ys n l k h = (bytes_eq-Decides xs ys).1 (sym (take_all n xs l) ∙ h ∙ take_all n ys k)

-- no text starts with a longer one
pub short_text : (text word : List ℕ) → length text < length word → bytes_eq (take (length word) text) word ≡ false
short_text text word short =
    bytes_differ (take (length word) text) word (λ e.
    let l : length text ≡ length word = ap length (sym (take_all (length word) text (omega arith)) ∙ e) in
    absurd (omega arith))

-- what followed from a value
pub then_some : {A B : Type 0} (f : A → Option B) (o : Option A) (y : B) → option_and_then f o ≡ Some y → (x : A) × (o ≡ Some x) × (f x ≡ Some y)
then_some f None y h = apart cc
then_some f (Some x) y h = (x, refl, h)

pub map_some : {A B : Type 0} (f : A → B) (o : Option A) (y : B) → option_map f o ≡ Some y → (x : A) × (o ≡ Some x) × (f x ≡ y)
map_some f None y h = apart cc
map_some f (Some x) y h = (x, refl, cc)

ok_some : {A E : Type 0} (r : Result A E) (x : A) → result_ok r ≡ Some x → r ≡ Ok x
ok_some (Ok y) x h = cc
ok_some (Err e) x h = apart cc

-- ---- paths

root_path : IsPath []
root_path = record { each = tt; short = omega arith }

pub place_spelled : (path : List ℕ) → IsBelowRoot path → place_of path ≡ Some path
place_spelled path h = rw (resolved-path path h.0 h.1, bytes_same path) refl

not_the_root : (word meant : List ℕ) → resolved [] word ≡ Ok meant → word ≢ []
not_the_root [] meant h e = apart cc
not_the_root (b ∷ bs) meant h e = cc

pub place_is : (word path : List ℕ) → place_of word ≡ Some path → (word ≡ path) × IsBelowRoot path
place_is word path h =
    let (meant, some, kept) = then_some (λ p. only_if (bytes_eq p word) p) (result_ok (resolved [] word)) path h in
    let ok = ok_some (resolved [] word) meant some in
    let (same, is) = only_if-some (bytes_eq meant word) meant path kept in
    let e : word ≡ path = sym (same_bytes meant word same) ∙ is in
    (e, subst IsBelowRoot e (not_the_root word meant ok, subst IsPath (same_bytes meant word same) (path-resolved [] word meant root_path ok)))

-- a path stands in a line
no_newline : (xs : List ℕ) → AllByRecursion (λ byte. is_control byte ≡ false) xs → list_any is_newline xs ≡ false
no_newline [] h = refl
no_newline (x ∷ xs) h =
    elim (is_newline x) as (λ b. is_newline x ≡ b → (b || list_any is_newline xs) ≡ false) [
      | true ↦ λ e. let ten : x ≡ 10 = grind (arith, common_steps) in let c : is_control x ≡ true = ap is_control ten in apart (let k = h.0 in cc)
      | false ↦ λ e. no_newline xs h.1
    ] refl

pub place_line : (path : List ℕ) → IsBelowRoot path → list_any is_newline path ≡ false
place_line path h = no_newline path (printable_path path h.1)

-- ---- digests

-- a digit has the value of its place
digit : (k : ℕ) → k < 16 → (c : ℕ) → hex_digit_value c ≡ None → slice_index lower_digits k ≢ c
digit k l c none e =
    let some : hex_digit_value (slice_index lower_digits k) ≡ Some k = IsDigits-lower_digits k l in
    let same : hex_digit_value c ≡ Some k = ap hex_digit_value (sym e) ∙ some in
    apart cc

not_digit : (k : ℕ) → k < 16 → (c : ℕ) → hex_digit_value c ≡ None → nat_eq (slice_index lower_digits k) c ≡ false
not_digit k l c none =
    elim (nat_eq (slice_index lower_digits k) c) as (λ b. nat_eq (slice_index lower_digits k) c ≡ b → b ≡ false) [
      | true ↦ λ e. absurd (digit k l c none (grind (arith, common_steps)))
      | false ↦ λ e. refl
    ] refl

digits_line : (bytes : List ℕ) → IsBytes bytes → list_any is_newline (encode_lower bytes) ≡ false
unfolding encode_with
digits_line [] h = refl
digits_line (b ∷ bs) h =
    let fits : b < 256 = h 0 in
    let high : b / 16 < 16 = omega arith in
    let low : b % 16 < 16 = omega arith in
    rw (not_digit (b / 16) high 10 refl, not_digit (b % 16) low 10 refl) (digits_line bs (λ k. h (suc k)))

pub state_line : (state : State) → IsState state → list_any is_newline (state_text state) ≡ false
state_line None h = refl
state_line (Some digest) h = digits_line digest h.bytes

-- no digest begins like `none`
not_none : (digest rest : List ℕ) → IsDigest digest → bytes_eq (take 5 (encode_lower digest ++ rest)) (codes "none ") ≡ false
unfolding encode_with
not_none [] rest h = absurd (let e = h.size in omega arith)
not_none (b ∷ bs) rest h =
    let fits : b < 256 = h.bytes 0 in
    let high : b / 16 < 16 = omega arith in
    rw (not_digit (b / 16) high 110 refl) refl

-- ---- a state, and the path behind it

digits_64 : (digest : List ℕ) → IsDigest digest → length (encode_lower digest) ≡ 64
digits_64 digest h = let e = h.size in let l = length-encode_with lower_digits digest in omega arith

take_64 : (xs ys : List ℕ) → length xs ≡ 64 → take 64 (xs ++ ys) ≡ xs
take_64 xs ys h = subst (λ n. take n (xs ++ ys) ≡ xs) h (take-append_seam xs ys)

drop_64 : (xs ys : List ℕ) → length xs ≡ 64 → drop 64 (xs ++ ys) ≡ ys
drop_64 xs ys h = subst (λ n. drop n (xs ++ ys) ≡ ys) h (drop-append_seam xs ys)

drop_one : (n : ℕ) (xs : List ℕ) → drop 1 (drop n xs) ≡ drop (suc n) xs
drop_one zero xs = refl
drop_one (suc n) [] = refl
drop_one (suc n) (x ∷ xs) = drop_one n xs

drop_65 : (xs ys : List ℕ) → length xs ≡ 64 → drop 65 (xs ++ 32 ∷ ys) ≡ ys
drop_65 xs ys h = sym (drop_one 64 (xs ++ 32 ∷ ys)) ∙ ap (drop 1) (drop_64 xs (32 ∷ ys) h)

pub state_spelled : (state : State) (word : List ℕ) → IsState state → split_state (state_text state ++ 32 ∷ word) ≡ Some (state, word)
state_spelled None word h = refl
state_spelled (Some digest) word h =
    let l = digits_64 digest h in
    let text = encode_lower digest ++ 32 ∷ word in
    let space : bytes_eq (take 1 (drop 64 text)) (codes " ") ≡ true = ap (λ t. bytes_eq (take 1 t) (codes " ")) (drop_64 (encode_lower digest) (32 ∷ word) l) in
    rw (not_none digest (32 ∷ word) h, space, take_64 (encode_lower digest) (32 ∷ word) l, drop_65 (encode_lower digest) word l, digest_spelled digest h) refl

none_state : (words : List ℕ) → bytes_eq (take 5 words) (codes "none ") ≡ true → words ≡ codes "none " ++ drop 5 words
none_state words h = sym (take-append-drop 5 words) ∙ ap (λ t. t ++ drop 5 words) (same_bytes (take 5 words) (codes "none ") h)

behind_space : (words : List ℕ) → bytes_eq (take 1 (drop 64 words)) (codes " ") ≡ true → words ≡ take 64 words ++ 32 ∷ drop 65 words
behind_space words h =
    let cut : drop 64 words ≡ 32 ∷ drop 65 words =
    sym (take-append-drop 1 (drop 64 words)) ∙ ap (λ t. t ++ drop 1 (drop 64 words)) (same_bytes (take 1 (drop 64 words)) (codes " ") h) ∙ ap (λ t. 32 ∷ t) (drop_one 64 words) in
    sym (take-append-drop 64 words) ∙ ap (λ t. take 64 words ++ t) cut

drop_short : (n : ℕ) (xs : List ℕ) → length xs ≤ n → drop n xs ≡ []
drop_short n [] l = elim n as (λ n. drop {A = ℕ} n [] ≡ []) [ zero ↦ refl | suc m ↦ refl ]
drop_short zero (x ∷ xs) l = absurd (omega arith)
drop_short (suc n) (x ∷ xs) l = drop_short n xs (omega arith)

-- a word that is too short for a digest
pub split_short : (words : List ℕ) → bytes_eq (take 5 words) (codes "none ") ≡ false → length words < 64 → split_state words ≡ None
split_short words h l =
    let none : drop 64 words ≡ [] = drop_short 64 words (omega arith) in
    rw (h, none) refl

pub split_digest : (words digits rest word digest : List ℕ) → bytes_eq (take 5 words) (codes "none ") ≡ false → digits ≡ take 64 words → rest ≡ drop 64 words
    → bytes_eq (take 1 rest) (codes " ") ≡ true → word ≡ drop 1 rest → digest_of digits ≡ Some digest → split_state words ≡ Some (Some digest, word)
split_digest words digits rest word digest h d r s w is =
    let digits_is : digest_of (take 64 words) ≡ Some digest = ap digest_of (sym d) ∙ is in
    let space : bytes_eq (take 1 (drop 64 words)) (codes " ") ≡ true = ap (λ t. bytes_eq (take 1 t) (codes " ")) (sym r) ∙ s in
    let word_is : drop 65 words ≡ word = sym (w ∙ ap (drop 1) r ∙ drop_one 64 words) in
    rw (h, space, digits_is, word_is) refl

-- the words are a state and a word behind it
pub record IsSplit (words : List ℕ) (state : State) (word : List ℕ) : Type 0 where
  pub whole : words ≡ state_text state ++ 32 ∷ word
  pub spelled : IsState state

is_none : (words word : List ℕ) (state : State) → bytes_eq (take 5 words) (codes "none ") ≡ true → ◌≡◌ {A = Option (State × List ℕ)} (Some (None, drop 5 words)) (Some (state, word)) → IsSplit words state word
is_none words word state e h =
    let pair : ◌≡◌ {A = State × List ℕ} (None, drop 5 words) (state, word) = cc in
    let s : None ≡ state = ap (λ (p : State × List ℕ). p.0) pair in
    let w : drop 5 words ≡ word = ap (λ (p : State × List ℕ). p.1) pair in
    let split : IsSplit words None (drop 5 words) = record { whole = none_state words e; spelled = tt } in
    subst (λ t. IsSplit words t word) s (subst (λ t. IsSplit words None t) w split)

is_some : (words word : List ℕ) (state : State) → bytes_eq (take 1 (drop 64 words)) (codes " ") ≡ true → option_map {U = State × List ℕ} (λ digest. (Some digest, drop 65 words)) (digest_of (take 64 words)) ≡ Some (state, word) → IsSplit words state word
is_some words word state e h =
    let (digest, some, same) = map_some {B = State × List ℕ} (λ digest. (Some digest, drop 65 words)) (digest_of (take 64 words)) (state, word) h in
    let s : Some digest ≡ state = ap (λ (p : State × List ℕ). p.0) same in
    let w : drop 65 words ≡ word = ap (λ (p : State × List ℕ). p.1) same in
    let spells = digest_is (take 64 words) digest some in
    let split : IsSplit words (Some digest) (drop 65 words) = record { whole = behind_space words e ∙ ap (λ t. t ++ 32 ∷ drop 65 words) spells.whole; spelled = spells.is } in
    subst (λ t. IsSplit words t word) s (subst (λ t. IsSplit words (Some digest) t) w split)

pub state_is : (words word : List ℕ) (state : State) → split_state words ≡ Some (state, word) → IsSplit words state word
state_is words word state h =
    elim (bytes_eq (take 5 words) (codes "none ")) as (λ b. bytes_eq (take 5 words) (codes "none ") ≡ b → cond b (Some (None, drop 5 words)) (cond (bytes_eq (take 1 (drop 64 words)) (codes " ")) (option_map {U = State × List ℕ} (λ digest. (Some digest, drop 65 words)) (digest_of (take 64 words))) None) ≡ Some (state, word) → IsSplit words state word) [
      | true ↦ λ e k. is_none words word state e k
      | false ↦ λ e k.
          elim (bytes_eq (take 1 (drop 64 words)) (codes " ")) as (λ b. bytes_eq (take 1 (drop 64 words)) (codes " ") ≡ b → cond b (option_map {U = State × List ℕ} (λ digest. (Some digest, drop 65 words)) (digest_of (take 64 words))) None ≡ Some (state, word) → IsSplit words state word) [
            | true ↦ λ f l. is_some words word state f l
            | false ↦ λ f l. apart cc
          ] refl k
    ] refl h

pub stated_spelled : (state : State) (path : List ℕ) → IsState state → IsBelowRoot path → stated (state_text state ++ 32 ∷ path) ≡ Some (state, path)
stated_spelled state path h at = rw (state_spelled state path h, place_spelled path at) refl

-- the words are a state and a path
pub record IsStated (words : List ℕ) (state : State) (path : List ℕ) : Type 0 where
  pub whole : words ≡ state_text state ++ 32 ∷ path
  pub spelled : IsState state
  pub place : IsBelowRoot path

pub stated_is : (words : List ℕ) (state : State) (path : List ℕ) → stated words ≡ Some (state, path) → IsStated words state path
stated_is words state path h =
    let ((s, w), split, rest) = then_some {A = State × List ℕ} {B = State × List ℕ} (λ s. option_map (λ path. (s.0, path)) (place_of s.1)) (split_state words) (state, path) h in
    let (p, place, same) = map_some {B = State × List ℕ} (λ path. (s, path)) (place_of w) (state, path) rest in
    let is = state_is words w s split in
    let (e, at) = place_is w p place in
    let s_is : s ≡ state = ap (λ (p : State × List ℕ). p.0) same in
    let p_is : p ≡ path = ap (λ (p : State × List ℕ). p.1) same in
    record {
      whole = is.whole ∙ (λ i. state_text (s_is i) ++ 32 ∷ (e ∙ p_is) i);
      spelled = subst IsState s_is is.spelled;
      place = subst IsBelowRoot p_is at;
    }

-- ---- a line

-- a line's text
abbrev pub line_text : Line → List ℕ
line_text (Target state path) = codes "target " ++ state_text state ++ 32 ∷ path
line_text (Entry e) = entry_line e

abbrev pub IsLine : Line → Type 0
IsLine (Target state path) = IsState state × IsBelowRoot path
IsLine (Entry e) = IsEntry e

pub line_spelled : (line : Line) → IsLine line → line_of (line_text line) ≡ Some line
line_spelled (Target state path) h = rw (stated_spelled state path h.0 h.1) refl
line_spelled (Entry (Change state path)) h = rw (stated_spelled state path h.0 h.1) refl
line_spelled (Entry (Create path)) h = rw (place_spelled path h) refl
line_spelled (Entry Always) h = refl

pub one_line : (line : Line) → IsLine line → list_any is_newline (line_text line) ≡ false
one_line (Target state path) h = rw (list_any-append is_newline (state_text state) (32 ∷ path), state_line state h.0, place_line path h.1) refl
one_line (Entry (Change state path)) h = rw (list_any-append is_newline (state_text state) (32 ∷ path), state_line state h.0, place_line path h.1) refl
one_line (Entry (Create path)) h = place_line path h
one_line (Entry Always) h = refl

-- a line says what it spells
pub record Says (text : List ℕ) (line : Line) : Type 0 where
  pub whole : text ≡ line_text line
  pub is : IsLine line

begins_so : (word text : List ℕ) → length word ≡ 7 → bytes_eq (take 7 text) word ≡ true → text ≡ word ++ drop 7 text
begins_so word text l h = sym (take-append-drop 7 text) ∙ ap (λ t. t ++ drop 7 text) (same_bytes (take 7 text) word h)

target_says : (text : List ℕ) (line : Line) → text ≡ codes "target " ++ drop 7 text → option_map (λ s. Target s.0 s.1) (stated (drop 7 text)) ≡ Some line → Says text line
target_says text line e h =
    let ((state, path), some, same) = map_some {A = State × List ℕ} (λ s. Target s.0 s.1) (stated (drop 7 text)) line h in
    let is = stated_is (drop 7 text) state path some in
    subst (Says text) same (record { whole = e ∙ ap (λ t. codes "target " ++ t) is.whole; is = (is.spelled, is.place) })

change_says : (text : List ℕ) (line : Line) → text ≡ codes "change " ++ drop 7 text → option_map (λ s. Entry (Change s.0 s.1)) (stated (drop 7 text)) ≡ Some line → Says text line
change_says text line e h =
    let ((state, path), some, same) = map_some {A = State × List ℕ} (λ s. Entry (Change s.0 s.1)) (stated (drop 7 text)) line h in
    let is = stated_is (drop 7 text) state path some in
    subst (Says text) same (record { whole = e ∙ ap (λ t. codes "change " ++ t) is.whole; is = (is.spelled, is.place) })

create_says : (text : List ℕ) (line : Line) → text ≡ codes "create " ++ drop 7 text → option_map (λ p. Entry (Create p)) (place_of (drop 7 text)) ≡ Some line → Says text line
create_says text line e h =
    let (path, some, same) = map_some (λ p. Entry (Create p)) (place_of (drop 7 text)) line h in
    let (is, at) = place_is (drop 7 text) path some in
    subst (Says text) same (record { whole = e ∙ ap (λ t. codes "create " ++ t) is; is = at })

always_says : (text : List ℕ) (line : Line) (b : Bool) → bytes_eq text (codes "always") ≡ b → cond b (Some (Entry Always)) None ≡ Some line → Says text line
always_says text line true e h = let same : Entry Always ≡ line = cc in subst (Says text) same (record { whole = same_bytes text (codes "always") e; is = tt })
always_says text line false e h = apart cc

create_or : (text : List ℕ) (line : Line) (b : Bool) → bytes_eq (take 7 text) (codes "create ") ≡ b → cond b (option_map (λ p. Entry (Create p)) (place_of (drop 7 text))) (cond (bytes_eq text (codes "always")) (Some (Entry Always)) None) ≡ Some line → Says text line
create_or text line true e h = create_says text line (begins_so (codes "create ") text refl e) h
create_or text line false e h = always_says text line (bytes_eq text (codes "always")) refl h

change_or : (text : List ℕ) (line : Line) (b : Bool) → bytes_eq (take 7 text) (codes "change ") ≡ b → cond b (option_map (λ s. Entry (Change s.0 s.1)) (stated (drop 7 text))) (cond (bytes_eq (take 7 text) (codes "create ")) (option_map (λ p. Entry (Create p)) (place_of (drop 7 text))) (cond (bytes_eq text (codes "always")) (Some (Entry Always)) None)) ≡ Some line → Says text line
change_or text line true e h = change_says text line (begins_so (codes "change ") text refl e) h
change_or text line false e h = create_or text line (bytes_eq (take 7 text) (codes "create ")) refl h

target_or : (text : List ℕ) (line : Line) (b : Bool) → bytes_eq (take 7 text) (codes "target ") ≡ b → cond b (option_map (λ s. Target s.0 s.1) (stated (drop 7 text))) (cond (bytes_eq (take 7 text) (codes "change ")) (option_map (λ s. Entry (Change s.0 s.1)) (stated (drop 7 text))) (cond (bytes_eq (take 7 text) (codes "create ")) (option_map (λ p. Entry (Create p)) (place_of (drop 7 text))) (cond (bytes_eq text (codes "always")) (Some (Entry Always)) None))) ≡ Some line → Says text line
target_or text line true e h = target_says text line (begins_so (codes "target ") text refl e) h
target_or text line false e h = change_or text line (bytes_eq (take 7 text) (codes "change ")) refl h

pub line_says : (text : List ℕ) (line : Line) → line_of text ≡ Some line → Says text line
line_says text line h = target_or text line (bytes_eq (take 7 text) (codes "target ")) refl h
