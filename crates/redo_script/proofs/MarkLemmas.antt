-- Lines of a text, and bytes of one line.
use Rattle.std.proofs.Common.{◌≡◌, ℕ, zero, suc, ◌+◌, ◌-◌, ◌≤◌, ◌<◌, Bool, true, false, ◌==◌, if◌then◌else◌, List, []}
use Rattle.std.proofs.Common.{◌∷◌, ◌++◌, length, take, drop, get_or, refl, sym, ap, ◌∙◌, subst, inl, inr, add-one}
use Rattle.std.proofs.Common.{arith, append_assoc, All}
use Rattle.std.proofs.Math.Seq.{drop-cons, take-suc}
use Rattle.std.proofs.lemmas.Bool.{cases_Bool}
use Rattle.std.proofs.lemmas.List.{take-append-drop, length-take-le, nil_from_length, take_rest}
use Rattle.std.proofs.lemmas.List.Elements.{All-push}
use Rattle.redo_script.specs.declared.places.Span.{Span}
use Rattle.redo_script.specs.Tokens.{line_after}
use Rattle.redo_script.specs.Marks.{line_from, IsInLine, IsInOneLine, AreInOrder}
use Rattle.redo_script.specs.Texts.{first_line}

-- the first line is no longer than the text
pub first_fits : (xs : List ℕ) → length (first_line xs) ≤ length xs
first_fits [] = omega arith
first_fits (b ∷ bs) = elim (cases_Bool (b == 10)) [
  | inl e ↦ rw e (omega arith)
  | inr e ↦ let on = first_fits bs in rw e (omega (arith, on))
]

-- one byte more of the first line
pub line_here : (text : List ℕ) (i : ℕ) → i < length text → length (first_line (drop i text)) ≡ (if get_or text i 0 == 10 then 0 else suc (length (first_line (drop (i + 1) text))))
line_here text i lt = rw (add-one, drop-cons text i 0 lt) (by_cases (get_or text i 0 == 10))
  where
    by_cases : (is_end : Bool) → length (if is_end then [] else get_or text i 0 ∷ first_line (drop (suc i) text)) ≡ (if is_end then 0 else suc (length (first_line (drop (suc i) text))))
    by_cases true = refl
    by_cases false = refl

line_snoc : (xs : List ℕ) (b line : ℕ) → line_from line (xs ++ b ∷ []) ≡ line_after (line_from line xs) b
line_snoc [] b line = refl
line_snoc (x ∷ xs) b line = line_snoc xs b (line_after line x)

-- the line after one byte more
pub next_line : (text : List ℕ) (i : ℕ) → i < length text → line_from 1 (take (i + 1) text) ≡ line_after (line_from 1 (take i text)) (get_or text i 0)
next_line text i lt = rw (add-one, take-suc text i 0 lt) (line_snoc (take i text) (get_or text i 0) 1)

-- a beginning of the first line has no newline
pub quiet : (xs : List ℕ) (k : ℕ) → k ≤ length (first_line xs) → first_line (take k xs) ≡ take k xs
quiet xs zero h = refl
quiet [] (suc k) h = refl
quiet (b ∷ bs) (suc k) h = elim (cases_Bool (b == 10)) [
  | inl e ↦ let no = rw e at h in absurd (omega (arith, no))
  | inr e ↦ let on = rw e at h in rw e (ap (λ l. b ∷ l) (quiet bs k (omega (arith, on))))
]

quiet_line : (xs : List ℕ) (k line : ℕ) → k ≤ length (first_line xs) → line_from line (take k xs) ≡ line
quiet_line xs zero line h = refl
quiet_line [] (suc k) line h = refl
quiet_line (b ∷ bs) (suc k) line h = elim (cases_Bool (b == 10)) [
  | inl e ↦ let no = rw e at h in absurd (omega (arith, no))
  | inr e ↦
      let on = rw e at h in
      let same : line_after line b ≡ line = rw e refl in
      ap (λ l. line_from l (take k bs)) same ∙ quiet_line bs k line (omega (arith, on))
]

same_from : (text : List ℕ) (a k line : ℕ) → a ≤ length text → k ≤ length (first_line (drop a text)) → line_from line (take (a + k) text) ≡ line_from line (take a text)
same_from text zero k line w h = let sum : 0 + k ≡ k = omega arith in rw sum (quiet_line text k line h)
same_from [] (suc a) k line w h = absurd (omega (arith, w))
same_from (b ∷ bs) (suc a) k line w h = let sum : suc a + k ≡ suc (a + k) = omega arith in rw sum (same_from bs a k (line_after line b) (omega (arith, w)) h)

-- places up to the end of a line are in it
pub same_line : (text : List ℕ) (a b : ℕ) → a ≤ length text → a ≤ b → b ≤ a + length (first_line (drop a text)) → line_from 1 (take b text) ≡ line_from 1 (take a text)
same_line text a b w h k =
    let sum : b ≡ a + (b - a) = omega (arith, h) in
    rw sum (same_from text a (b - a) 1 w (omega (arith, h, k)))

-- these bytes, no more than the line has and at least one if it has any
pub cut : (text : List ℕ) (start k : ℕ) → start ≤ length text → k ≤ length (first_line (drop start text)) → (k ≡ 0 → length (first_line (drop start text)) ≡ 0) → IsInLine text (line_from 1 (take start text)) (record { start = start; end = start + k })
cut text start k w h none =
    let rest = drop start text in
    let fits = first_fits rest in
    let size : length (take k rest) ≡ k = length-take-le k rest (omega (arith, h, fits)) in
    record {
      before = take start text;
      marked = take k rest;
      after = drop k rest;
      is = sym (take-append-drop start text) ∙ (ap (λ l. take start text ++ l) (sym (take-append-drop k rest)) ∙ sym (append_assoc (take start text) (take k rest) (drop k rest)));
      starts = length-take-le start text w;
      ends = rw size refl;
      line_is = refl;
      has_no_newline = quiet rest k h;
      shown = λ e.
          let zero_size : 0 ≡ length (take k rest) = rw e refl in
          let k_is : k ≡ 0 = omega (arith, size, zero_size) in
          let empty = none k_is in
          rw k_is (nil_from_length (first_line rest) (omega (arith, empty)));
    }

-- the first line from a place, of the bytes from there to the end
pub rest_line : (text : List ℕ) (start : ℕ) → length (first_line (take (length text - start) (drop start text))) ≡ length (first_line (drop start text))
rest_line text start = ap (λ l. length (first_line l)) (take_rest text start)

-- bytes that begin in a line are in it
pub still_in : (text : List ℕ) (line a b : ℕ) (span : Span) → a ≤ length text → line_from 1 (take a text) ≡ line → a ≤ b → b ≤ a + length (first_line (drop a text)) → IsInLine text (line_from 1 (take b text)) span → IsInLine text line span
still_in text line a b span w e h k i = subst (λ (l : ℕ). IsInLine text l span) (same_line text a b w h k ∙ e) i

-- the last of these ends here or before
abbrev pub EndsBy : ℕ → List Span → Type 0
EndsBy past [] = Unit {0}
EndsBy past (a ∷ []) = a.end ≤ past
EndsBy past (a ∷ b ∷ spans) = EndsBy past (b ∷ spans)

-- one more in order
pub order_one : (spans : List Span) (span : Span) (past : ℕ) → AreInOrder spans → EndsBy past spans → past ≤ span.start → AreInOrder (spans ++ span ∷ [])
order_one [] span past o e h = tt
order_one (a ∷ []) span past o e h = (omega (arith, e, h), tt)
order_one (a ∷ b ∷ spans) span past o e h = (o.0, order_one (b ∷ spans) span past o.1 e h)

pub ends_one : (spans : List Span) (span : Span) → EndsBy span.end (spans ++ span ∷ [])
ends_one [] span = omega arith
ends_one (a ∷ []) span = omega arith
ends_one (a ∷ b ∷ spans) span = ends_one (b ∷ spans) span

pub lines_one : (text : List ℕ) (spans : List Span) (span : Span) (line : ℕ) → All (IsInOneLine text) spans → IsInLine text line span → All (IsInOneLine text) (spans ++ span ∷ [])
lines_one text spans span line h i = All-push (IsInOneLine text) spans span h (line, i)
