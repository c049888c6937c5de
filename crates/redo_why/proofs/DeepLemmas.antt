-- Verdicts are no deeper than there are records.
use Rattle.std.proofs.Common.{◌≡◌, ℕ, zero, suc, ◌+◌, ◌<◌, ◌≤◌, cond, inl, inr, List, [], ◌∷◌, length}
use Rattle.std.proofs.Common.{false, Option, Some, None, is_some, refl, sym, ap, subst, ◌∙◌, arith}
use Rattle.std.specs.Str.{bytes_eq}
use Rattle.std.proofs.lemmas.Bool.{cases_Bool, cases_lt}
use Rattle.std.proofs.lemmas.List.{length-map}
use Rattle.std.proofs.lemmas.Slice.Eq.{bytes_eq-Decides}
use Rattle.redo_names.proofs.ListLemmas.{flat_map-among}
use Rattle.redo_record.specs.Paths.{IsAmong, is_among}
use Rattle.redo_book.specs.Book.{Record, record_at, targets_of}
use Rattle.redo_build.proofs.DepthLemmas.{cases_Option, stands_still}
use Rattle.redo_skip.specs.Sources.{Sources}
use Rattle.redo_skip.specs.Checks.{Check, Checks}
use Rattle.redo_skip.specs.NewBook.{LastRun, checks_of}
use Rattle.redo_skip.proofs.CheckLemmas.{same-both}
use Rattle.redo_skip.proofs.NewBookLemmas.{check-known}
use Rattle.redo_why.specs.Verdicts.{Verdict, Verdicts, verdict_checked, verdict_at, AreFixed, AreReached}
use Rattle.redo_why.specs.OutOfDate.{named, rests_on, checks_left, IsLeftAlone}
use Rattle.redo_why.proofs.MarkLemmas.{Grows, checked-grows, checked-same, others-same, AreAlikeAt}
use Rattle.redo_why.proofs.ReasonLemmas.{check_from}

-- How many of the paths have a verdict

abbrev count : Verdicts → List (List ℕ) → ℕ
count v [] = 0
count v (p ∷ ps) = (cond (is_some (v p)) 1 0) + count v ps

count-length : (v : Verdicts) (ps : List (List ℕ)) → count v ps ≤ length ps
count-length v [] = omega arith
count-length v (p ∷ ps) = elim (cases_Bool (is_some (v p))) [
  | inl e ↦ rw e (omega (arith, count-length v ps))
  | inr e ↦ rw e (omega (arith, count-length v ps))
]

-- a verdict more counts one more
one-more : (a b : Option Verdict) → ((z : Verdict) → a ≡ Some z → b ≡ Some z) →
    cond (is_some a) 1 0 ≤ cond (is_some b) 1 0
one-more None b more = omega arith
one-more (Some z) b more = let also = more z refl in rw also (omega arith)

one-still : (a b : Option Verdict) → ((z : Verdict) → a ≡ Some z → b ≡ Some z) →
    cond (is_some b) 1 0 ≤ cond (is_some a) 1 0 → b ≡ a
one-still None None more still = refl
one-still None (Some z) more still = absurd (omega (arith, still))
one-still (Some z) b more still = more z refl

count-more : (v w : Verdicts) → Grows v w → (ps : List (List ℕ)) → count v ps ≤ count w ps
count-more v w more [] = omega arith
count-more v w more (p ∷ ps) =
    let here = one-more (v p) (w p) (more p) in let rest = count-more v w more ps in omega (arith, here, rest)

-- where as many have one, the same ones have
count-still : (v w : Verdicts) → Grows v w → (ps : List (List ℕ)) → count w ps ≤ count v ps →
    (p : List ℕ) → IsAmong ps p → w p ≡ v p
count-still v w more [] still p m = absurd m
count-still v w more (x ∷ ps) still p m =
    let here = one-more (v x) (w x) (more x) in
    let rest = count-more v w more ps in
    elim m [
      | inl same ↦
          subst (λ y. w y ≡ v y) same (one-still (v x) (w x) (more x) (omega (arith, still, rest)))
      | inr later ↦ count-still v w more ps (omega (arith, still, here)) p later
    ]

module _ (s : Sources) (k : Checks) where
  grows-once : (n : ℕ) → Grows (verdict_at s k n) (verdict_at s k (suc n))
  grows-once zero q x is = absurd cc
  grows-once (suc n) q x is =
      checked-grows s k (verdict_at s k n) (verdict_at s k (suc n)) (grows-once n) (k q) x is

  pub grows-at : (n m : ℕ) → n ≤ m → Grows (verdict_at s k n) (verdict_at s k m)
  grows-at n zero h q x is = let e : n ≡ 0 = omega arith in rw e at is
  grows-at n (suc m) h q x is = elim (cases_lt m n) [
    | inl above ↦ let e : n ≡ suc m = omega arith in rw e at is
    | inr below ↦ grows-once m q x (grows-at n m below q x is)
  ]

  none-checked : (v : Verdicts) (o : Option Check) → o ≡ None → verdict_checked s k v o ≡ None
  none-checked v o none = ap (verdict_checked s k v) none

  none-at : (n : ℕ) (q : List ℕ) → k q ≡ None → verdict_at s k n q ≡ None
  none-at zero q none = refl
  none-at (suc n) q none = none-checked (verdict_at s k n) (k q) none

  -- where all targets in check are among these
  module _ (targets : List (List ℕ)) (within : (p : List ℕ) (c : Check) → k p ≡ Some c → IsAmong targets p) where
    stood : (m : ℕ) × (m < suc (length targets)) ×
        (count (verdict_at s k (suc m)) targets ≤ count (verdict_at s k m) targets)
    stood = stands_still (λ n. count (verdict_at s k n) targets)
        (λ n. count-more (verdict_at s k n) (verdict_at s k (suc n)) (grows-once n) targets)
        (suc (length targets)) (omega (arith, count-length (verdict_at s k (suc (length targets))) targets))

    still-once : (p : List ℕ) → verdict_at s k (suc stood.0) p ≡ verdict_at s k stood.0 p
    still-once p = elim (cases_Option (k p)) [
      | inl none ↦ none-at (suc stood.0) p none ∙ sym (none-at stood.0 p none)
      | inr some ↦ count-still (verdict_at s k stood.0) (verdict_at s k (suc stood.0)) (grows-once stood.0) targets
          stood.2 p (within p some.0 some.1)
    ]

    still-from : (n : ℕ) → stood.0 ≤ n → (p : List ℕ) → verdict_at s k n p ≡ verdict_at s k stood.0 p
    still-from zero h p = let e : stood.0 ≡ 0 = omega arith in rw e refl
    still-from (suc n) h p = elim (cases_lt n stood.0) [
      | inl above ↦ let e : stood.0 ≡ suc n = omega arith in rw e refl
      | inr below ↦
          checked-same s k (verdict_at s k n) (verdict_at s k stood.0)
          (λ q x is. sym (still-from n below q) ∙ is) (grows-at stood.0 n below) (k p)
          ∙ still-once p
    ]

    -- no further depth makes a difference
    pub deep-enough : (n : ℕ) → length targets ≤ n → (p : List ℕ) →
        verdict_at s k n p ≡ verdict_at s k (length targets) p
    deep-enough n h p =
        still-from n (omega (arith, h, stood.1)) p ∙ sym (still-from (length targets) (omega (arith, stood.1)) p)

-- Of a book

found-among : (book : List Record) (p : List ℕ) (r : Record) → record_at book p ≡ Some r → IsAmong (targets_of book) p
found-among [] p r e = absurd cc
found-among (x ∷ book) p r e = elim (cases_Bool (bytes_eq x.target p)) [
  | inl t ↦ inl ((bytes_eq-Decides x.target p).0 t)
  | inr f ↦ inr (found-among book p r (rw f at e))
]

pub book-deep-enough : (s : Sources) (last : LastRun) (request : List (List ℕ)) (n : ℕ) → length last.book ≤ n →
    (p : List ℕ) →
    verdict_at s (checks_of s last request) n p ≡ verdict_at s (checks_of s last request) (length last.book) p
book-deep-enough s last request n h p =
    let size : length (targets_of last.book) ≡ length last.book = length-map last.book (λ (r : Record). r.target) in
    let k : Checks = checks_of s last request in
    let deep = deep-enough s (checks_of s last request) (targets_of last.book)
    (λ q c e. found-among last.book q (record { target = q; state = _; entries = c.entries }) (check-known s last request q c e)) n (omega (arith, size, h)) p in
    deep ∙ ap (λ m. verdict_at s (checks_of s last request) m p) size

-- one more makes none
pub book-still : (s : Sources) (last : LastRun) (request : List (List ℕ)) (p : List ℕ) →
    verdict_at s (checks_of s last request) (suc (length last.book)) p ≡
    verdict_at s (checks_of s last request) (length last.book) p
book-still s last request p = book-deep-enough s last request (suc (length last.book)) (omega arith) p

-- What code computes

module _ (s : Sources) (last : LastRun) (request : List (List ℕ)) (v : Verdicts)
    (fixed : AreFixed s (checks_of s last request) v) (reached : AreReached s (checks_of s last request) v) where
  -- a verdict at any depth is among verdicts that follow from one another
  all-fixed : (n : ℕ) → Grows (verdict_at s (checks_of s last request) n) v
  all-fixed zero q x is = absurd (let bad : None ≡ Some x = is in cc)
  all-fixed (suc n) q x is =
      fixed q
      ∙ checked-grows s (checks_of s last request) (verdict_at s (checks_of s last request) n) v (all-fixed n)
      (checks_of s last request q) x is

  all-reached : Grows v (verdict_at s (checks_of s last request) (length last.book))
  all-reached q x is =
      let at = reached q x is in
      elim (cases_lt at.0 (length last.book)) [
        | inl below ↦
            grows-at s (checks_of s last request) at.0 (length last.book) (omega (arith, below)) q x at.1
        | inr above ↦ sym (book-deep-enough s last request at.0 above q) ∙ at.1
      ]

  pub fixed-is : (p : List ℕ) → v p ≡ verdict_at s (checks_of s last request) (length last.book) p
  fixed-is p = same-both (v p) (verdict_at s (checks_of s last request) (length last.book) p) (all-reached p)
      (all-fixed (length last.book) p)

-- What is left alone

alone-check : (s : Sources) (last : LastRun) (request : List (List ℕ)) (q : List ℕ) → is_among request q ≡ false →
    checks_left s last q ≡ checks_of s last request q
alone-check s last request q f = ap (λ asked. check_from s last asked (record_at last.book q)) (sym f)

pub itself : (s : Sources) (k : Checks) (n : ℕ) (q : List ℕ) → IsAmong (rests_on s k n q) q
itself s k zero q = inl refl
itself s k (suc n) q = inl refl

others-at : (s : Sources) (k l : Checks) (n : ℕ) (p : List ℕ) →
    ((q : List ℕ) → IsAmong (rests_on s k n p) q → k q ≡ l q) → verdict_at s k n p ≡ verdict_at s l n p
others-at s k l zero p same = refl
others-at s k l (suc n) p same =
    let here : k p ≡ l p = same p (inl refl) in
    others-same s k l (verdict_at s k n) (verdict_at s l n) (k p) (λ q m. (
      same q (inr (flat_map-among (rests_on s k n) (named s (k p)) q q m (itself s k n q))),
      others-at s k l n q (λ x i. same x (inr (flat_map-among (rests_on s k n) (named s (k p)) q x m i))),
    ))
    ∙ ap (verdict_checked s l (verdict_at s l n)) here

module _ (s : Sources) (last : LastRun) (request : List (List ℕ)) where
  -- a target that is left alone has the same check and verdict in a run with requests
  pub alone-same : (n : ℕ) (p : List ℕ) → IsLeftAlone s last request p →
      verdict_at s (checks_left s last) n p ≡ verdict_at s (checks_of s last request) n p
  alone-same n p alone = others-at s (checks_left s last) (checks_of s last request) n p
      (λ q m. alone-check s last request q (alone n q m))

  pub alone-here : (p : List ℕ) → IsLeftAlone s last request p → is_among request p ≡ false
  alone-here p alone = alone 0 p (inl refl)

  -- and so has what its record asks for
  pub alone-named : (p q : List ℕ) → IsLeftAlone s last request p → IsAmong (named s (checks_left s last p)) q →
      IsLeftAlone s last request q
  alone-named p q alone m n x i = alone (suc n) x
      (inr (flat_map-among (rests_on s (checks_left s last) n) (named s (checks_left s last p)) q x m i))

  pub alone-alike : (n : ℕ) (p q : List ℕ) → IsLeftAlone s last request p →
      IsAmong (named s (checks_left s last p)) q →
      AreAlikeAt (checks_left s last) (verdict_at s (checks_left s last) n) (checks_of s last request)
      (verdict_at s (checks_of s last request) n) q
  alone-alike n p q alone m =
      let there = alone-named p q alone m in
      (alone-check s last request q (alone-here q there), alone-same n q there)
