-- One reason for each script that is begun, and which.
use Rattle.std.proofs.Common.{◌≡◌, ◌↔◌, ℕ, Bool, true, false, not, ◌&&◌, cond, ◌⊎◌, inl, inr, List, [], ◌∷◌, ◌++◌}
use Rattle.std.proofs.Common.{Option, Some, None, refl, sym, ap, subst, ◌∙◌}
use Rattle.std.specs.Prelude.{option_and_then}
use Rattle.std.specs.List.{AllByRecursion}
use Rattle.std.proofs.lemmas.Bool.{cases_Bool}
use Rattle.redo_record.specs.Paths.{IsAmong, is_among}
use Rattle.redo_book.specs.declared.book.BookEntry.{BookEntry}
use Rattle.redo_book.specs.Book.{Record, record_at}
use Rattle.redo_book.specs.Intact.{is_intact}
use Rattle.redo_build.specs.Rules.{Ask, Extends}
use Rattle.redo_skip.specs.Sources.{Sources, without_book}
use Rattle.redo_skip.specs.Checks.{Standing, stands, lacks, falls, standing, finding, Check}
use Rattle.redo_skip.specs.Checks.{with_book}
use Rattle.redo_skip.specs.NewBook.{LastRun, is_valid, check_by, checks_of}
use Rattle.redo_skip.proofs.CheckLemmas.{cases_Standing, found-first, found-later, standing-same, standing-stays}
use Rattle.redo_why.specs.Reasons.{Reason, Requested, Unrecorded, Altered, Fallen, first_by, first_fallen}
use Rattle.redo_why.specs.Reasons.{reason_fallen, reason_recorded, reason_of, IsFirstFallen}
use Rattle.redo_skip.proofs.CheckLemmas.{begins_checked, is_fallen}
use Rattle.redo_skip.proofs.NewBookLemmas.{found-target}

-- Of entries

module _ (s : Sources) (a : Ask) where
  first-from : (e : BookEntry) (v : Standing) (rest : Option BookEntry) (d : BookEntry) → first_by e v rest ≡ Some d →
      ((v ≡ stands) × (rest ≡ Some d)) ⊎ ((v ≡ falls) × (e ≡ d))
  first-from e stands rest d is = inl (refl, is)
  first-from e lacks rest d is = absurd cc
  first-from e falls rest d is = inr (refl, cc)

  -- some entry is the first that fell where the check falls
  pub falls-first : (es : List BookEntry) → (finding s a es).standing ≡ falls →
      (e : BookEntry) × (first_fallen s a es ≡ Some e)
  falls-first [] f = absurd cc
  falls-first (e ∷ es) f = elim (cases_Standing (standing s a e)) [
    | inl t ↦ let later = falls-first es (rw t at f) in (later.0, rw t later.1)
    | inr other ↦ elim other [
      | inl l ↦ absurd (let bad : lacks ≡ falls = rw l at f in cc)
      | inr d ↦ (e, rw d refl)
    ]
  ]

  pub first-is : (es : List BookEntry) (e : BookEntry) → first_fallen s a es ≡ Some e → IsFirstFallen s a es e
  first-is [] e is = absurd cc
  first-is (x ∷ es) e is = elim (first-from x (standing s a x) (first_fallen s a es) e is) [
    | inl both ↦
        let later = first-is es e both.1 in
        record {
          before = x ∷ later.before;
          after = later.after;
          whole = ap (λ (xs : List BookEntry). x ∷ xs) later.whole;
          stood = (both.0, later.stood);
          fell = later.fell;
        }
    | inr here ↦ record {
      before = [];
      after = es;
      whole = ap (λ (y : BookEntry). y ∷ es) here.1;
      stood = tt;
      fell = ap (standing s a) (sym here.1) ∙ here.0;
    }
  ]

  is-first-in : (before after : List BookEntry) (e : BookEntry) →
      AllByRecursion (λ x. standing s a x ≡ stands) before → standing s a e ≡ falls →
      first_fallen s a (before ++ e ∷ after) ≡ Some e
  is-first-in [] after e stood fell = rw fell refl
  is-first-in (x ∷ xs) after e stood fell = rw (stood.0) (is-first-in xs after e stood.1 fell)

  pub is-first : (es : List BookEntry) (e : BookEntry) → IsFirstFallen s a es e → first_fallen s a es ≡ Some e
  is-first es e is = ap (first_fallen s a) is.whole ∙ is-first-in is.before is.after e is.stood is.fell

  pub first-falls-all : (es : List BookEntry) (e : BookEntry) → first_fallen s a es ≡ Some e →
      (finding s a es).standing ≡ falls
  first-falls-all [] e is = absurd cc
  first-falls-all (x ∷ es) e is = elim (first-from x (standing s a x) (first_fallen s a es) e is) [
    | inl both ↦ rw (both.0) (first-falls-all es e both.1)
    | inr here ↦ rw (here.0) refl
  ]

-- Under more answers

-- the first that fell is the same
pub first-stays : (s : Sources) (es : List BookEntry) (e : BookEntry) (a b : Ask) → Extends (without_book s) a b →
    first_fallen s a es ≡ Some e → first_fallen s b es ≡ Some e
first-stays s [] e a b more is = absurd cc
first-stays s (x ∷ es) e a b more is = elim (first-from s a x (standing s a x) (first_fallen s a es) e is) [
  | inl both ↦
      let there = standing-stays s x a b more (λ l. let stood = both.0 in cc) ∙ both.0 in
      rw there (first-stays s es e a b more both.1)
  | inr here ↦
      let there = standing-stays s x a b more (λ l. let fell = here.0 in cc) ∙ here.0 in
      rw there (ap (λ (y : BookEntry). Some y) here.1)
]

first-rest : (e : BookEntry) (v : Standing) (x y : Option BookEntry) → (v ≡ stands → x ≡ y) →
    first_by e v x ≡ first_by e v y
first-rest e stands x y h = h refl
first-rest e lacks x y h = refl
first-rest e falls x y h = refl

-- asks that agree on what the check asks for have the same first that fell
pub first-same : (s : Sources) (es : List BookEntry) (a b : Ask) →
    ((q : List ℕ) → IsAmong (finding s a es).asked q → a q ≡ b q) → first_fallen s a es ≡ first_fallen s b es
first-same s [] a b same = refl
first-same s (e ∷ es) a b same =
    let first : standing s a e ≡ standing s b e =
    standing-same s e a b (λ q m. same q (found-first s e (standing s a e) (finding s a es) q m)) in
    first-rest e (standing s a e) (first_fallen s a es) (first_fallen s b es)
    (λ t. first-same s es a b (λ q m. same q (found-later s e (standing s a e) (finding s a es) q t m)))
    ∙ ap (λ v. first_by e v (first_fallen s b es)) first

-- Of a target, by whether it is requested and by its record

-- the check and the reason of a target that is requested or not, with this record or none
abbrev pub check_from : Sources → LastRun → Bool → Option Record → Option Check
check_from s last asked o =
    option_and_then (λ r. cond (not asked && is_valid s last r) (Some (check_by last r)) None) o

abbrev reason_from : Sources → LastRun → Ask → Bool → Option Record → Option Reason
reason_from s last a asked o = cond asked (Some Requested) (reason_recorded s last a o)

module _ (s : Sources) (last : LastRun) (a : Ask) where
  fallen-some : (o : Option BookEntry) (why : Reason) → reason_fallen o ≡ Some why →
      (e : BookEntry) × (o ≡ Some e) × (why ≡ Fallen e)
  fallen-some None why is = absurd cc
  fallen-some (Some e) why is = (e, refl, cc)

  pub intact-reason : (r : Record) → is_intact last.file r ≡ true →
      reason_recorded s last a (Some r) ≡ reason_fallen (first_fallen s a r.entries)
  intact-reason r intact = rw intact refl

  altered-reason : (r : Record) → is_intact last.file r ≡ false → reason_recorded s last a (Some r) ≡ Some Altered
  altered-reason r altered = rw altered refl

  is_fallen-falls : (v : Standing) → is_fallen v ≡ true → v ≡ falls
  is_fallen-falls stands e = absurd cc
  is_fallen-falls lacks e = absurd cc
  is_fallen-falls falls e = refl

  begun-from : (asked : Bool) (o : Option Record) → ((r : Record) → o ≡ Some r → s.has_rule r.target ≡ true) →
      (begins_checked s (check_from s last asked o) a ≡ true) ↔
      ((why : Reason) × (reason_from s last a asked o ≡ Some why))
  begun-from true None ruled = (λ _. (Requested, refl), λ _. refl)
  begun-from true (Some r) ruled = (λ _. (Requested, refl), λ _. refl)
  begun-from false None ruled = (λ _. (Unrecorded, refl), λ _. refl)
  begun-from false (Some r) ruled = elim (cases_Bool (is_intact last.file r)) [
    | inl t ↦ (
      λ begun.
          let fell = falls-first s a r.entries
          (is_fallen-falls (finding s a r.entries).standing (rw (ruled r refl, t) at begun)) in
          (Fallen fell.0, intact-reason r t ∙ ap reason_fallen fell.1),
      λ some.
          let found = fallen-some (first_fallen s a r.entries) some.0 (sym (intact-reason r t) ∙ some.1) in
          rw (ruled r refl, t) (ap is_fallen (first-falls-all s a r.entries found.0 found.1)),
    )
    | inr f ↦ (λ _. (Altered, altered-reason r f), λ _. rw (ruled r refl, f) refl)
  ]

  -- Which reason

  -- what a reason tells of a target
  data Why (asked : Bool) (o : Option Record) : Option Reason → Type 0 where
    why_kept : Why asked o None
    why_requested : asked ≡ true → Why asked o (Some Requested)
    why_unrecorded : asked ≡ false → o ≡ None → Why asked o (Some Unrecorded)
    why_altered : asked ≡ false → (r : Record) → o ≡ Some r → is_intact last.file r ≡ false → Why asked o (Some Altered)
    why_fallen : asked ≡ false → (r : Record) → o ≡ Some r → is_intact last.file r ≡ true → (e : BookEntry) →
        first_fallen s a r.entries ≡ Some e → Why asked o (Some (Fallen e))

  why-fallen : (r : Record) → is_intact last.file r ≡ true → (o : Option BookEntry) → first_fallen s a r.entries ≡ o →
      Why false (Some r) (reason_fallen o)
  why-fallen r t None is = why_kept
  why-fallen r t (Some e) is = why_fallen refl r refl t e is

  why : (asked : Bool) (o : Option Record) → Why asked o (reason_from s last a asked o)
  why true o = why_requested refl
  why false None = why_unrecorded refl refl
  why false (Some r) = elim (cases_Bool (is_intact last.file r)) [
    | inl t ↦ subst (Why false (Some r)) (sym (intact-reason r t)) (why-fallen r t (first_fallen s a r.entries) refl)
    | inr f ↦ subst (Why false (Some r)) (sym (altered-reason r f)) (why_altered refl r refl f)
  ]

  requested-from : (asked : Bool) (o : Option Record) → Why asked o (Some Requested) → asked ≡ true
  requested-from asked o (why_requested is) = is

  unrecorded-from : (asked : Bool) (o : Option Record) → Why asked o (Some Unrecorded) → (asked ≡ false) × (o ≡ None)
  unrecorded-from asked o (why_unrecorded free none) = (free, none)

  altered-from : (asked : Bool) (o : Option Record) → Why asked o (Some Altered) →
      (asked ≡ false) × ((r : Record) × (o ≡ Some r) × (is_intact last.file r ≡ false))
  altered-from asked o (why_altered free r at f) = (free, (r, at, f))

  fallen-from : (asked : Bool) (o : Option Record) (e : BookEntry) → Why asked o (Some (Fallen e)) →
      (asked ≡ false) × ((r : Record) × (o ≡ Some r) × (is_intact last.file r ≡ true) × IsFirstFallen s a r.entries e)
  fallen-from asked o _ (why_fallen free r at t e is) = (free, (r, at, t, first-is s a r.entries e is))

module _ (s : Sources) (last : LastRun) (request : List (List ℕ)) where
  -- a script is begun exactly where there is a reason
  pub begun-reason : (a : Ask) (p : List ℕ) → s.has_rule p ≡ true →
      ((with_book s (checks_of s last request)).begins p a ≡ true) ↔
      ((why : Reason) × (reason_of s last request a p ≡ Some why))
  begun-reason a p ruled = begun-from s last a (is_among request p) (record_at last.book p)
      (λ r e. ap s.has_rule (found-target last.book p r e) ∙ ruled)

  why-is : (a : Ask) (p : List ℕ) (x : Option Reason) → reason_of s last request a p ≡ x →
      Why s last a (is_among request p) (record_at last.book p) x
  why-is a p x is = subst (Why s last a (is_among request p) (record_at last.book p)) is
      (why s last a (is_among request p) (record_at last.book p))

  pub reason-requested : (a : Ask) (p : List ℕ) →
      (reason_of s last request a p ≡ Some Requested) ↔ (is_among request p ≡ true)
  reason-requested a p = (
    λ is. requested-from s last a (is_among request p) (record_at last.book p) (why-is a p (Some Requested) is),
    λ t. rw t refl,
  )

  pub reason-unrecorded : (a : Ask) (p : List ℕ) → (reason_of s last request a p ≡ Some Unrecorded) ↔
      ((is_among request p ≡ false) × (record_at last.book p ≡ None))
  reason-unrecorded a p = (
    λ is. unrecorded-from s last a (is_among request p) (record_at last.book p) (why-is a p (Some Unrecorded) is),
    λ parts. rw parts.0 (rw parts.1 refl),
  )

  pub reason-altered : (a : Ask) (p : List ℕ) → (reason_of s last request a p ≡ Some Altered) ↔
      ((is_among request p ≡ false) ×
      ((r : Record) × (record_at last.book p ≡ Some r) × (is_intact last.file r ≡ false)))
  reason-altered a p = (
    λ is. altered-from s last a (is_among request p) (record_at last.book p) (why-is a p (Some Altered) is),
    λ parts. rw parts.0 (rw parts.1.1 (altered-reason s last a parts.1.0 parts.1.2)),
  )

  pub reason-fallen : (a : Ask) (p : List ℕ) (e : BookEntry) → (reason_of s last request a p ≡ Some (Fallen e)) ↔
      ((is_among request p ≡ false) × ((r : Record) × (record_at last.book p ≡ Some r) × (is_intact last.file r ≡ true) ×
      IsFirstFallen s a r.entries e))
  reason-fallen a p e = (
    λ is. fallen-from s last a (is_among request p) (record_at last.book p) e (why-is a p (Some (Fallen e)) is),
    λ parts. rw parts.0 (rw parts.1.1 (intact-reason s last a parts.1.0 parts.1.2
        ∙ ap reason_fallen (is-first s a parts.1.0.entries e parts.1.3))),
  )

  pub reason-recorded : (a : Ask) (p : List ℕ) (r : Record) → is_among request p ≡ false →
      record_at last.book p ≡ Some r → is_intact last.file r ≡ true → (e : BookEntry) → first_fallen s a r.entries ≡ Some e →
      reason_of s last request a p ≡ Some (Fallen e)
  reason-recorded a p r free at intact e is =
      rw free (rw at (intact-reason s last a r intact ∙ ap reason_fallen is))

  -- a reason under these answers is one under others if it is so of the first entry that fell
  pub reason-moves : (a b : Ask) (p : List ℕ) (why : Reason) → ((r : Record) (e : BookEntry) →
      is_among request p ≡ false → record_at last.book p ≡ Some r → is_intact last.file r ≡ true →
      first_fallen s a r.entries ≡ Some e → first_fallen s b r.entries ≡ Some e) →
      reason_of s last request a p ≡ Some why → reason_of s last request b p ≡ Some why
  reason-moves a b p Requested moves is = (reason-requested b p).1 ((reason-requested a p).0 is)
  reason-moves a b p Unrecorded moves is = (reason-unrecorded b p).1 ((reason-unrecorded a p).0 is)
  reason-moves a b p Altered moves is = (reason-altered b p).1 ((reason-altered a p).0 is)
  reason-moves a b p (Fallen e) moves is =
      let parts = (reason-fallen a p e).0 is in
      reason-recorded b p parts.1.0 parts.0 parts.1.1 parts.1.2 e
      (moves parts.1.0 e parts.0 parts.1.1 parts.1.2 (is-first s a parts.1.0.entries e parts.1.3))

  -- under more answers it is the same
  pub reason-stays : (a b : Ask) (p : List ℕ) (why : Reason) → Extends (without_book s) a b →
      reason_of s last request a p ≡ Some why → reason_of s last request b p ≡ Some why
  reason-stays a b p why more is =
      reason-moves a b p why (λ r e free at intact first. first-stays s r.entries e a b more first) is
