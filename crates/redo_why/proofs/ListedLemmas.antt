-- What is listed, by the record of a path and its verdict.
use Rattle.std.proofs.Common.{◌≡◌, ℕ, Bool, true, false, not, cond, ◌&&◌, inl, inr, List}
use Rattle.std.proofs.Common.{Option, Some, None, refl, sym, ap, subst, ◌∙◌}
use Rattle.std.proofs.lemmas.Bool.{cases_Bool}
use Rattle.redo_record.specs.Paths.{is_among}
use Rattle.redo_book.specs.declared.book.BookEntry.{BookEntry}
use Rattle.redo_book.specs.Book.{Record, record_at}
use Rattle.redo_book.specs.Intact.{is_intact}
use Rattle.redo_skip.specs.Sources.{Sources}
use Rattle.redo_skip.specs.Checks.{Check}
use Rattle.redo_skip.specs.NewBook.{LastRun, check_by, checks_of}
use Rattle.redo_why.specs.Reasons.{Altered, Fallen}
use Rattle.redo_why.specs.Verdicts.{Verdict, Keeps, Begins, Either}
use Rattle.redo_why.specs.OutOfDate.{Stale, Maybe, Ring, Lost, word_by, word_intact, word_recorded}
use Rattle.redo_why.specs.OutOfDate.{Word, listed, first_drop, first_unsure, checks_left, verdict_left}
use Rattle.redo_why.proofs.MarkLemmas.{IsOpenVerdict}
use Rattle.redo_skip.proofs.NewBookLemmas.{found-target}

module _ (s : Sources) (last : LastRun) where
  -- the check of an intact target with a rule that isn't requested
  pub check-intact : (request : List (List ℕ)) (p : List ℕ) (r : Record) → is_among request p ≡ false →
      record_at last.book p ≡ Some r → s.has_rule p ≡ true → is_intact last.file r ≡ true →
      checks_of s last request p ≡ Some (check_by last r)
  check-intact request p r free at ruled intact =
      let there : s.has_rule r.target ≡ true = ap s.has_rule (found-target last.book p r at) ∙ ruled in
      rw (free, at, there, intact) refl

  -- an altered one is in no check
  pub check-altered : (request : List (List ℕ)) (p : List ℕ) (r : Record) → record_at last.book p ≡ Some r →
      is_intact last.file r ≡ false → checks_of s last request p ≡ None
  check-altered request p r at altered =
      rw at (no-check (is_among request p) (s.has_rule r.target) (is_intact last.file r) (Some (check_by last r)) altered)
    where
      no-check : (asked ruled intact : Bool) (x : Option Check) → intact ≡ false →
          cond (not asked && (ruled && intact)) x None ≡ None
      no-check true ruled intact x f = refl
      no-check false false intact x f = refl
      no-check false true intact x f = ap (λ b. cond b x None) f

  -- A path with a record

  module _ (p : List ℕ) (r : Record) (target : s.is_source p ≡ false) (at : record_at last.book p ≡ Some r) where
    listed-by : listed s last p ≡ word_recorded s last p r
    listed-by = rw (target, at) refl

    -- the cases of what is listed
    pub data Cases : Type 0 where
      is_lost : s.has_rule p ≡ false → listed s last p ≡ Some Lost → Cases
      is_altered : s.has_rule p ≡ true → is_intact last.file r ≡ false → listed s last p ≡ Some (Stale Altered) → Cases
      is_checked : s.has_rule p ≡ true → is_intact last.file r ≡ true → listed s last p ≡ word_intact s last p r → Cases

    pub cases : Cases
    cases = elim (cases_Bool (s.has_rule p)) [
      | inr f ↦ is_lost f (listed-by ∙ rw f refl)
      | inl t ↦ elim (cases_Bool (is_intact last.file r)) [
        | inr f ↦ is_altered t f (listed-by ∙ rw (t, f) refl)
        | inl i ↦ is_checked t i (listed-by ∙ rw (t, i) refl)
      ]
    ]

-- Of words

-- what a word tells of the first entry that drops, and of the verdict
pub data Says (on : List ℕ) (drop : Option BookEntry) (v : Option Verdict) : Option Word → Type 0 where
  says_kept : v ≡ Some Keeps → Says on drop v None
  says_ring : v ≡ None → Says on drop v (Some Ring)
  says_maybe : (q : List ℕ) → q ≡ on → IsOpenVerdict v → drop ≡ None → Says on drop v (Some (Maybe q))
  says_stale : (d : BookEntry) → IsOpenVerdict v → drop ≡ Some d → Says on drop v (Some (Stale (Fallen d)))

pub says : (on : List ℕ) (drop : Option BookEntry) (v : Option Verdict) → Says on drop v (word_by on drop v)
says on drop None = says_ring refl
says on drop (Some Keeps) = says_kept refl
says on None (Some Begins) = says_maybe on refl (inl refl) refl
says on (Some d) (Some Begins) = says_stale d (inl refl) refl
says on None (Some Either) = says_maybe on refl (inr refl) refl
says on (Some d) (Some Either) = says_stale d (inr refl) refl

module _ (on : List ℕ) (drop : Option BookEntry) (v : Option Verdict) where
  kept_of : Says on drop v None → v ≡ Some Keeps
  kept_of (says_kept is) = is

  ring_of : Says on drop v (Some Ring) → v ≡ None
  ring_of (says_ring is) = is

  lost_of : Says on drop v (Some Lost) → ⊥
  lost_of = elim [ ]

  pub word-kept : word_by on drop v ≡ None → v ≡ Some Keeps
  word-kept e = kept_of (subst (Says on drop v) e (says on drop v))

  pub word-ring : word_by on drop v ≡ Some Ring → v ≡ None
  word-ring e = ring_of (subst (Says on drop v) e (says on drop v))

  pub word-lost : word_by on drop v ≡ Some Lost → ⊥
  word-lost e = lost_of (subst (Says on drop v) e (says on drop v))

-- What is listed of a path with a record tells of its rule, its file and its verdict

module _ (s : Sources) (last : LastRun) (p : List ℕ) (r : Record) where
  abbrev its_drop : Option BookEntry
  its_drop = first_drop s (checks_left s last) (verdict_left s last) r.entries

  abbrev its_unsure : List ℕ
  its_unsure = first_unsure s (checks_left s last) (verdict_left s last) r.entries

  pub data Told : Option Word → Type 0 where
    told_lost : s.has_rule p ≡ false → Told (Some Lost)
    told_altered : s.has_rule p ≡ true → is_intact last.file r ≡ false → Told (Some (Stale Altered))
    told_checked : {w : Option Word} → s.has_rule p ≡ true → is_intact last.file r ≡ true →
        Says its_unsure its_drop (verdict_left s last p) w → Told w

  pub told : s.is_source p ≡ false → record_at last.book p ≡ Some r → (w : Option Word) → listed s last p ≡ w → Told w
  told target at w is = elim (cases s last p r target at) [
    | is_lost f e ↦ subst Told (sym e ∙ is) (told_lost f)
    | is_altered t f e ↦ subst Told (sym e ∙ is) (told_altered t f)
    | is_checked t i e ↦ subst Told (sym e ∙ is) (told_checked t i (says its_unsure its_drop (verdict_left s last p)))
  ]
