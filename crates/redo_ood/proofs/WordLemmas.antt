-- What a list says of a target, and its verdict in the run.
use Rattle.std.proofs.Common.{◌≡◌, ◌∙◌, ℕ, true, false, inl, inr, List, [], Some, None, refl, sym, ap}
use Rattle.std.proofs.lemmas.Bool.{cases_Bool}
use Rattle.redo_book.specs.Book.{Record, record_at}
use Rattle.redo_book.specs.Intact.{is_intact}
use Rattle.redo_skip.specs.NewBook.{LastRun, checks_of}
use Rattle.redo_skip.specs.Sources.{Sources}
use Rattle.redo_why.specs.OutOfDate.{Word, Stale, Maybe, Ring, Lost, first_drop, first_unsure, listed, may_begin, word_by}
use Rattle.redo_why.specs.Reasons.{Altered}
use Rattle.redo_why.specs.Runs.{IsRecordInCheck, verdict_with}
use Rattle.redo_why.specs.Verdicts.{Keeps, verdict, verdict_checked}
use Rattle.redo_why.proofs.DeepLemmas.{book-still}
use Rattle.redo_why.proofs.ListedLemmas.{cases, check-intact, is_altered, is_checked, is_lost, word-kept, word-ring}
use Rattle.redo_why.proofs.ListedLemmas.{word-lost}
use Rattle.redo_ood.specs.Listing.{word_of_entries, word_with}

module _ (s : Sources) (last : LastRun) (request : List (List ℕ)) where
  -- the verdict on a target in check is that by its own entries
  own-verdict : (r : Record) → IsRecordInCheck s last request r.target r →
      verdict s (checks_of s last request) (verdict_with s last request) r.entries ≡ verdict_with s last request r.target
  own-verdict r is =
      sym (ap (verdict_checked s (checks_of s last request) (verdict_with s last request))
      (check-intact s last request r.target r is.unasked is.at is.ruled is.intact))
      ∙ book-still s last request r.target

  module _ (r : Record) (other : s.is_source r.target ≡ false) where
    pub lost-word : s.has_rule r.target ≡ false → word_with s last request r ≡ Some Lost
    lost-word none = rw (other, none) refl

    pub altered-word : s.has_rule r.target ≡ true → is_intact last.file r ≡ false →
        word_with s last request r ≡ Some (Stale Altered)
    altered-word rule altered = rw (other, rule, altered) refl

    pub entries-word : s.has_rule r.target ≡ true → is_intact last.file r ≡ true →
        word_with s last request r
        ≡ word_of_entries s (checks_of s last request) (verdict_with s last request) r.entries
    entries-word rule intact = rw (other, rule, intact) refl

    -- where neither is told a rule makes it, and it is as the last run left it
    pub told-else : (word_with s last request r ≡ Some Lost → ⊥) → (word_with s last request r ≡ Some (Stale Altered) → ⊥) →
        (s.has_rule r.target ≡ true) × (is_intact last.file r ≡ true)
    told-else not_lost not_altered = elim (cases_Bool (s.has_rule r.target)) [
      | inr none ↦ absurd (not_lost (lost-word none))
      | inl rule ↦ elim (cases_Bool (is_intact last.file r)) [
        | inr altered ↦ absurd (not_altered (altered-word rule altered))
        | inl intact ↦ (rule, intact)
      ]
    ]

    -- of a target in check it goes by the verdict
    pub checked-word : IsRecordInCheck s last request r.target r →
        word_with s last request r
        ≡ word_by (first_unsure s (checks_of s last request) (verdict_with s last request) r.entries)
        (first_drop s (checks_of s last request) (verdict_with s last request) r.entries)
        (verdict_with s last request r.target)
    checked-word is =
        entries-word is.ruled is.intact
        ∙ ap (word_by (first_unsure s (checks_of s last request) (verdict_with s last request) r.entries)
        (first_drop s (checks_of s last request) (verdict_with s last request) r.entries)) (own-verdict r is)

  module _ (r : Record) (other : s.is_source r.target ≡ false) (is : IsRecordInCheck s last request r.target r) where
    pub keeps-by : word_with s last request r ≡ None → verdict_with s last request r.target ≡ Some Keeps
    keeps-by none = word-kept _ _ _ (sym (checked-word r other is) ∙ none)

    pub ring-by : word_with s last request r ≡ Some Ring → verdict_with s last request r.target ≡ None
    ring-by ring = word-ring _ _ _ (sym (checked-word r other is) ∙ ring)

    pub never-lost : word_with s last request r ≡ Some Lost → ⊥
    never-lost lost = word-lost _ _ _ (sym (checked-word r other is) ∙ lost)

module _ (s : Sources) (last : LastRun) (request : List (List ℕ)) (r : Record) where
  -- a ring has no verdict by its own entries
  pub ring-verdict : word_with s last request r ≡ Some Ring →
      verdict s (checks_of s last request) (verdict_with s last request) r.entries ≡ None
  ring-verdict ring = elim (cases_Bool (s.is_source r.target)) [
    | inl source ↦ absurd (let bad : None ≡ Some Ring = rw source at ring in cc)
    | inr other ↦
        let both = told-else s last request r other (λ e. cc) (λ e. cc) in
        word-ring _ _ _ (sym (entries-word s last request r other both.0 both.1) ∙ ring)
  ]

-- without a request it is what redo_why lists
module _ (s : Sources) (last : LastRun) (r : Record) (at : record_at last.book r.target ≡ Some r) where
  pub every-word : word_with s last [] r ≡ listed s last r.target
  every-word = elim (cases_Bool (s.is_source r.target)) [
    | inl source ↦ rw source refl
    | inr other ↦ elim (cases s last r.target r other at) [
      | is_lost none told ↦ lost-word s last [] r other none ∙ sym told
      | is_altered rule altered told ↦ altered-word s last [] r other rule altered ∙ sym told
      | is_checked rule intact told ↦
          checked-word s last [] r other (record { at = at; ruled = rule; intact = intact; unasked = refl }) ∙ sym told
    ]
  ]

-- what may be listed of a target that is begun
pub may-words : (w : Word) → (w ≡ Ring → ⊥) → (w ≡ Lost → ⊥) → may_begin w ≡ true
may-words (Stale why) ring lost = refl
may-words (Maybe on) ring lost = refl
may-words Ring ring lost = absurd (ring refl)
may-words Lost ring lost = absurd (lost refl)
