-- What a table of verdicts over the rows of a book has is the verdicts of the book's targets.
use Rattle.std.proofs.Common.{◌≡◌, ◌∙◌, ℕ, zero, suc, Bool, true, false, inl, inr, List, [], ◌∷◌, length}
use Rattle.std.proofs.Common.{Option, Some, None, slice_get, refl, sym, ap, arith}
use Rattle.std.proofs.lemmas.Bool.{cases_lt}
use Rattle.redo_digest.specs.Digest.{state_of}
use Rattle.redo_book.specs.declared.book.BookEntry.{BookEntry}
use Rattle.redo_book.specs.Book.{Record, record_at}
use Rattle.redo_build.proofs.DepthLemmas.{cases_Option}
use Rattle.redo_skip.specs.Sources.{Sources}
use Rattle.redo_skip.specs.Checks.{Check, Checks}
use Rattle.redo_skip.specs.NewBook.{LastRun, checks_of}
use Rattle.redo_skip.proofs.NewBookLemmas.{check-known}
use Rattle.redo_why.specs.Verdicts.{Verdict, Keeps, Begins, Either, Verdicts, mark, mark_checked, verdict_by, verdict}
use Rattle.redo_why.specs.Verdicts.{verdict_checked, verdict_at}
use Rattle.redo_why.specs.Runs.{verdict_with}
use Rattle.redo_why.proofs.DeepLemmas.{grows-at, book-deep-enough}
use Rattle.redo_ood.specs.declared.verdicts.RowItem.{RowItem}
use Rattle.redo_ood.specs.declared.verdicts.RowItem.TheVariants as items
use Rattle.redo_ood.specs.declared.verdicts.Verdict.{Verdict as CodeVerdict}
use Rattle.redo_ood.specs.declared.verdicts.Verdict.TheVariants as verdicts
use Rattle.redo_ood.specs.declared.verdicts.Row.{Row}
use Rattle.redo_ood.specs.inside.Verdicts.{Known, in_table, by_verdict, by_item, of_items, of_row, known_at, AreVerdicts}
use Rattle.redo_ood.specs.inside.Rows.{told_as, AreItems, AreRows, IsAt, IsItem}
use Rattle.redo_ood.proofs.StepLemmas.{row-grows}
use Rattle.redo_ood.proofs.ItemLemmas.{rows-at}

by-told : (same : Bool) (o rest : Option CodeVerdict) →
    told_as (by_verdict same o rest) ≡ verdict_by (mark_checked same (told_as o)) (told_as rest)
by-told same None rest = refl
by-told true (Some verdicts.Keeps) rest = refl
by-told false (Some verdicts.Keeps) rest = refl
by-told true (Some verdicts.Begins) rest = refl
by-told false (Some verdicts.Begins) rest = refl
by-told true (Some verdicts.Either) rest = refl
by-told false (Some verdicts.Either) rest = refl

told-is : (x : CodeVerdict) → (y : Verdict) × (told_as (Some x) ≡ Some y)
told-is verdicts.Keeps = (Keeps, refl)
told-is verdicts.Begins = (Begins, refl)
told-is verdicts.Either = (Either, refl)

told-some : (o : Option CodeVerdict) (y : Verdict) → told_as o ≡ Some y → (x : CodeVerdict) × (o ≡ Some x)
told-some None y e = absurd cc
told-some (Some x) y e = (x, refl)

module _ (s : Sources) (k : Checks) (book : List Record) (known : Known) (v : Verdicts)
    (same : (j : ℕ) (q : List ℕ) (c : Check) → k q ≡ Some c → IsAt book q j → told_as (known j) ≡ v q) where
  item-told : (e : BookEntry) (i : RowItem) (rest : Option CodeVerdict) → IsItem s k book e i →
      told_as (by_item known i rest) ≡ verdict_by (mark s k v e) (told_as rest)
  item-told e items.Holds rest is = sym (ap (λ m. verdict_by m (told_as rest)) (is v))
  item-told e items.Drops rest is = sym (ap (λ m. verdict_by m (told_as rest)) (is v))
  item-told e items.Unsure rest is = sym (ap (λ m. verdict_by m (told_as rest)) (is v))
  item-told e (items.On j t) rest is =
      by-told t (known j) rest
      ∙ ap (λ o. verdict_by (mark_checked t o) (told_as rest)) (same j is.path is.check is.in_check is.at)
      ∙ sym (ap (λ m. verdict_by m (told_as rest)) (is.marked v))

  items-told : (es : List BookEntry) (is : List RowItem) → AreItems s k book es is →
      told_as (of_items known is) ≡ verdict s k v es
  items-told [] [] are = refl
  items-told [] (i ∷ is) are = absurd are
  items-told (e ∷ es) [] are = absurd are
  items-told (e ∷ es) (i ∷ is) are =
      item-told e i (of_items known is) are.0
      ∙ ap (verdict_by (mark s k v e)) (items-told es is are.1)

module _ (s : Sources) (last : LastRun) (request : List (List ℕ)) (rows : List Row)
    (are : AreRows s (checks_of s last request) last.book last.book rows) where
  abbrev k : Checks
  k = checks_of s last request

  same-entries : (p : List ℕ) (c : Check) (r : Record) → k p ≡ Some c → record_at last.book p ≡ Some r →
      r.entries ≡ c.entries
  same-entries p c r is at =
      let known : record_at last.book p ≡ Some (record { target = p; state = state_of c.file; entries = c.entries }) =
      check-known s last request p c is in
      let both : Some r ≡ Some (record { target = p; state = state_of c.file; entries = c.entries }) = sym at ∙ known in
      let one : r ≡ record { target = p; state = state_of c.file; entries = c.entries } = cc in
      ap (λ (x : Record). x.entries) one

  -- at each depth they are the same
  known-told : (n j : ℕ) (q : List ℕ) (c : Check) → k q ≡ Some c → IsAt last.book q j →
      told_as (known_at rows n j) ≡ verdict_at s k n q
  known-told zero j q c is at = refl
  known-told (suc n) j q c is at =
      let row = rows-at s k last.book last.book rows are j at.made at.there in
      ap (λ o. told_as (of_row (known_at rows n) o)) row.1
      ∙ items-told s k last.book (known_at rows n) (verdict_at s k n) (known-told n) at.made.entries row.0.items.items row.2
      ∙ ap (verdict s k (verdict_at s k n)) (same-entries q c at.made is at.found)
      ∙ sym (ap (verdict_checked s k (verdict_at s k n)) is)

  module _ (table : List (Option CodeVerdict)) (are_verdicts : AreVerdicts rows table) where
    below : (n i : ℕ) (x : CodeVerdict) → known_at rows n i ≡ Some x → in_table table i ≡ Some x
    below zero i x e = absurd (let bad : None ≡ Some x = e in cc)
    below (suc n) i x e =
        are_verdicts.fixed i ∙ row-grows (known_at rows n) (in_table table) (below n) (slice_get rows i) x e

    pub table-told : (p : List ℕ) (c : Check) → k p ≡ Some c → (i : ℕ) → IsAt last.book p i →
        told_as (in_table table i) ≡ verdict_with s last request p
    table-told p c is i at = elim (cases_Option (in_table table i)) [
      | inr some ↦
          let deep = are_verdicts.reached i some.0 some.1 in
          let there = sym (known-told deep.0 i p c is at) ∙ ap told_as deep.1 in
          ap told_as some.1 ∙ sym (elim (cases_lt deep.0 (length last.book)) [
            | inr above ↦ sym (book-deep-enough s last request deep.0 above p) ∙ there
            | inl under ↦
                let y = told-is some.0 in
                grows-at s k deep.0 (length last.book) (omega (arith, under)) p y.0 (there ∙ y.1) ∙ sym y.1
          ])
      | inl none ↦ elim (cases_Option (verdict_with s last request p)) [
        | inl none' ↦ ap told_as none ∙ sym none'
        | inr some ↦
            let known = told-some (known_at rows (length last.book) i) some.0
            (known-told (length last.book) i p c is at ∙ some.1) in
            absurd (
            let bad : None ≡ Some known.0 = sym none ∙ below (length last.book) i known.0 known.1 in cc)
      ]
    ]
