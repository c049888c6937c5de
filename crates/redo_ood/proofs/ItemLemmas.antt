-- The item of an entry, by what the tree tells.
use Rattle.std.proofs.Common.{◌≡◌, ◌∙◌, ◌<◌, ◌&&◌, ◌++◌, ℕ, zero, suc, Bool, true, false, not, inl, inr, List, [], ◌∷◌, Option, Some, None}
use Rattle.std.proofs.Common.{arith, refl, sym, ap, subst, length, slice_get}
use Rattle.std.proofs.lemmas.Bool.{cases_Bool}
use Rattle.std.specs.Option.{option_eq}
use Rattle.std.specs.Prelude.{if◌then◌else◌, option_and_then}
use Rattle.std.specs.Str.{bytes_eq}
use Rattle.redo_names.specs.Paths.{is_among}
use Rattle.redo_digest.specs.Digest.{State, state_of}
use Rattle.redo_tree.specs.Tree.{file_at}
use Rattle.redo_which.specs.Candidates.{is_do_file}
use Rattle.redo_which.specs.Rule.{found_of, is_rule}
use Rattle.redo_book.specs.declared.book.BookEntry.{BookEntry}
use Rattle.redo_book.specs.declared.book.BookEntry.TheVariants.{Change}
use Rattle.redo_book.specs.Book.{Record, record_at}
use Rattle.redo_book.specs.Intact.{is_intact}
use Rattle.redo_build.proofs.DepthLemmas.{cases_Option}
use Rattle.redo_skip.specs.Sources.{Sources}
use Rattle.redo_skip.specs.Checks.{Checks, same_state}
use Rattle.redo_skip.specs.NewBook.{LastRun, check_by, checks_of, is_valid}
use Rattle.redo_skip.proofs.NewBookLemmas.{are-checks, found-target}
use Rattle.redo_past.specs.Past.{PastView, intact_record}
use Rattle.redo_step.specs.Limits.{LimitsView}
use Rattle.redo_rules.specs.Build.{GivenView, checks_for, last_run_of, sources_for}
use Rattle.redo_why.proofs.ListedLemmas.{check-altered, check-intact}
use Rattle.redo_why.specs.Verdicts.{mark_checked}
use Rattle.redo_ood.specs.Listing.{run_over}
use Rattle.redo_ood.specs.inside.Rows.{AreItems, AreRows, IsItem}
use Rattle.redo_ood.specs.declared.verdicts.RowItem.{RowItem}
use Rattle.redo_ood.specs.declared.verdicts.RowItem.TheVariants as items
use Rattle.redo_ood.specs.declared.verdicts.Row.{Row}

-- Which targets are in check

ruleless-unchecked : (s : Sources) (last : LastRun) (request : List (List ℕ)) (q : List ℕ) → s.has_rule q ≡ false →
    checks_of s last request q ≡ None
ruleless-unchecked s last request q none = elim (cases_Option (checks_of s last request q)) [
  | inl unchecked ↦ unchecked
  | inr some ↦
      let rule = (are-checks s last request).ruled q some.0 some.1 in
      absurd (let bad : true ≡ false = sym rule ∙ none in cc)
]

pub requested-unchecked : (s : Sources) (last : LastRun) (request : List (List ℕ)) (q : List ℕ) →
    is_among request q ≡ true → checks_of s last request q ≡ None
requested-unchecked s last request q asked = by (record_at last.book q)
  where
    by : (o : Option Record) → option_and_then (λ r. if not (is_among request q) && is_valid s last r then Some (check_by last r) else None) o ≡ None
    by None = refl
    by (Some r) = rw asked refl

-- the record of a target that stands as the last run left it
abbrev kept_of : (List ℕ → Option (List ℕ)) → Option Record → Option Record
kept_of file o = option_and_then (λ m. if is_intact file m then Some m else None) o

kept-found : (file : List ℕ → Option (List ℕ)) (o : Option Record) (r : Record) → kept_of file o ≡ Some r →
    (o ≡ Some r) × (is_intact file r ≡ true)
kept-found file None r h = absurd (let bad : None ≡ Some r = h in cc)
kept-found file (Some m) r h = elim (cases_Bool (is_intact file m)) [
  | inl t ↦
      let both : Some m ≡ Some r = rw t at h in
      let one : m ≡ r = cc in
      (both, ap (is_intact file) (sym one) ∙ t)
  | inr f ↦ absurd (let bad : None ≡ Some r = rw f at h in cc)
]

kept-none : (file : List ℕ → Option (List ℕ)) (r : Record) → kept_of file (Some r) ≡ None → is_intact file r ≡ false
kept-none file r h = elim (cases_Bool (is_intact file r)) [
  | inl t ↦ absurd (let bad : Some r ≡ None = rw t at h in cc)
  | inr f ↦ f
]

altered-unchecked : (s : Sources) (last : LastRun) (request : List (List ℕ)) (q : List ℕ) →
    kept_of last.file (record_at last.book q) ≡ None → checks_of s last request q ≡ None
altered-unchecked s last request q lost = elim (cases_Option (record_at last.book q)) [
  | inl none ↦ rw none refl
  | inr some ↦
      check-altered s last request q some.0 some.1
      (kept-none last.file some.0 (ap (kept_of last.file) (sym some.1) ∙ lost))
]

missing : (rs : List Record) (n : ℕ) → n < length rs → slice_get rs n ≡ None → ⊥
missing [] n below none = omega arith
missing (r ∷ rs) zero below none = cc
missing (r ∷ rs) (suc n) below none = missing rs n (omega arith) none

-- In a run over a past

module _ (past : PastView) (request : List (List ℕ)) (limits : LimitsView) where
  abbrev given : GivenView
  given = run_over past request limits

  abbrev s : Sources
  s = sources_for given

  abbrev k : Checks
  k = checks_for given

  pub script-item : (state : State) (q : List ℕ) → file_at past.sources q ≡ None → is_do_file q ≡ true →
      IsItem s k past.book (Change state q) items.Drops
  script-item state q none script = λ v. rw (none, script) refl

  module _ (state : State) (q : List ℕ) (none : file_at past.sources q ≡ None) (other : is_do_file q ≡ false) where
    pub ruleless-item : is_rule (found_of past.sources q) ≡ false → IsItem s k past.book (Change state q) items.Drops
    ruleless-item rule = λ v.
        let unchecked = ruleless-unchecked s (last_run_of past) request q rule in
        rw (none, other, unchecked, rule) refl

    module _ (rule : is_rule (found_of past.sources q) ≡ true) where
      pub requested-item : is_among request q ≡ true → IsItem s k past.book (Change state q) items.Unsure
      requested-item asked = λ v.
          let unchecked = requested-unchecked s (last_run_of past) request q asked in
          rw (none, other, unchecked, rule) refl

      pub altered-item : is_among request q ≡ false → None ≡ intact_record past q →
          IsItem s k past.book (Change state q) items.Unsure
      altered-item free lost = λ v.
          let unchecked = altered-unchecked s (last_run_of past) request q (sym lost) in
          rw (none, other, unchecked, rule) refl

      pub checked-item : is_among request q ≡ false → (n : ℕ) → slice_get past.book n ≡ intact_record past q →
          n < length past.book → (same : Bool) → same ≡ option_eq bytes_eq (state_of (file_at past.tree q)) state →
          IsItem s k past.book (Change state q) (items.On n same)
      checked-item free n found within same told =
          by (slice_get past.book n) refl
        where
          by : (o : Option Record) → slice_get past.book n ≡ o → IsItem s k past.book (Change state q) (items.On n same)
          by None is = absurd (missing past.book n within is)
          by (Some made) is =
              let kept = kept-found (file_at past.tree) (record_at past.book q) made (sym found ∙ is) in
              let check = check-intact s (last_run_of past) request q made free kept.0 rule kept.1 in
              record {
                path = q;
                check = check_by (last_run_of past) made;
                in_check = check;
                at = record { made = made; there = is; found = kept.0 };
                marked = λ v.
                    rw (none, other, check)
                    (ap (λ p. mark_checked (same_state (state_of (file_at past.tree p)) state) (v q)) (found-target past.book q made kept.0)
                    ∙ ap (λ b. mark_checked b (v q)) (sym told));
              }

-- Lists of items and rows

module _ (s : Sources) (k : Checks) (book : List Record) where
  pub items-more : (es : List BookEntry) (is : List RowItem) (e : BookEntry) (i : RowItem) → AreItems s k book es is →
      IsItem s k book e i → AreItems s k book (es ++ e ∷ []) (is ++ i ∷ [])
  items-more [] [] e i are here = (here, tt)
  items-more [] (j ∷ is) e i are here = absurd are
  items-more (f ∷ es) [] e i are here = absurd are
  items-more (f ∷ es) (j ∷ is) e i are here = (are.0, items-more es is e i are.1 here)

  pub rows-more : (rs : List Record) (rows : List Row) (r : Record) (row : Row) → AreRows s k book rs rows →
      AreItems s k book r.entries row.items.items → AreRows s k book (rs ++ r ∷ []) (rows ++ row ∷ [])
  rows-more [] [] r row are here = (here, tt)
  rows-more [] (y ∷ rows) r row are here = absurd are
  rows-more (x ∷ rs) [] r row are here = absurd are
  rows-more (x ∷ rs) (y ∷ rows) r row are here = (are.0, rows-more rs rows r row are.1 here)

  pub items-length : (es : List BookEntry) (is : List RowItem) → AreItems s k book es is → length es ≡ length is
  items-length [] [] are = refl
  items-length [] (i ∷ is) are = absurd are
  items-length (e ∷ es) [] are = absurd are
  items-length (e ∷ es) (i ∷ is) are = ap suc (items-length es is are.1)

  pub rows-long : (rs : List Record) (rows : List Row) → AreRows s k book rs rows → length rs ≡ length rows
  rows-long [] [] are = refl
  rows-long [] (row ∷ rows) are = absurd are
  rows-long (r ∷ rs) [] are = absurd are
  rows-long (r ∷ rs) (row ∷ rows) are = ap suc (rows-long rs rows are.1)

  pub rows-at : (rs : List Record) (rows : List Row) → AreRows s k book rs rows → (i : ℕ) (r : Record) →
      slice_get rs i ≡ Some r →
      (row : Row) × (slice_get rows i ≡ Some row) × AreItems s k book r.entries row.items.items
  rows-at [] rows are i r h = absurd cc
  rows-at (x ∷ rs) [] are i r h = absurd are
  rows-at (x ∷ rs) (y ∷ rows) are zero r h =
      let same : x ≡ r = cc in
      (y, refl, subst (λ (z : Record). AreItems s k book z.entries y.items.items) same are.0)
  rows-at (x ∷ rs) (y ∷ rows) are (suc i) r h = rows-at rs rows are.1 i r h
