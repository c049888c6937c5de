-- Two trees with the same names that agree on their book, on its targets, and on what a report and the records of its
-- targets name have that report.
use Rattle.std.proofs.Common.{Bool, true, ◌≡◌, ℕ, inl, inr, Option, Some}
use Rattle.std.proofs.Common.{List, [], ◌∷◌, All, flat_map, map, refl, sym, subst, subst₂, ◌∙◌}
use Rattle.std.specs.Arc.{arc_value}
use Rattle.std.proofs.lemmas.List.Elements.{All-head, All-tail}
use Rattle.redo_tree.specs.Tree.{IsTree, Tree, file_at, without}
use Rattle.redo_which.specs.Candidates.{book_path}
use Rattle.redo_record.specs.Paths.{IsAmong}
use Rattle.redo_book.specs.Book.{Record, record_at, targets_of}
use Rattle.redo_report.specs.Reports.{row_paths}
use Rattle.redo_report.specs.declared.report.Report.{Report}
use Rattle.redo_report.specs.declared.report.Row.{Row}
use Rattle.redo_past.specs.Past.{IsBookOf, IsPast, PastView, set_aside}
use Rattle.redo_rules.specs.Build.{GivenView}
use Rattle.redo_rules.specs.Results.{IsGiven, IsRefused, IsResult, IsResultOn}
use Rattle.redo_step.specs.Limits.{LimitsView}
use Rattle.redo_reads.specs.Reads.{AgreeOn, AreNamedAlike, ArePastsAlike, Covers, HasChecked, HasReads, IsCovered, changed_in}
use Rattle.redo_reads.proofs.PastLemmas.{covered_same, file_left, sources_alike}
use Rattle.redo_reads.proofs.TargetLemmas.{RunsBegin}
use Rattle.redo_reads.proofs.BookLemmas.{booked_report}
use Rattle.redo_reads.proofs.NewBookLemmas.{same_result}

module _ (runs_begin : RunsBegin) (two : Tree) (given : GivenView) (paths : List ℕ → Bool) (result : Report)
    (is_past : IsPast given.past) (is_one : IsTree given.past.tree) (is_two : IsTree two)
    (alike : AreNamedAlike given.past.tree two) (agree : AgreeOn paths given.past.tree two)
    (has : HasChecked paths given.past.tree given.past.book result) (is : IsResult given result)
    (covered : IsCovered paths given.past.sources result) where
  abbrev one : Tree
  one = given.past.tree

  abbrev book : List Record
  book = given.past.book

  -- the other tree's past
  abbrev now : PastView
  now = record { tree = two; sources = without two (set_aside two book); book = book }

  same : (p : List ℕ) → IsAmong (book_path ∷ targets_of book) p → file_at two p ≡ file_at one p
  same = covered_same paths one two (book_path ∷ targets_of book) alike agree has.targets

  now_past : IsPast now
  now_past = record {
    book = subst (λ (file : Option (List ℕ)). IsBookOf file book) (sym (same book_path (inl refl))) is_past.book;
    sources = refl;
  }

  are : ArePastsAlike given.past now
  are = record {
    is_tree = is_one;
    is_past = is_past;
    other_tree = is_two;
    other_past = now_past;
    named = alike;
    book = refl;
    targets = λ p m. same p (inr m);
  }

  left : (p : List ℕ) → file_at two p ≡ file_at one p → file_at now.sources p ≡ file_at given.past.sources p
  left = file_left given.past now are

  sources_agree : AgreeOn paths given.past.sources now.sources
  sources_agree p m = left p (agree p m)

  rows_covered : IsCovered paths given.past.sources is.report
  rows_covered =
      subst (λ (rows : List Row). All (λ row. HasReads paths given.past.sources (arc_value row.deps)) rows)
      is.with_book.rows covered

  -- what the record of a row's target names is the same
  abbrev IsChecked : List ℕ → Type 0
  IsChecked p = (x : Record) → record_at book p ≡ Some x → Covers paths one (flat_map changed_in x.entries)

  rows_checked : All (λ row. IsChecked row.path) is.report.rows.items
  rows_checked = subst (λ (rows : List Row). All (λ row. IsChecked row.path) rows) is.with_book.rows has.rows

  row_checked : (rows : List Row) → All (λ row. IsChecked row.path) rows → (p : List ℕ) →
      IsAmong (map (λ row. row.path) rows) p → IsChecked p
  row_checked [] all p m = absurd m
  row_checked (row ∷ rows) all p m = elim m [
    | inl here ↦ subst IsChecked here (All-head (λ (x : Row). IsChecked x.path) row rows all)
    | inr later ↦ row_checked rows (All-tail (λ (x : Row). IsChecked x.path) row rows all) p later
  ]

  checked : (p : List ℕ) → IsAmong (row_paths is.report) p → (x : Record) → record_at book p ≡ Some x → (q : List ℕ) →
      IsAmong (flat_map changed_in x.entries) q → file_at now.sources q ≡ file_at given.past.sources q
  checked p m x e q among =
      left q
      (covered_same paths one two (flat_map changed_in x.entries) alike agree
      (row_checked is.report.rows.items rows_checked p m x e) q among)

  pub booked_result : IsResultOn two given.request given.limits result
  booked_result = (
    record { past = now; request = given.request; limits = given.limits },
    record {
      of_tree = record { is_past = now_past; of_tree = refl };
      requested = refl;
      within = refl;
    },
    record {
      report = is.report;
      built =
          booked_report runs_begin given now paths is.report refl (sources_alike given.past now are) sources_agree
          (λ p m. same p (inr m)) checked is.built rows_covered;
      with_book =
          same_result paths given.past now refl (sources_alike given.past now are) sources_agree
          (λ p m. same p (inr m)) is.report rows_covered result is.with_book;
    },
  )

-- the same, of a tree that the build is given
pub given_result : RunsBegin → (tree other : Tree) (request : List (List ℕ)) (limits : LimitsView) (given : GivenView)
    (paths : List ℕ → Bool) (result : Report) → IsTree tree → IsTree other → IsGiven tree request limits given →
    AreNamedAlike tree other → AgreeOn paths tree other → HasChecked paths tree given.past.book result →
    IsResult given result → IsCovered paths given.past.sources result → IsResultOn other request limits result
given_result runs_begin tree other request limits given paths result is_tree is_other of alike agree has is covered =
    let back : tree ≡ given.past.tree = sym of.of_tree.of_tree in
    let there : IsResultOn other given.request given.limits result =
    booked_result runs_begin other given paths result of.of_tree.is_past (subst IsTree back is_tree) is_other
    (subst (λ (x : Tree). AreNamedAlike x other) back alike) (subst (λ (x : Tree). AgreeOn paths x other) back agree)
    (subst (λ (x : Tree). HasChecked paths x given.past.book result) back has) is covered in
    subst₂ (λ (asked : List (List ℕ)) (within : LimitsView). IsResultOn other asked within result) of.requested
    of.within
    there

-- a book that is refused
pub same_refusal : (tree other : Tree) (paths : List ℕ → Bool) (n : ℕ) → AgreeOn paths tree other →
    paths book_path ≡ true →
    IsRefused tree n → IsRefused other n
same_refusal tree other paths n agree m refused = (refused.0, agree book_path m ∙ refused.1, refused.2)
