-- A report can be made of a build whose needed targets are known in path order, where no source is requested.
use Rattle.std.proofs.Common.{◌≡◌, ℕ, ◌<◌, ◌≤◌, ◌^◌, Bool, false, ◌&&◌, inl, inr, List, [], ◌∷◌, length, Option, Some, None}
use Rattle.std.proofs.Common.{Vec, Global, map, filter, filter_map, option_map, refl, sym, ap, subst, ◌∙◌, le_refl}
use Rattle.std.proofs.lemmas.Bool.{both_ways, and_parts}
use Rattle.std.proofs.lemmas.List.Elements.{All-from_recursion}
use Rattle.std.specs.Ptr.{null_ptr}
use Rattle.std.specs.List.{AllByRecursion}
use Rattle.redo_record.specs.Answers.{file_in}
use Rattle.redo_record.specs.Paths.{IsAmong}
use Rattle.redo_record.specs.declared.outcome.Outcome.{Outcome}
use Rattle.redo_record.specs.declared.outcome.Outcome.TheVariants.{Source, Built, Failed, Cyclic}
use Rattle.redo_build.specs.Outcomes.{final_outcome, needed_at, outcome_at}
use Rattle.redo_build.specs.Rules.{Rules}
use Rattle.redo_book.specs.Book.{IsRecord, Record, book_lines, text_of}
use Rattle.redo_tree.specs.Tree.{IsTree}
use Rattle.redo_tree.proofs.WithoutLemmas.{file_at-without}
use Rattle.redo_which.specs.Candidates.{book_path}
use Rattle.redo_past.specs.NewBook.{with_file}
use Rattle.redo_past.specs.Past.{IsPast, set_aside}
use Rattle.redo_past.specs.inside.Books.{new_records}
use Rattle.redo_past.proofs.CarryLemmas.{no-rule}
use Rattle.redo_past.proofs.ItemLemmas.{contained-item, item-contained, item-kept, item-made, kept-item, made-item}
use Rattle.redo_past.proofs.NewBookLemmas.{new-book}
use Rattle.redo_report.specs.Reports.{AreAscending, IsReport, deps_of}
use Rattle.redo_report.specs.declared.report.Report.{Report}
use Rattle.redo_report.specs.declared.report.Row.{Row}
use Rattle.redo_rules.specs.Build.{GivenView, rules_for}
use Rattle.redo_rules.specs.Results.{IsResult}
use Rattle.redo_run.proofs.SoundLemmas.{RowOf}

abbrev heap : Global
heap = record { memory = record { seal = tt } }

-- a vector of these items; of its memory nothing is said
abbrev vec : {X : Type 0} → (xs : List X) → length xs < 2 ^ 63 → Vec X Global
vec xs few = record {
  ptr = null_ptr;
  len = length xs;
  cap = length xs;
  alloc = heap;
  items = xs;
  ok = (refl, le_refl (length xs));
  small = few;
}

-- a path, if it has a file, with that
abbrev with_path : List ℕ → Option (List ℕ) → Option (List ℕ × List ℕ)
with_path p file = option_map (λ bytes. let f : List ℕ × List ℕ = (p, bytes) in f) file

told-file : (x p bytes : List ℕ) (o : Outcome) → with_path x (file_in o) ≡ Some (p, bytes) →
    (x ≡ p) × (o ≡ Built (Some bytes))
told-file x p bytes Source e = absurd cc
told-file x p bytes (Built None) e = absurd cc
told-file x p bytes (Built (Some b)) e =
    let same : ◌≡◌ {A = List ℕ × List ℕ} (x, b) (p, bytes) = cc in
    (ap (λ (f : List ℕ × List ℕ). f.0) same, ap (λ (f : List ℕ × List ℕ). Built (Some f.1)) same)
told-file x p bytes (Failed why) e = absurd cc
told-file x p bytes Cyclic e = absurd cc

module _ (r : Rules) (limit : ℕ) (ps : List (List ℕ)) where
  abbrev pub row_for : List ℕ → Row
  row_for p =
      record { path = p; outcome = final_outcome r limit p; deps = record { ptr = null_ptr; value = deps_of r limit p } }

  abbrev pub file_for : List ℕ → Option (List ℕ × List ℕ)
  file_for p = with_path p (file_in (final_outcome r limit p))

  abbrev pub is_begun : List ℕ → Bool
  is_begun p = r.has_rule p && r.begins p (outcome_at r limit)

  abbrev pub rows : List Row
  rows = map row_for ps

  abbrev pub files : List (List ℕ × List ℕ)
  files = filter_map file_for ps

  abbrev pub begun : List (List ℕ)
  begun = filter is_begun ps

  row-paths : (qs : List (List ℕ)) → map (λ row. row.path) (map row_for qs) ≡ qs
  row-paths [] = refl
  row-paths (q ∷ qs) = ap (λ rest. q ∷ rest) (row-paths qs)

  each-row : (qs : List (List ℕ)) → AllByRecursion (RowOf r limit) (map row_for qs)
  each-row [] = tt
  each-row (q ∷ qs) = ((refl, refl), each-row qs)

  -- what has to be known
  pub record IsListed (request : List (List ℕ)) : Type 0 where
    pub few : length ps ≤ limit
    pub needed : needed_at r request limit ≡ ps
    pub made : (p : List ℕ) → IsAmong request p → r.is_source p ≡ false
    pub ordered : AreAscending ps
    pub files_ordered : AreAscending (map (λ file. file.0) files)
    pub begun_ordered : AreAscending begun
    pub rows_fit : length rows < 2 ^ 63
    pub files_fit : length files < 2 ^ 63
    pub begun_fit : length begun < 2 ^ 63

  module _ (request : List (List ℕ)) (is : IsListed request) where
    abbrev pub made_report : Report
    made_report = record {
      rows = vec rows is.rows_fit;
      files = vec files is.files_fit;
      begun = vec begun is.begun_fit;
    }

    into : (p : List ℕ) → IsAmong ps p → IsAmong (needed_at r request limit) p
    into p m = subst (λ (qs : List (List ℕ)). IsAmong qs p) (sym is.needed) m

    out : (p : List ℕ) → IsAmong (needed_at r request limit) p → IsAmong ps p
    out p m = subst (λ (qs : List (List ℕ)). IsAmong qs p) is.needed m

    pub is-report : IsReport r request limit made_report
    is-report = record {
      within = subst (λ (qs : List (List ℕ)). length qs ≤ limit) (sym is.needed) is.few;
      rows = λ p. (
        λ m. inl (into p (subst (λ (qs : List (List ℕ)). IsAmong qs p) (row-paths ps) m)),
        λ m. elim m [
          | inl n ↦ subst (λ (qs : List (List ℕ)). IsAmong qs p) (sym (row-paths ps)) (out p n)
          | inr source ↦ absurd (both_ways _ (is.made p source.0) source.1)
        ],
      );
      outcomes = All-from_recursion (RowOf r limit) rows (each-row ps);
      files = λ p bytes. (
        λ m.
            let from = made-item file_for ps (p, bytes) (contained-item files (p, bytes) m) in
            let told = told-file from.0 p bytes (final_outcome r limit from.0) from.2 in (
              into p (subst (λ (q : List ℕ). IsAmong ps q) told.0 from.1),
              sym (ap (λ (q : List ℕ). final_outcome r limit q) told.0) ∙ told.1,
            ),
        λ m.
            item-contained files (p, bytes)
            (item-made file_for ps p (p, bytes) (out p m.0)
            (ap (λ (o : Outcome). with_path p (file_in o)) m.1)),
      );
      begun = λ p. (
        λ m.
            let from = kept-item is_begun ps p m in
            let so = and_parts (r.has_rule p) (r.begins p (outcome_at r limit)) from.1 in
            (into p from.0, so.0, so.1),
        λ m.
            let ruled = m.1 in let begins = m.2 in
            item-kept is_begun ps p (out p m.0) (rw (ruled, begins) refl),
      );
      rows_ordered = subst AreAscending (sym (row-paths ps)) is.ordered;
      files_ordered = is.files_ordered;
      begun_ordered = is.begun_ordered;
    }

-- With the new book, of a build that is given this, by the same rules

module _ (given : GivenView) (r : Rules) (ps : List (List ℕ)) where
  abbrev limit : ℕ
  limit = given.limits.targets

  -- its records, and the text of its book
  abbrev pub records : List Record
  records = new_records given.past (rows r limit ps)

  abbrev pub all_files : List (List ℕ × List ℕ)
  all_files = with_file (files r limit ps) book_path (text_of (book_lines records))

  module _ (is : IsListed r limit ps given.request) (fit : length all_files < 2 ^ 63) where
    abbrev pub made_result : Report
    made_result = record {
      rows = vec (rows r limit ps) is.rows_fit;
      files = vec all_files fit;
      begun = vec (begun r limit ps) is.begun_fit;
    }

    pub is-result : IsTree given.past.tree → IsPast given.past → r ≡ rules_for given → AllByRecursion IsRecord records →
        IsResult given made_result
    is-result is_tree is_past same each =
        let inner : Report = made_report r limit ps given.request is in record {
          report = inner;
          built =
              subst (λ (t : Rules). IsReport t given.request limit inner) same
              (is-report r limit ps given.request is);
          with_book = record {
            rows = refl;
            begun = refl;
            book = records;
            new =
                new-book given.past (rows r limit ps) is_past (subst AreAscending (sym (row-paths r limit ps ps)) is.ordered)
                (λ p. file_at-without given.past.tree (set_aside given.past.tree given.past.book) p is_tree) no-rule each;
            files = refl;
          };
        }
