-- The new book has what the old one, the rows and the files that these name tell.
use Rattle.std.proofs.Common.{◌≡◌, ℕ, Bool, true, false, cond, inl, inr, Option}
use Rattle.std.proofs.Common.{List, [], ◌∷◌, refl, sym, ap, ap₂, subst, ◌∙◌}
use Rattle.std.specs.Prelude.{Contains}
use Rattle.std.specs.Arc.{arc_value}
use Rattle.std.specs.Option.{option_or}
use Rattle.std.specs.Str.{bytes_eq}
use Rattle.std.proofs.lemmas.Bool.{and_from, or_left, or_right}
use Rattle.std.proofs.lemmas.List.Elements.{All-contains}
use Rattle.std.proofs.lemmas.Slice.Eq.{bytes_eq-Decides}
use Rattle.redo_digest.specs.Digest.{state_of}
use Rattle.redo_tree.specs.Tree.{Tree, file_at}
use Rattle.redo_which.specs.Rule.{found_of, is_rule}
use Rattle.redo_record.specs.Answers.{file_in}
use Rattle.redo_record.specs.Entries.{same_kind}
use Rattle.redo_record.specs.Paths.{IsAmong}
use Rattle.redo_record.specs.declared.deps.Dep.{Dep}
use Rattle.redo_record.specs.declared.deps.DepKind.{DepKind}
use Rattle.redo_record.specs.declared.deps.DepKind.TheVariants.{Always, Change, Create}
use Rattle.redo_book.specs.Book.{Record, targets_of}
use Rattle.redo_book.specs.Noted.{entry_as, is_notable, noted}
use Rattle.redo_book.specs.declared.book.BookEntry.{BookEntry}
use Rattle.redo_report.specs.declared.report.Report.{Report}
use Rattle.redo_report.specs.declared.report.Row.{Row}
use Rattle.redo_past.specs.NewBook.{IsCarried, IsOfRow, IsResultOf, built_at, notable, record_of_row, state_after}
use Rattle.redo_past.specs.Past.{PastView}
use Rattle.redo_past.proofs.ItemLemmas.{IsItem, contained-item}
use Rattle.redo_reads.specs.Reads.{AgreeOn, AreNamedAlike, HasReads, IsCovered}
use Rattle.redo_reads.proofs.ReportLemmas.{covered_read}
use Rattle.redo_reads.proofs.RunReadLemmas.{AreRead}
use Rattle.redo_reads.proofs.SearchLemmas.{found_alike}

same_kind_itself : (k : DepKind) → same_kind k k ≡ true
same_kind_itself Change = refl
same_kind_itself Create = refl
same_kind_itself Always = refl

module _ (one two : Tree) (rows : List Row) where
  entry_same : (k : DepKind) (p : List ℕ) → (k ≡ Change → file_at two p ≡ file_at one p) →
      entry_as (state_after two rows) k p ≡ entry_as (state_after one rows) k p
  entry_same Change p same =
      ap (λ (file : Option (List ℕ)). entry_as (λ x. state_of (option_or file (built_at rows p))) Change p)
      (same refl)
  entry_same Create p same = refl
  entry_same Always p same = refl

  noted_same : (deps : List Dep) → AreRead (file_at one) (file_at two) deps →
      noted (state_after two rows) (notable deps) ≡ noted (state_after one rows) (notable deps)
  noted_same [] read = refl
  noted_same (d ∷ ds) read =
      let first : d.kind ≡ Change → file_at two d.path ≡ file_at one d.path = λ e.
      read d.path
      (or_left _ _
      (and_from (same_kind Change d.kind) (bytes_eq d.path d.path)
      (subst (λ (k : DepKind). same_kind k d.kind ≡ true) e (same_kind_itself d.kind))
      ((bytes_eq-Decides d.path d.path).1 refl))) in
      by_place (is_notable d.kind d.path)
      (entry_same d.kind d.path first) (noted_same ds (λ p h. read p (or_right _ _ h)))
    where
      by_place : (b : Bool) → entry_as (state_after two rows) d.kind d.path ≡
          entry_as (state_after one rows) d.kind d.path →
          noted (state_after two rows) (notable ds) ≡ noted (state_after one rows) (notable ds) →
          noted (state_after two rows) (cond b (d ∷ notable ds) (notable ds)) ≡
          noted (state_after one rows) (cond b (d ∷ notable ds) (notable ds))
      by_place true here rest = ap₂ (λ (e : BookEntry) (es : List BookEntry). e ∷ es) here rest
      by_place false here rest = rest

  row_same : (row : Row) → AreRead (file_at one) (file_at two) (arc_value row.deps) →
      record_of_row two rows row ≡ record_of_row one rows row
  row_same row read =
      ap (λ (entries : List BookEntry).
      record { target = row.path; state = state_of (file_in row.outcome); entries = entries })
      (noted_same (arc_value row.deps) read)

module _ (paths : List ℕ → Bool) (past now : PastView) (book_same : now.book ≡ past.book)
    (alike : AreNamedAlike past.sources now.sources) (agree : AgreeOn paths past.sources now.sources)
    (targets : (p : List ℕ) → IsAmong (targets_of past.book) p → file_at now.tree p ≡ file_at past.tree p)
    (report : Report) (covered : IsCovered paths past.sources report) where
  read_in : (row : Row) → Contains report.rows.items row →
      AreRead (file_at past.sources) (file_at now.sources) (arc_value row.deps)
  read_in row listed =
      covered_read paths past.sources now.sources alike agree (arc_value row.deps)
      (All-contains (λ (x : Row). HasReads paths past.sources (arc_value x.deps)) report.rows.items row covered
      listed)

  record_in : (row : Row) → Contains report.rows.items row →
      record_of_row now.sources report.rows.items row ≡ record_of_row past.sources report.rows.items row
  record_in row listed = row_same past.sources now.sources report.rows.items row (read_in row listed)

  target_in : (r : Record) → Contains past.book r → file_at now.tree r.target ≡ file_at past.tree r.target
  target_in r listed = targets r.target (listed_target past.book r (contained-item past.book r listed))
    where
      listed_target : (rs : List Record) (x : Record) → IsItem rs x → IsAmong (targets_of rs) x.target
      listed_target [] x m = absurd m
      listed_target (y ∷ rs) x m = elim m [
        | inl here ↦ inl (ap (λ (z : Record). z.target) here)
        | inr later ↦ inr (listed_target rs x later)
      ]

  rule_in : (p : List ℕ) → is_rule (found_of now.sources p) ≡ is_rule (found_of past.sources p)
  rule_in p = ap is_rule (found_alike past.sources now.sources alike p)

  of_row : (r : Record) → IsOfRow past.sources report.rows.items r → IsOfRow now.sources report.rows.items r
  of_row r is = record {
    row = is.row;
    listed = is.listed;
    built = is.built;
    below = is.below;
    is = is.is ∙ sym (record_in is.row is.listed);
  }

  row_of : (r : Record) → IsOfRow now.sources report.rows.items r → IsOfRow past.sources report.rows.items r
  row_of r is = record {
    row = is.row;
    listed = is.listed;
    built = is.built;
    below = is.below;
    is = is.is ∙ record_in is.row is.listed;
  }

  carried : (r : Record) → IsCarried past report.rows.items r → IsCarried now report.rows.items r
  carried r is = record {
    known = subst (λ (book : List Record). Contains book r) (sym book_same) is.known;
    rule = rule_in r.target ∙ is.rule;
    intact = ap state_of (target_in r is.known) ∙ is.intact;
    unbuilt = is.unbuilt;
  }

  carried_back : (r : Record) → IsCarried now report.rows.items r → IsCarried past report.rows.items r
  carried_back r is =
      let known : Contains past.book r = subst (λ (book : List Record). Contains book r) book_same is.known in
      record {
        known = known;
        rule = sym (rule_in r.target) ∙ is.rule;
        intact = ap state_of (sym (target_in r known)) ∙ is.intact;
        unbuilt = is.unbuilt;
      }

  pub same_result : (result : Report) → IsResultOf past report result → IsResultOf now report result
  same_result result is = record {
    rows = is.rows;
    begun = is.begun;
    book = is.book;
    new = record {
      ordered = is.new.ordered;
      records = λ r. (
        λ m. elim ((is.new.records r).0 m) [ inl row ↦ inl (of_row r row) | inr old ↦ inr (carried r old) ],
        λ e. (is.new.records r).1 (elim e [ inl row ↦ inl (row_of r row) | inr old ↦ inr (carried_back r old) ]),
      );
    };
    files = is.files;
  }
