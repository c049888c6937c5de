-- Reports of one build.
use Rattle.std.proofs.Common.{◌≡◌, ◌↔◌, ℕ, suc, Bool, true, cond, inl, inr, List, [], ◌∷◌, ◌++◌}
use Rattle.std.proofs.Common.{Option, Some, None, flat_map, map, refl, sym, ap, subst, ◌∙◌, arith, bytes_eq}
use Rattle.std.proofs.Common.{if◌then◌else◌, codes}
use Rattle.std.proofs.lemmas.Bool.{both_ways, cases_Bool}
use Rattle.std.proofs.lemmas.Slice.Eq.{bytes_eq-Decides}
use Rattle.std.specs.Option.{option_or}
use Rattle.std.specs.Prelude.{All, Contains, option_and_then}
use Rattle.redo_digest.specs.Digest.{state_of}
use Rattle.redo_record.specs.Answers.{file_in}
use Rattle.redo_record.specs.Paths.{IsAmong}
use Rattle.redo_record.specs.declared.deps.Dep.{Dep}
use Rattle.redo_record.specs.declared.outcome.Outcome.{Outcome}
use Rattle.redo_book.specs.Book.{Record, book_lines, text_of}
use Rattle.redo_book.specs.Noted.{new_record}
use Rattle.redo_build.specs.Outcomes.{final_outcome, needed_at}
use Rattle.redo_build.specs.Rules.{Rules}
use Rattle.redo_tree.specs.Tree.{Tree, file_at}
use Rattle.redo_which.specs.Candidates.{book_path}
use Rattle.redo_past.specs.NewBook.{IsCarried, IsNewBook, IsOfRow, IsResultOf, built_at, is_built, notable, record_of_row}
use Rattle.redo_past.specs.NewBook.{row_at, state_after, with_file}
use Rattle.redo_past.specs.Past.{IsPast, PastView}
use Rattle.redo_past.proofs.ItemLemmas.{IsItem, contained-item, item-contained, item-mapped}
use Rattle.redo_past.proofs.OrderLemmas.{ascending-sorted, same-list}
use Rattle.redo_report.specs.Reports.{AreAscending, IsReport, deps_of, row_paths}
use Rattle.redo_report.specs.ReportText.{begun_line, dep_line, file_text, outcome_words, path_line, report_text}
use Rattle.redo_report.specs.ReportText.{row_text}
use Rattle.redo_report.specs.declared.report.Report.{Report}
use Rattle.redo_report.specs.declared.report.Row.{Row}
use Rattle.redo_rules.specs.Build.{GivenView, rules_for}
use Rattle.redo_rules.specs.Results.{IsGiven, IsResult, IsResultOn}
use Rattle.redo_step.specs.Limits.{LimitsView}
use Rattle.redo_history.specs.Answers.{AreSameReports}
use Rattle.redo_run.specs.Skipping.{told_by_row}
use Rattle.redo_run.proofs.SoundLemmas.{RowOf, Shows}

-- Lists in order

same-paths : (ps : List (List ℕ)) → map (λ p. p) ps ≡ ps
same-paths [] = refl
same-paths (p ∷ ps) = ap (λ qs. p ∷ qs) (same-paths ps)

-- paths in order that are the same are one list
one-list : (ps qs : List (List ℕ)) → AreAscending ps → AreAscending qs →
    ((p : List ℕ) → IsAmong ps p ↔ IsAmong qs p) → ps ≡ qs
one-list ps qs up also same =
    let A : List (List ℕ) → Type 0 = AreAscending in
    same-list (λ p. p) ps qs
    (ascending-sorted (map (λ p. p) ps) (subst A (sym (same-paths ps)) up))
    (ascending-sorted (map (λ p. p) qs) (subst A (sym (same-paths qs)) also))
    (λ p. (same p).0)
    (λ p. (same p).1)

-- Rows

-- what holds of each row holds of that of a path
pub row-found : (P : Row → Type 0) (rows : List Row) (q : List ℕ) → All P rows →
    IsAmong (map (λ row. row.path) rows) q →
    (row : Row) × (row_at rows q ≡ Some row) × (row.path ≡ q) × P row × Contains rows row
row-found P [] q all m = absurd m
row-found P (x ∷ xs) q all m = elim (cases_Bool (bytes_eq x.path q)) [
  | inl t ↦ (x, rw t refl, (bytes_eq-Decides x.path q).0 t, all 0 x (omega arith), (0, omega arith, refl))
  | inr f ↦ elim m [
    | inl here ↦ absurd (let bad : bytes_eq x.path q ≡ true = (bytes_eq-Decides x.path q).1 here in both_ways _ f bad)
    | inr later ↦
        let rest = row-found P xs q (λ k d l. all (suc k) d (omega (arith, l))) later in
        let at = rest.4 in
        (rest.0, rw f rest.1, rest.2, rest.3, (suc at.0, omega (arith, at.1), at.2))
  ]
]

-- the path of a row is one of those of the rows
pub row-among : (rows : List Row) (row : Row) → Contains rows row → IsAmong (map (λ row. row.path) rows) row.path
row-among rows row listed = item-mapped (λ (row : Row). row.path) rows row (contained-item rows row listed)

-- the row of a needed target
pub needed-row : (r : Rules) (request : List (List ℕ)) (limit : ℕ) (report : Report) → IsReport r request limit report →
    (q : List ℕ) → IsAmong (needed_at r request limit) q →
    (row : Row) × (row_at report.rows.items q ≡ Some row) × (row.path ≡ q) × RowOf r limit row × Contains report.rows.items row
needed-row r request limit report is q m =
    row-found (RowOf r limit) report.rows.items q is.outcomes ((is.rows q).1 (inl m))

-- it tells of the file that the target was built with
pub built-met : (r : Rules) (request : List (List ℕ)) (limit : ℕ) (report : Report) → IsReport r request limit report →
    (q : List ℕ) → IsAmong (needed_at r request limit) q →
    built_at report.rows.items q ≡ file_in (final_outcome r limit q)
built-met r request limit report is q m =
    let row = needed-row r request limit report is q m in
    let now : row.0.outcome ≡ final_outcome r limit q = row.3.0 ∙ ap (λ (p : List ℕ). final_outcome r limit p) row.2 in
    ap (λ (o : Option Row). option_and_then (λ (x : Row). file_in x.outcome) o) row.1 ∙ ap file_in now

-- Reports of the same rules

pub shows-report : (r : Rules) (request : List (List ℕ)) (limit : ℕ) (report : Report) → IsReport r request limit report →
    Shows r request limit report
shows-report r request limit report is = record {
  rows = is.rows;
  outcomes = is.outcomes;
  files = is.files;
  rows_ordered = is.rows_ordered;
  files_ordered = is.files_ordered;
}

-- what the build comes to at a path
abbrev told_at : Rules → ℕ → List ℕ → List ℕ × (Outcome × List Dep)
told_at r limit p = (p, (final_outcome r limit p, deps_of r limit p))

told-rows : (r : Rules) (limit : ℕ) (rows : List Row) → All (RowOf r limit) rows →
    map told_by_row rows ≡ map (told_at r limit) (map (λ row. row.path) rows)
told-rows r limit [] all = refl
told-rows r limit (row ∷ rows) all =
    let here = all 0 row (omega arith) in
    let rest = told-rows r limit rows (λ k d l. all (suc k) d (omega (arith, l))) in
    λ i. (row.path, (here.0 i, here.1 i)) ∷ rest i

module _ (r : Rules) (request : List (List ℕ)) (limit : ℕ) (one other : Report) where
  module _ (h : Shows r request limit one) (k : Shows r request limit other) where
    pub one-rows : map told_by_row one.rows.items ≡ map told_by_row other.rows.items
    one-rows =
        let paths : row_paths one ≡ row_paths other =
        one-list (row_paths one) (row_paths other) h.rows_ordered k.rows_ordered
        (λ p. (λ m. (k.rows p).1 ((h.rows p).0 m), λ m. (h.rows p).1 ((k.rows p).0 m))) in
        told-rows r limit one.rows.items h.outcomes ∙ ap (map (told_at r limit)) paths
        ∙ sym (told-rows r limit other.rows.items k.outcomes)

    pub one-files : one.files.items ≡ other.files.items
    one-files =
        same-list (λ (f : List ℕ × List ℕ). f.0) one.files.items other.files.items
        (ascending-sorted (map (λ (f : List ℕ × List ℕ). f.0) one.files.items) h.files_ordered)
        (ascending-sorted (map (λ (f : List ℕ × List ℕ). f.0) other.files.items) k.files_ordered)
        (λ f m. contained-item other.files.items f
        ((k.files f.0 f.1).1 ((h.files f.0 f.1).0 (item-contained one.files.items f m))))
        (λ f m. contained-item one.files.items f
        ((h.files f.0 f.1).1 ((k.files f.0 f.1).0 (item-contained other.files.items f m))))

  pub one-begun : IsReport r request limit one → IsReport r request limit other → one.begun.items ≡ other.begun.items
  one-begun h k =
      one-list one.begun.items other.begun.items h.begun_ordered k.begun_ordered
      (λ p. (λ m. (k.begun p).1 ((h.begun p).0 m), λ m. (h.begun p).1 ((k.begun p).0 m)))

-- Rows that tell the same leave the same book

-- a row of the first list has one of the second that tells the same
told-again : (rows others : List Row) → map told_by_row rows ≡ map told_by_row others → (row : Row) → IsItem rows row →
    (other : Row) × IsItem others other × (told_by_row row ≡ told_by_row other)
told-again [] others same row m = absurd m
told-again (x ∷ xs) [] same row m = absurd cc
told-again (x ∷ xs) (y ∷ ys) same row m =
    let first : told_by_row x ≡ told_by_row y = cc in
    let rest : map told_by_row xs ≡ map told_by_row ys = cc in
    elim m [
      | inl here ↦ (y, inl refl, sym (ap told_by_row here) ∙ first)
      | inr later ↦ let found = told-again xs ys rest row later in (found.0, inr found.1, found.2)
    ]

built_in : List (List ℕ × (Outcome × List Dep)) → List ℕ → Option (List ℕ)
built_in [] p = None
built_in (t ∷ ts) p = cond (bytes_eq t.0 p) (file_in t.1.0) (built_in ts p)

built-told : (rows : List Row) (p : List ℕ) → built_at rows p ≡ built_in (map told_by_row rows) p
unfolding built_in
built-told [] p = refl
built-told (x ∷ xs) p = elim (cases_Bool (bytes_eq x.path p)) [
  | inl t ↦ rw t refl
  | inr f ↦ rw f (built-told xs p)
]

states-told : (sources : Tree) (rows others : List Row) → map told_by_row rows ≡ map told_by_row others →
    state_after sources rows ≡ state_after sources others
states-told sources rows others same =
    let at : (p : List ℕ) → built_at rows p ≡ built_at others p =
    λ p. built-told rows p ∙ ap (λ ts. built_in ts p) same ∙ sym (built-told others p) in
    λ i p. state_of (option_or (file_at sources p) (at p i))

module _ (past : PastView) (rows others : List Row) (same : map told_by_row rows ≡ map told_by_row others) where
  record-told : (row other : Row) → told_by_row row ≡ told_by_row other →
      record_of_row past.sources rows row ≡ record_of_row past.sources others other
  record-told row other told =
      let states : state_after past.sources rows ≡ state_after past.sources others =
      states-told past.sources rows others same in
      λ i. new_record (states i) (told i).0 (file_in (told i).1.0) (notable (told i).1.1)

  of-row-told : (r : Record) → IsOfRow past.sources rows r → IsOfRow past.sources others r
  of-row-told r is =
      let found = told-again rows others same is.row (contained-item rows is.row is.listed) in
      let told = found.2 in
      record {
        row = found.0;
        listed = item-contained others found.0 found.1;
        built = sym (ap (λ t. is_built t.1.0) told) ∙ is.built;
        below = λ top. is.below (ap (λ t. t.0) told ∙ top);
        is = is.is ∙ record-told is.row found.0 told;
      }

carried-told : (past : PastView) (rows others : List Row) → map told_by_row rows ≡ map told_by_row others → (r : Record) →
    IsCarried past rows r → IsCarried past others r
carried-told past rows others same r is = record {
  known = is.known;
  rule = is.rule;
  intact = is.intact;
  unbuilt = λ row listed at.
      let found = told-again others rows (sym same) row (contained-item others row listed) in
      ap (λ t. is_built t.1.0) found.2
      ∙ is.unbuilt found.0 (item-contained rows found.0 found.1) (sym (ap (λ t. t.0) found.2) ∙ at);
}

pub book-told : (past : PastView) (rows others : List Row) → map told_by_row rows ≡ map told_by_row others →
    (book : List Record) → IsNewBook past rows book → IsNewBook past others book
book-told past rows others same book is = record {
  ordered = is.ordered;
  records = λ r. (
    λ m. elim ((is.records r).0 m) [
      | inl built ↦ inl (of-row-told past rows others same r built)
      | inr old ↦ inr (carried-told past rows others same r old)
    ],
    λ m. (is.records r).1 (elim m [
      | inl built ↦ inl (of-row-told past others rows (sym same) r built)
      | inr old ↦ inr (carried-told past others rows (sym same) r old)
    ]),
  );
}

-- what the law of new books says
abbrev pub OneNewBook : Type 0
OneNewBook = (past : PastView) (rows : List Row) (book other : List Record) → IsNewBook past rows book →
    IsNewBook past rows other → book ≡ other

pub one-result : OneNewBook → (past : PastView) (r : Rules) (request : List (List ℕ)) (limit : ℕ)
    (one other inner also : Report) → IsReport r request limit inner → IsReport r request limit also →
    IsResultOf past inner one → IsResultOf past also other → AreSameReports one other
one-result law past r request limit one other inner also is was h k =
    let shows = shows-report r request limit inner is in let shown = shows-report r request limit also was in
    let rows : map told_by_row inner.rows.items ≡ map told_by_row also.rows.items =
    one-rows r request limit inner also shows shown in
    let files : inner.files.items ≡ also.files.items = one-files r request limit inner also shows shown in
    let book : h.book ≡ k.book =
    law past also.rows.items h.book k.book (book-told past inner.rows.items also.rows.items rows h.book h.new) k.new in
    record {
      rows = ap (map told_by_row) h.rows ∙ rows ∙ sym (ap (map told_by_row) k.rows);
      files = h.files ∙ (λ i. with_file (files i) book_path (text_of (book_lines (book i)))) ∙ sym k.files;
      begun = h.begun ∙ one-begun r request limit inner also is was ∙ sym k.begun;
    }

-- what the law of pasts says
abbrev pub OnePast : Type 0
OnePast = (past other : PastView) → IsPast past → IsPast other → past.tree ≡ other.tree → past ≡ other

pub one-given : OnePast → (tree : Tree) (request : List (List ℕ)) (limits : LimitsView) (given other : GivenView) →
    IsGiven tree request limits given → IsGiven tree request limits other → given ≡ other
one-given one_past tree request limits given other is also =
    let past : given.past ≡ other.past =
    one_past given.past other.past is.of_tree.is_past also.of_tree.is_past (is.of_tree.of_tree ∙ sym also.of_tree.of_tree) in
    let asked = is.requested ∙ sym also.requested in let bound = is.within ∙ sym also.within in
    λ i. record { past = past i; request = asked i; limits = bound i }

pub one-report : OneNewBook → OnePast → (tree : Tree) (request : List (List ℕ)) (limits : LimitsView)
    (one other : Report) → IsResultOn tree request limits one → IsResultOn tree request limits other → AreSameReports one other
one-report one_book one_past tree request limits one other is also =
    let same : also.0 ≡ is.0 = one-given one_past tree request limits also.0 is.0 also.1 is.1 in
    let result : IsResult is.0 other = subst (λ (g : GivenView). IsResult g other) same also.2 in
    one-result one_book is.0.past (rules_for is.0) is.0.request is.0.limits.targets one other is.2.report result.report
    is.2.built result.built is.2.with_book result.with_book

-- The same report has the same text

abbrev told_text : List ℕ × (Outcome × List Dep) → List ℕ
told_text t = outcome_words t.1.0 ++ 32 ∷ path_line t.0 ++ flat_map dep_line t.1.1

rows-text : (rows : List Row) → flat_map row_text rows ≡ flat_map told_text (map told_by_row rows)
rows-text [] = refl
rows-text (row ∷ rows) = ap (λ rest. row_text row ++ rest) (rows-text rows)

pub same-text : (one other : Report) → AreSameReports one other → (with_files : Bool) →
    report_text one with_files ≡ report_text other with_files
same-text one other same with_files =
    let rows : flat_map row_text one.rows.items ≡ flat_map row_text other.rows.items =
    rows-text one.rows.items ∙ ap (flat_map told_text) same.rows ∙ sym (rows-text other.rows.items) in
    let begun = same.begun in let files = same.files in
    λ i. (rows i ++ flat_map begun_line (begun i))
    ++ (if with_files then flat_map file_text (files i) else []) ++ codes "end\n"
