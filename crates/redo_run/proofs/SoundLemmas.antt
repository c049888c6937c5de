-- A result agrees with that of the sources alone, where keeping is safe.
use Rattle.std.proofs.Common.{◌≡◌, ◌↔◌, ℕ, zero, suc, ◌≤◌, true, not, ◌⊎◌, inl, inr, List, []}
use Rattle.std.proofs.Common.{◌∷◌, Option, Some, None, map, length, refl, sym, ap, subst, ◌∙◌, arith, bytes_eq}
use Rattle.std.proofs.Common.{if◌then◌else◌}
use Rattle.std.specs.Arc.{arc_value}
use Rattle.std.specs.Cmp.Lexicographic.{slice_cmp}
use Rattle.std.specs.Ordering.{nat_cmp, is_eq, match_ordering}
use Rattle.std.specs.Prelude.{All, Contains, unwrap_or}
use Rattle.std.specs.declared.cmp.Ordering.{Ordering}
use Rattle.std.specs.declared.cmp.Ordering.TheVariants.{Less, Equal, Greater}
use Rattle.std.proofs.lemmas.Map.Text.{is_eq-slice_cmp}
use Rattle.std.proofs.lemmas.Slice.Eq.{bytes_eq-Decides}
use Rattle.redo_names.specs.Paths.{is_among}
use Rattle.redo_record.specs.Paths.{IsAmong}
use Rattle.redo_record.specs.declared.deps.Dep.{Dep}
use Rattle.redo_record.specs.declared.outcome.Outcome.{Outcome}
use Rattle.redo_record.specs.declared.outcome.Outcome.TheVariants.{Built, Cyclic}
use Rattle.redo_build.specs.Outcomes.{final_outcome, needed_at, outcome_at, IsTooMany}
use Rattle.redo_build.specs.Rules.{Rules}
use Rattle.redo_skip.specs.Checks.{Checks, with_book}
use Rattle.redo_skip.specs.Sources.{Sources, without_book}
use Rattle.redo_skip.specs.Truth.{IsBegun, IsSkipping}
use Rattle.redo_step.specs.Limits.{LimitsView}
use Rattle.redo_tree.specs.Tree.{IsTree, Tree, file_at, without}
use Rattle.redo_which.specs.Candidates.{book_path}
use Rattle.redo_past.specs.NewBook.{with_file}
use Rattle.redo_past.specs.Past.{IsPast, set_aside}
use Rattle.redo_past.proofs.ItemLemmas.{IsItem, contained-item, item-contained}
use Rattle.redo_past.proofs.OrderLemmas.{ascending-sorted, same-list}
use Rattle.redo_past.proofs.PastLemmas.{all-sources}
use Rattle.redo_report.specs.Reports.{AreAscending, IsReport, deps_of, row_paths}
use Rattle.redo_report.specs.declared.report.Report.{Report}
use Rattle.redo_report.specs.declared.report.Row.{Row}
use Rattle.redo_rules.specs.Build.{GivenView, checks_for, plain_rules_for, rules_for, sources_for}
use Rattle.redo_rules.specs.Results.{IsGiven, IsResult, IsResultOn, NeedsTooMany}
use Rattle.redo_rules.specs.TreeSources.{HasHonestBook, IsTrueOfTrees}
use Rattle.redo_run.proofs.OpenedLemmas.{OnePast, one_given}
use Rattle.redo_run.specs.Skipping.{Agrees, IsSoundFor, KeepsSafely, but_book, told_by_row}

-- ---- reports of one build

item-among : (ps : List (List ℕ)) (p : List ℕ) → IsItem ps p → IsAmong ps p
item-among [] p m = m
item-among (q ∷ ps) p m = elim m [ inl here ↦ inl here | inr later ↦ inr (item-among ps p later) ]

among-item : (ps : List (List ℕ)) (p : List ℕ) → IsAmong ps p → IsItem ps p
among-item [] p m = m
among-item (q ∷ ps) p m = elim m [ inl here ↦ inl here | inr later ↦ inr (among-item ps p later) ]

same-paths : (ps : List (List ℕ)) → map (λ p. p) ps ≡ ps
same-paths [] = refl
same-paths (p ∷ ps) = ap (λ qs. p ∷ qs) (same-paths ps)

-- paths in order that are the same are one list
one-list : (ps qs : List (List ℕ)) → AreAscending ps → AreAscending qs → ((p : List ℕ) → IsAmong ps p ↔ IsAmong qs p) → ps ≡ qs
one-list ps qs up also same =
    let A : List (List ℕ) → Type 0 = AreAscending in
    same-list (λ p. p) ps qs
    (ascending-sorted (map (λ p. p) ps) (subst A (sym (same-paths ps)) up))
    (ascending-sorted (map (λ p. p) qs) (subst A (sym (same-paths qs)) also))
    (λ p m. among-item qs p ((same p).0 (item-among ps p m)))
    (λ p m. among-item ps p ((same p).1 (item-among qs p m)))

-- a row of a build
abbrev pub RowOf : Rules → ℕ → Row → Type 0
RowOf r limit row = (row.outcome ≡ final_outcome r limit row.path) × (arc_value row.deps ≡ deps_of r limit row.path)

-- what a report of a build shows, but for what was begun
pub record Shows (r : Rules) (request : List (List ℕ)) (limit : ℕ) (report : Report) : Type 0 where
  pub rows : (p : List ℕ) → IsAmong (row_paths report) p ↔
      (IsAmong (needed_at r request limit) p ⊎ (IsAmong request p × (r.is_source p ≡ true)))
  pub outcomes : All (RowOf r limit) report.rows.items
  pub files : (p bytes : List ℕ) → Contains report.files.items (p, bytes) ↔
      (IsAmong (needed_at r request limit) p × (final_outcome r limit p ≡ Built (Some bytes)))
  pub rows_ordered : AreAscending (row_paths report)
  pub files_ordered : AreAscending (map (λ file. file.0) report.files.items)

-- what the build comes to at a path
abbrev told_at : Rules → ℕ → List ℕ → List ℕ × (Outcome × List Dep)
told_at r limit p = (p, (final_outcome r limit p, deps_of r limit p))

told-rows : (r : Rules) (limit : ℕ) (rows : List Row) → All (RowOf r limit) rows →
    map told_by_row rows ≡ map (told_at r limit) (map (λ row. row.path) rows)
told-rows r limit [] all = refl
told-rows r limit (row ∷ rows) all =
    let here = all 0 row (omega arith) in
    let rest = told-rows r limit rows (λ k d l. all (suc k) d (omega (arith, l))) in
    λ i. (row.path, (here.0 i, here.1 i)) ∷ rest i

module _ (r : Rules) (request : List (List ℕ)) (limit : ℕ) (one other : Report) (h : Shows r request limit one) (k : Shows r request limit other) where
  one-rows : map told_by_row one.rows.items ≡ map told_by_row other.rows.items
  one-rows =
      let paths : row_paths one ≡ row_paths other =
      one-list (row_paths one) (row_paths other) h.rows_ordered k.rows_ordered
      (λ p. (λ m. (k.rows p).1 ((h.rows p).0 m), λ m. (h.rows p).1 ((k.rows p).0 m))) in
      told-rows r limit one.rows.items h.outcomes ∙ ap (map (told_at r limit)) paths ∙ sym (told-rows r limit other.rows.items k.outcomes)

  one-files : one.files.items ≡ other.files.items
  one-files =
      same-list (λ (f : List ℕ × List ℕ). f.0) one.files.items other.files.items
      (ascending-sorted (map (λ (f : List ℕ × List ℕ). f.0) one.files.items) h.files_ordered)
      (ascending-sorted (map (λ (f : List ℕ × List ℕ). f.0) other.files.items) k.files_ordered)
      (λ f m. contained-item other.files.items f ((k.files f.0 f.1).1 ((h.files f.0 f.1).0 (item-contained one.files.items f m))))
      (λ f m. contained-item one.files.items f ((h.files f.0 f.1).1 ((k.files f.0 f.1).0 (item-contained other.files.items f m))))

-- ---- a report of a build with a book shows the build without

-- what holds of the rows whose paths are known
module _ (P Q : Row → Type 0) where
  all-known : (rows : List Row) → ((row : Row) → IsAmong (map (λ (x : Row). x.path) rows) row.path → P row → Q row) → All P rows → All Q rows
  all-known [] turn all k d below = absurd (omega (arith, below))
  all-known (row ∷ rows) turn all zero d below = turn row (inl refl) (all 0 row (omega arith))
  all-known (row ∷ rows) turn all (suc k) d below =
      all-known rows (λ x m. turn x (inr m)) (λ j e l. all (suc j) e (omega (arith, l))) k d (omega (arith, below))

source-outcome : (r t : Rules) (limit : ℕ) (p : List ℕ) → r.is_source p ≡ true → t.is_source p ≡ true → outcome_at r limit p ≡ outcome_at t limit p
source-outcome r t zero p h k = rw (h, k) refl
source-outcome r t (suc n) p h k = rw (h, k) refl

module _ (s : Sources) (k : Checks) (request : List (List ℕ)) (limit : ℕ) (skips : IsSkipping s k request limit) where
  abbrev w : Rules
  w = with_book s k

  abbrev o : Rules
  o = without_book s

  -- a path of a row comes to the same
  row-same : (p : List ℕ) → IsAmong (needed_at w request limit) p ⊎ (IsAmong request p × (s.is_source p ≡ true)) →
      (final_outcome w limit p ≡ final_outcome o limit p) × (deps_of w limit p ≡ deps_of o limit p)
  row-same p m = elim m [
    | inl needed ↦
        let plain = (skips.needed p).0 needed in (
          ap (λ (x : Option Outcome). unwrap_or x Cyclic) (skips.outcomes p plain),
          ap (λ (ds : List Dep). if s.is_source p then [] else ds) (skips.records p plain),
        )
    | inr source ↦ (
      ap (λ (x : Option Outcome). unwrap_or x Cyclic) (source-outcome w o limit p source.1 source.1),
      (let is = source.1 in rw is refl),
    )
  ]

  needed-same : (p bytes : List ℕ) → (IsAmong (needed_at w request limit) p × (final_outcome w limit p ≡ Built (Some bytes))) ↔
      (IsAmong (needed_at o request limit) p × (final_outcome o limit p ≡ Built (Some bytes)))
  needed-same p bytes = (
    λ m. ((skips.needed p).0 m.0, sym (row-same p (inl m.0)).0 ∙ m.1),
    λ m. let needed = (skips.needed p).1 m.0 in (needed, (row-same p (inl needed)).0 ∙ m.1),
  )

  pub shows-plain : (report : Report) → IsReport w request limit report → Shows o request limit report
  shows-plain report is = record {
    rows = λ p. (
      λ m. elim ((is.rows p).0 m) [ inl needed ↦ inl ((skips.needed p).0 needed) | inr source ↦ inr source ],
      λ m. (is.rows p).1 (elim m [ inl needed ↦ inl ((skips.needed p).1 needed) | inr source ↦ inr source ]),
    );
    outcomes =
        all-known (RowOf w limit) (RowOf o limit) report.rows.items
        (λ row m h. let same = row-same row.path ((is.rows row.path).0 m) in (h.0 ∙ same.0, h.1 ∙ same.1)) is.outcomes;
    files = λ p bytes. (
      λ m. (needed-same p bytes).0 ((is.files p bytes).0 m),
      λ m. (is.files p bytes).1 ((needed-same p bytes).1 m),
    );
    rows_ordered = is.rows_ordered;
    files_ordered = is.files_ordered;
  }

  pub begun-plain : (report : Report) → IsReport w request limit report → (p : List ℕ) → IsAmong report.begun.items p → IsBegun o request limit p
  begun-plain report is p m =
      let was = (is.begun p).0 m in
      skips.begun p (record { needed = was.0; ruled = was.1; begins = was.2 })

  -- where nothing is in check each such script is begun
  pub plain-begun : ((p : List ℕ) → k p ≡ None) → (report : Report) → IsReport w request limit report → (p : List ℕ) → IsBegun o request limit p → IsAmong report.begun.items p
  plain-begun none report is p m =
      let begins : w.begins p (outcome_at w limit) ≡ true = let e = none p in rw e refl in
      (is.begun p).1 ((skips.needed p).1 m.needed, m.ruled, begins)

-- ---- the files but the book

pub others-of : (files : List (List ℕ × List ℕ)) (text : List ℕ) → but_book (with_file files book_path text) ≡ but_book files
others-of [] text = refl
others-of (f ∷ files) text =
    (elim (slice_cmp nat_cmp book_path f.0) as (λ (v : Ordering). slice_cmp nat_cmp book_path f.0 ≡ v →
    but_book (match_ordering v ((book_path, text) ∷ f ∷ files) ((f.0, text) ∷ files) (f ∷ with_file files book_path text)) ≡ but_book (f ∷ files)) [
      | Less ↦ λ e. refl
      | Equal ↦ λ e.
          let same : book_path ≡ f.0 = (bytes_eq-Decides book_path f.0).0 (sym (is_eq-slice_cmp book_path f.0) ∙ ap is_eq e) in
          let is : bytes_eq f.0 book_path ≡ true = (bytes_eq-Decides f.0 book_path).1 (sym same) in
          rw is refl
      | Greater ↦ λ e. ap (λ rest. if not (bytes_eq f.0 book_path) then f ∷ rest else rest) (others-of files text)
    ]) refl

-- ---- the build of the sources alone

-- what it is given
abbrev alone : GivenView → GivenView
alone given = record {
  past = record { tree = given.past.sources; sources = given.past.sources; book = [] };
  request = given.request;
  limits = given.limits;
}

-- what the laws say
abbrev Skips : Type 0
Skips = (given : GivenView) →
    length (needed_at (plain_rules_for given) given.request given.limits.targets) ≤ given.limits.targets →
    ((p : List ℕ) → IsAmong (needed_at (plain_rules_for given) given.request given.limits.targets) p →
    outcome_at (plain_rules_for given) given.limits.targets p ≡ None → ⊥) → HasHonestBook given →
    IsSkipping (sources_for given) (checks_for given) given.request given.limits.targets

abbrev StaysTree : Type 0
StaysTree = (tree : Tree) (out : List (List ℕ)) → IsTree tree → IsTree (without tree out)

abbrev TakesOut : Type 0
TakesOut = (tree : Tree) (out : List (List ℕ)) (path : List ℕ) → IsTree tree →
    file_at (without tree out) path ≡ (if is_among out path then None else file_at tree path)

abbrev TrueAgain : Type 0
TrueAgain = (given : GivenView) (result : Report) (is : IsResult given result) → IsTree given.past.sources →
    All (IsTrueOfTrees given.limits.file_bytes) given.past.book → All (IsTrueOfTrees given.limits.file_bytes) is.with_book.book

module _ (skip : Skips) (true_again : TrueAgain) (one_past : OnePast) (stays : StaysTree) (takes : TakesOut) where
  module _ (given : GivenView) (tree : IsTree given.past.tree) (past : IsPast given.past) where
    sources-tree : IsTree given.past.sources
    sources-tree = subst IsTree (sym past.sources) (stays given.past.tree (set_aside given.past.tree given.past.book) tree)

    -- the sources are a tree of their own, without a book
    sources-past : IsPast (alone given).past
    sources-past =
        let out = set_aside given.past.tree given.past.book in
        let gone : file_at (without given.past.tree out) book_path ≡ None = takes given.past.tree out book_path tree in
        let none : file_at given.past.sources book_path ≡ None = ap (λ (t : Tree). file_at t book_path) past.sources ∙ gone in
        all-sources given.past.sources given.past.sources [] sources-tree none refl refl

    -- whatever is given the sources is that
    is-alone : (other : GivenView) → IsGiven given.past.sources given.request given.limits other → other ≡ alone given
    is-alone other is =
        let same : other.past ≡ (alone given).past = one_past other.past (alone given).past is.of_tree.is_past sources-past is.of_tree.of_tree in
        λ i. record { past = same i; request = is.requested i; limits = is.within i }

    -- two results of these builds agree
    agree-alone : KeepsSafely given → (result plain : Report) → IsResult given result → IsResult (alone given) plain → Agrees result plain
    agree-alone safe result plain is other =
        let skips = skip given safe.within safe.none_cyclic safe.honest in
        let skips-alone = skip (alone given) safe.within safe.none_cyclic (λ p r e. absurd (let h : None ≡ Some r = e in cc)) in
        let s = sources_for given in let request = given.request in let limit = given.limits.targets in
        let k = checks_for given in let none = checks_for (alone given) in
        let shown = shows-plain s k request limit skips is.report is.built in
        let shown-alone = shows-plain s none request limit skips-alone other.report other.built in
        let text = is.with_book in let text-alone = other.with_book in
        let o = plain_rules_for given in
        record {
          rows = ap (map told_by_row) text.rows ∙ one-rows o request limit is.report other.report shown shown-alone ∙ sym (ap (map told_by_row) text-alone.rows);
          files =
              ap but_book text.files ∙ others-of is.report.files.items _ ∙ ap but_book (one-files o request limit is.report other.report shown shown-alone)
              ∙ sym (others-of other.report.files.items _) ∙ sym (ap but_book text-alone.files);
          begun = λ p m.
              let B : List (List ℕ) → Type 0 = λ ps. IsAmong ps p in
              let was = begun-plain s k request limit skips is.report is.built p (subst B text.begun m) in
              subst B (sym text-alone.begun) (plain-begun s none request limit skips-alone (λ q. refl) other.report other.built p was);
        }

    sound-given : (result : Report) → IsResult given result → IsSoundFor given result
    sound-given result is = record {
      agrees = λ safe plain over.
          let P : GivenView → Type 0 = λ g. IsResult g plain in
          agree-alone safe result plain is (subst P (is-alone over.0 over.1) over.2);
      true_again = λ were again. true_again given result again sources-tree were;
    }

  module _ (tree : Tree) (request : List (List ℕ)) (limits : LimitsView) where
    pub sound-on : (result : Report) → IsTree tree → IsResultOn tree request limits result →
        (given : GivenView) → IsGiven tree request limits given → IsSoundFor given result
    sound-on result is_tree is given this =
        let P : GivenView → Type 0 = λ g. IsResult g result in
        sound-given given (subst IsTree (sym this.of_tree.of_tree) is_tree) this.of_tree.is_past result
        (subst P (one_given one_past tree request limits is.0 given is.1 this) is.2)

    pub unsafe-on : NeedsTooMany tree request limits → (given : GivenView) → IsGiven tree request limits given → KeepsSafely given → ⊥
    unsafe-on many given this safe =
        let P : GivenView → Type 0 = λ g. IsTooMany (rules_for g) g.request g.limits.targets in
        let over : IsTooMany (rules_for given) given.request given.limits.targets = subst P (one_given one_past tree request limits many.0 given many.1 this) many.2 in
        let few = (skip given safe.within safe.none_cyclic safe.honest).within in
        omega (arith, over, few)
