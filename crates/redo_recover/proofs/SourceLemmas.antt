-- After a run that was broken off: which files are sources.
use Rattle.std.proofs.Common.{◌≡◌, ◌≢◌, ℕ, zero, suc, true, false, cond, ◌⊎◌, inl, inr, List}
use Rattle.std.proofs.Common.{Option, Some, None, filter, is_some, refl, sym, ap, subst, ◌∙◌}
use Rattle.std.proofs.lemmas.Bool.{cases_Bool}
use Rattle.std.proofs.lemmas.List.Elements.{All-contains}
use Rattle.std.proofs.lemmas.Slice.Eq.{bytes_eq-Decides}
use Rattle.std.specs.Arc.{arc_value}
use Rattle.std.specs.Option.{option_eq}
use Rattle.std.specs.Prelude.{Contains, option_and_then, unwrap_or}
use Rattle.std.specs.Str.{bytes_eq}
use Rattle.redo_path.proofs.ApartLemmas.{apart}
use Rattle.redo_names.specs.Paths.{is_among}
use Rattle.redo_names.proofs.PathLemmas.{among-told, told-among}
use Rattle.redo_digest.specs.Digest.{State, state_of}
use Rattle.redo_tree.specs.Tree.{IsTree, Tree, bytes_of, file_at, node_at}
use Rattle.redo_tree.proofs.WithoutLemmas.{file_at-without}
use Rattle.redo_which.specs.Candidates.{book_path}
use Rattle.redo_record.specs.Answers.{file_in}
use Rattle.redo_record.specs.declared.outcome.Outcome.TheVariants as outcomes
use Rattle.redo_book.specs.Book.{IsText, Record, book_lines, record_at, text_of}
use Rattle.redo_build.specs.Outcomes.{final_outcome, outcome_at}
use Rattle.redo_build.specs.Rules.{Rules}
use Rattle.redo_report.specs.Reports.{deps_of}
use Rattle.redo_report.specs.declared.report.Report.{Report}
use Rattle.redo_report.specs.declared.report.Row.{Row}
use Rattle.redo_past.specs.NewBook.{IsOfRow, is_built, record_of_row}
use Rattle.redo_past.specs.Past.{IsPast, PastView, has_digest, is_generated, set_aside}
use Rattle.redo_past.proofs.CarryLemmas.{found-item, rule-absent}
use Rattle.redo_past.proofs.ItemLemmas.{IsItem, contained-item, item-contained, item-kept, item-mapped, kept-item, mapped-item}
use Rattle.redo_past.proofs.OrderLemmas.{same_path}
use Rattle.redo_past.proofs.PastLemmas.{past_book}
use Rattle.redo_rules.specs.Build.{GivenView, rules_for}
use Rattle.redo_rules.specs.Results.{IsResult}
use Rattle.redo_dir.specs.Own.{is_own}
use Rattle.redo_mend.specs.Recovered.{said_at}
use Rattle.redo_mend.proofs.SaidLemmas.{found-here, is_as_said, key, recovered-is, recovered-some, said-found, said-is, said-same, same-said}
use Rattle.redo_recover.specs.Broken.{GoesOn, IsStart, MayStore, journal_of}
use Rattle.redo_recover.proofs.StepLemmas.{none-cond}

-- ---- generated files, and what is set aside

pub made-said : (file : Option (List ℕ)) (state : State) → has_digest file state ≡ true → option_eq bytes_eq (state_of file) state ≡ true
made-said None state h = apart cc
made-said (Some bytes) None h = apart cc
made-said (Some bytes) (Some digest) h = h

pub said-made : (file : Option (List ℕ)) (state : State) (bytes : List ℕ) → file ≡ Some bytes → option_eq bytes_eq (state_of file) state ≡ true → has_digest file state ≡ true
said-made None state bytes e h = apart cc
said-made (Some b) None bytes e h = apart cc
said-made (Some b) (Some digest) bytes e h = h

module _ (tree : Tree) (book : List Record) where
  pub in-aside : (r : Record) → IsItem book r → is_generated tree r ≡ true → is_among (set_aside tree book) r.target ≡ true
  in-aside r m g = told-among (set_aside tree book) r.target (inr (item-mapped key (filter (is_generated tree) book) r (item-kept (is_generated tree) book r m g)))

  pub book-aside : is_among (set_aside tree book) book_path ≡ true
  book-aside = told-among (set_aside tree book) book_path (inl refl)

  pub out-aside : (p : List ℕ) → p ≢ book_path → is_among (set_aside tree book) p ≡ true → (r : Record) × IsItem book r × (r.target ≡ p) × (is_generated tree r ≡ true)
  out-aside p n h = elim (among-told (set_aside tree book) p h) [
    | inl here ↦ absurd (n (sym here))
    | inr made ↦
        let of = mapped-item key (filter (is_generated tree) book) p made in
        let kept = kept-item (is_generated tree) book of.0 of.1 in
        (of.0, kept.0, of.2, kept.1)
  ]

-- which files the sources have
pub source-at : (past : PastView) → IsTree past.tree → IsPast past → (p : List ℕ) → file_at past.sources p ≡ cond (is_among (set_aside past.tree past.book) p) None (file_at past.tree p)
source-at past tree is p = ap (λ t. file_at t p) is.sources ∙ file_at-without past.tree (set_aside past.tree past.book) p tree

-- ---- the run that was broken off

source-outcome : (r : Rules) (limit : ℕ) (p : List ℕ) → r.is_source p ≡ true → outcome_at r limit p ≡ Some outcomes.Source
source-outcome r zero p h = rw h refl
source-outcome r (suc n) p h = rw h refl

module _ (given : GivenView) (result : Report) (is : IsResult given result) (start : IsStart given.past) where
  abbrev S : Tree
  S = given.past.sources

  abbrev rows : List Row
  rows = is.report.rows.items

  abbrev journal : List Record
  journal = is.with_book.book

  abbrev own_text : List ℕ
  own_text = journal_of given result is

  source-final : (p b : List ℕ) → file_at S p ≡ Some b → final_outcome (rules_for given) given.limits.targets p ≡ outcomes.Source
  source-final p b e = ap (λ o. unwrap_or o outcomes.Cyclic) (source-outcome (rules_for given) given.limits.targets p (ap is_some e))

  -- the new book has no record of a source
  pub unrecorded : (p b : List ℕ) → file_at S p ≡ Some b → (r : Record) → IsItem journal r → r.target ≡ p → ⊥
  unrecorded p b e r m at = elim ((is.with_book.new.records r).0 (item-contained journal r m)) [
    | inl of ↦
        let path : of.row.path ≡ p = sym (ap key of.is) ∙ at in
        let told = All-contains (λ (row : Row). (row.outcome ≡ final_outcome (rules_for given) given.limits.targets row.path) × (arc_value row.deps ≡ deps_of (rules_for given) given.limits.targets row.path)) rows of.row is.built.outcomes of.listed in
        let source : of.row.outcome ≡ outcomes.Source = told.0 ∙ ap (final_outcome (rules_for given) given.limits.targets) path ∙ source-final p b e in
        let bad : true ≡ false = sym of.built ∙ ap is_built source in
        apart cc
    | inr carried ↦
        let none : file_at S r.target ≡ None = ap (option_and_then bytes_of) (rule-absent S r.target carried.rule) in
        let bad : Some b ≡ None = sym e ∙ ap (file_at S) (sym at) ∙ none in
        apart cc
  ]

  -- and one of each file that was built
  pub recorded : (p bytes : List ℕ) → MayStore given result is p bytes → (r : Record) × IsItem journal r × (r.target ≡ p) × (r.state ≡ state_of (Some bytes))
  recorded p bytes may =
      let built = (is.built.files p bytes).0 may.built in
      let row = mapped-item (λ (x : Row). x.path) rows p ((is.built.rows p).1 (inl built.0)) in
      let told = All-contains (λ (x : Row). (x.outcome ≡ final_outcome (rules_for given) given.limits.targets x.path) × (arc_value x.deps ≡ deps_of (rules_for given) given.limits.targets x.path)) rows row.0 is.built.outcomes (item-contained rows row.0 row.1) in
      let outcome : row.0.outcome ≡ outcomes.Built (Some bytes) = told.0 ∙ ap (final_outcome (rules_for given) given.limits.targets) row.2 ∙ built.1 in
      let r = record_of_row S rows row.0 in
      let of : IsOfRow S rows r = record {
        row = row.0;
        listed = item-contained rows row.0 row.1;
        built = ap is_built outcome;
        below = λ top. may.no_directory (ap (node_at given.past.tree) (sym row.2 ∙ top) ∙ start.is_tree.root);
        is = refl;
      } in
      (r, contained-item journal r ((is.with_book.new.records r).1 (inl of)), row.2, ap (λ o. state_of (file_in o)) outcome)

  -- what was built was no source
  pub unsourced : (p bytes : List ℕ) → MayStore given result is p bytes → file_at S p ≡ None
  unsourced p bytes may =
      (elim (file_at S p) as (λ o. file_at S p ≡ o → o ≡ None) [
        | None ↦ λ e. refl
        | Some b ↦ λ e. let r = recorded p bytes may in absurd (unrecorded p b e r.0 r.1 r.2)
      ]) refl

  -- ---- the run that goes on

  module _ (law : (text : List ℕ) (book other : List Record) → IsText text book → IsText text other → book ≡ other) (now : Tree) (past : PastView) (on : GoesOn given result is now past) where
    abbrev M : Tree
    M = past.tree

    -- it goes on with the recovered book
    pub same-book : past.book ≡ on.book
    same-book =
        let e = on.mended.has_book in
        let text : IsText (text_of (book_lines on.book)) past.book = rw e at on.is_past.book in
        law (text_of (book_lines on.book)) past.book on.book text (record { ordered = on.recovered.ordered; whole = refl })

    pub same-file : (p : List ℕ) → p ≢ book_path → is_own own_text p ≡ false → file_at M p ≡ file_at now p
    same-file p n m = ap (option_and_then bytes_of) (on.mended.others p n m)

    aside-of : (p : List ℕ) → file_at past.sources p ≡ cond (is_among (set_aside M past.book) p) None (file_at M p)
    aside-of p = source-at past on.mended.is_tree on.is_past p

    same-made : (r : Record) (p b : List ℕ) → r.target ≡ p → p ≢ book_path → is_own own_text p ≡ false → file_at now p ≡ Some b → is_as_said now r ≡ true → is_generated M r ≡ true
    same-made r p b at n m file h =
        let same : file_at M r.target ≡ file_at now r.target = ap (file_at M) at ∙ same-file p n m ∙ ap (file_at now) (sym at) in
        let some : file_at M r.target ≡ Some b = ap (file_at M) at ∙ same-file p n m ∙ file in
        said-made (file_at M r.target) r.state b some (subst (λ o. option_eq bytes_eq (state_of o) r.state ≡ true) (sym same) h)

    -- a file that either book tells of is no source
    pub told-of : (p b : List ℕ) → p ≢ book_path → is_own own_text p ≡ false → file_at now p ≡ Some b → (r : Record) → (said_at now journal p ≡ Some r) ⊎ (said_at now given.past.book p ≡ Some r) → file_at past.sources p ≡ None
    told-of p b n m file r said =
        let some = recovered-some now journal given.past.book p r said in
        let at : record_at on.book p ≡ Some some.0 = on.recovered.records p ∙ some.1 in
        let found = found-item key on.book p some.0 at in
        let as_said : is_as_said now some.0 ≡ true =
        elim (recovered-is now journal given.past.book p some.0 some.1) [ inl j ↦ (said-is now journal p some.0 j).as_said | inr o ↦ (said-is now given.past.book p some.0 o).as_said ] in
        let made = same-made some.0 p b found.1 n m file as_said in
        let among : is_among (set_aside M past.book) p ≡ true =
        ap (is_among (set_aside M past.book)) (sym found.1) ∙ in-aside M past.book some.0 (subst (λ bk. IsItem bk some.0) (sym same-book) found.0) made in
        aside-of p ∙ ap (λ c. cond c None (file_at M p)) among

    -- and one that neither tells of is one
    pub untold-of : (p b : List ℕ) → p ≢ book_path → is_own own_text p ≡ false → file_at now p ≡ Some b → ((r : Record) → said_at now journal p ≡ Some r → ⊥) → ((r : Record) → said_at now given.past.book p ≡ Some r → ⊥) → file_at past.sources p ≡ Some b
    untold-of p b n m file no_journal no_book = elim (cases_Bool (is_among (set_aside M past.book) p)) [
      | inl among ↦
          let out = out-aside M past.book p n among in
          let at : record_at on.book p ≡ Some out.0 = found-here on.book p out.0 on.recovered.ordered.sorted (subst (λ bk. IsItem bk out.0) same-book out.1) out.2 in
          absurd (elim (recovered-is now journal given.past.book p out.0 (sym (on.recovered.records p) ∙ at)) [
            | inl j ↦ no_journal out.0 j
            | inr o ↦ no_book out.0 o
          ])
      | inr other ↦ aside-of p ∙ ap (λ c. cond c None (file_at M p)) other ∙ same-file p n m ∙ file
    ]

    pub at-book : file_at past.sources book_path ≡ None
    at-book = aside-of book_path ∙ ap (λ c. cond c None (file_at M book_path)) (book-aside M past.book)

    pub at-own : (p : List ℕ) → p ≢ book_path → is_own own_text p ≡ true → file_at past.sources p ≡ None
    at-own p n own =
        let none : file_at M p ≡ None = on.mended.own p n own in
        aside-of p ∙ ap (cond (is_among (set_aside M past.book) p) None) none ∙ none-cond (is_among (set_aside M past.book) p)

    -- a file that stands as the run built it is no source
    pub stored : (p bytes : List ℕ) → MayStore given result is p bytes → file_at now p ≡ Some bytes → file_at past.sources p ≡ None
    stored p bytes may file = elim (cases_Bool (bytes_eq p book_path)) [
      | inl book ↦ ap (file_at past.sources) (same_path p book_path book) ∙ at-book
      | inr no_book ↦
          let n : p ≢ book_path = λ e. (let bad : true ≡ false = sym ((bytes_eq-Decides p book_path).1 e) ∙ no_book in apart cc) in
          elim (cases_Bool (is_own own_text p)) [
            | inl own ↦ at-own p n own
            | inr m ↦
                let r = recorded p bytes may in
                let as_said : is_as_said now r.0 ≡ true = same-said now r.0 (ap (λ q. state_of (file_at now q)) r.2 ∙ ap state_of file ∙ sym r.3) in
                told-of p bytes n m file r.0 (inl (said-found now journal p r.0 is.with_book.new.ordered.sorted (record { item = r.1; at = r.2; as_said = as_said })))
          ]
    ]

    -- a path that has what it had is a source if it was one
    pub left : (p : List ℕ) → p ≢ book_path → is_own own_text p ≡ false → file_at now p ≡ file_at given.past.tree p → file_at past.sources p ≡ file_at S p
    left p n m same =
        (elim (file_at given.past.tree p) as (λ o. file_at given.past.tree p ≡ o → file_at past.sources p ≡ file_at S p) [
          | None ↦ λ none.
              let here : file_at past.sources p ≡ None = aside-of p ∙ ap (cond (is_among (set_aside M past.book) p) None) (same-file p n m ∙ same ∙ none) ∙ none-cond (is_among (set_aside M past.book) p) in
              let there : file_at S p ≡ None = source-at given.past start.is_tree start.is_past p ∙ ap (cond (is_among (set_aside given.past.tree given.past.book) p) None) none ∙ none-cond (is_among (set_aside given.past.tree given.past.book) p) in
              here ∙ sym there
          | Some b ↦ λ some. elim (cases_Bool (is_among (set_aside given.past.tree given.past.book) p)) [
            | inl among ↦
                let out = out-aside given.past.tree given.past.book p n among in
                let r = out.0 in
                let as_said : is_as_said now r ≡ true =
                subst (λ o. option_eq bytes_eq (state_of o) r.state ≡ true) (ap (file_at given.past.tree) out.2 ∙ sym same ∙ ap (file_at now) (sym out.2))
                (made-said (file_at given.past.tree r.target) r.state out.3) in
                let here = told-of p b n m (same ∙ some) r (inr (said-found now given.past.book p r (past_book given.past start.is_past).sorted (record { item = out.1; at = out.2; as_said = as_said }))) in
                let there : file_at S p ≡ None = source-at given.past start.is_tree start.is_past p ∙ ap (λ c. cond c None (file_at given.past.tree p)) among in
                here ∙ sym there
            | inr other ↦
                let there : file_at S p ≡ Some b = source-at given.past start.is_tree start.is_past p ∙ ap (λ c. cond c None (file_at given.past.tree p)) other ∙ some in
                let here = untold-of p b n m (same ∙ some)
                (λ r e. let said = said-is now journal p r e in unrecorded p b there r said.item said.at)
                (λ r e.
                let said = said-is now given.past.book p r e in
                let file : file_at given.past.tree r.target ≡ file_at now r.target = ap (file_at given.past.tree) said.at ∙ sym same ∙ ap (file_at now) (sym said.at) in
                let made : is_generated given.past.tree r ≡ true =
                said-made (file_at given.past.tree r.target) r.state b (ap (file_at given.past.tree) said.at ∙ some)
                (subst (λ o. option_eq bytes_eq (state_of o) r.state ≡ true) (sym file) said.as_said) in
                let bad : true ≡ false = sym (ap (is_among (set_aside given.past.tree given.past.book)) (sym said.at) ∙ in-aside given.past.tree given.past.book r said.item made) ∙ other in
                apart cc) in
                here ∙ sym there
          ]
        ]) refl

    -- a file that no record of the two books tells of is a source
    pub edited : (p bytes : List ℕ) → p ≢ book_path → is_own own_text p ≡ false → file_at now p ≡ Some bytes → ((r : Record) → Contains journal r ⊎ Contains given.past.book r → r.target ≡ p → state_of (Some bytes) ≢ r.state) → file_at past.sources p ≡ Some bytes
    edited p bytes n m file differs =
        let state : (r : Record) → r.target ≡ p → is_as_said now r ≡ true → state_of (Some bytes) ≡ r.state =
        λ r at h. ap state_of (sym file) ∙ ap (λ q. state_of (file_at now q)) (sym at) ∙ said-same now r h in
        untold-of p bytes n m file
        (λ r e. let said = said-is now journal p r e in differs r (inl (item-contained journal r said.item)) said.at (state r said.at said.as_said))
        (λ r e. let said = said-is now given.past.book p r e in differs r (inr (item-contained given.past.book r said.item)) said.at (state r said.at said.as_said))
