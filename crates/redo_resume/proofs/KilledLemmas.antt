-- The steps of a run are those of the laws on broken-off runs, and the files that it stores are what these are to store.
use Rattle.std.proofs.Common.{◌≡◌, ◌≢◌, ◌⊎◌, ℕ, Bool, true, false, not, inl, inr, List, [], ◌∷◌, ◌++◌, Option, Some, None}
use Rattle.std.proofs.Common.{is_some, refl, sym, ap, subst, ◌∙◌, append-nil, bytes_eq}
use Rattle.std.specs.Prelude.{All, find, option_map}
use Rattle.std.specs.Cmp.Lexicographic.{nat_list_eq_equiv, slice_cmp}
use Rattle.std.specs.Ordering.{nat_cmp, is_eq, match_ordering}
use Rattle.std.specs.declared.cmp.Ordering.{Ordering}
use Rattle.std.specs.declared.cmp.Ordering.TheVariants.{Less, Equal, Greater}
use Rattle.std.proofs.lemmas.Bool.{cases_Bool, false_from_ne_true}
use Rattle.std.proofs.lemmas.List.Elements.{All-contains, All-from_recursion}
use Rattle.std.proofs.lemmas.Map.Text.{is_eq-slice_cmp}
use Rattle.std.proofs.lemmas.Slice.Eq.{bytes_eq-Decides}
use Rattle.redo_tree.specs.Tree.{Directory, IsTree, Tree, file_at, node_at}
use Rattle.redo_which.specs.Candidates.{book_path, journal_path}
use Rattle.redo_past.specs.NewBook.{with_file}
use Rattle.redo_past.proofs.ItemLemmas.{IsItem, all-items, item-contained, item-kept, kept-item}
use Rattle.redo_report.specs.declared.report.Report.{Report}
use Rattle.redo_rules.specs.Build.{GivenView}
use Rattle.redo_rules.specs.Results.{IsResult}
use Rattle.redo_dir.specs.Own.{is_own, is_temporary}
use Rattle.redo_dir.specs.Stored.{Step}
use Rattle.redo_dir.specs.Storing.{steps_to_store}
use Rattle.redo_mend.specs.Mended.{MendsTo, clearing}
use Rattle.redo_recover.specs.Broken.{IsStart, journal_of}
use Rattle.redo_recover.specs.Steps.{IsFound, IsOfOthers, IsStage, IsToStore, MayHold}
use Rattle.redo_run.specs.Directories.{IsBuilt, steps_of}
use Rattle.redo_run.specs.Skipping.{but_book}
use Rattle.redo_run.specs.Storing.{if_new, others_from, stands_in, storing}
use Rattle.redo_run.specs.declared.exit.Exit.{Exit}
use Rattle.redo_run.specs.declared.options.Options.{Options}
use Rattle.redo_run.proofs.SoundLemmas.{others-of}
use Rattle.redo_resume.specs.Killed.{IsClear}

-- ---- the text of the new book

abbrev File : Type 0
File = List ℕ × List ℕ

-- the text at the book's place among files
abbrev text_among : List File → Option (List ℕ)
text_among files = option_map (λ (f : File). f.1) (find (λ (f : File). bytes_eq f.0 book_path) files)

first-text : (f : File) (files : List File) → bytes_eq f.0 book_path ≡ true → text_among (f ∷ files) ≡ Some f.1
first-text f files is = rw is refl

later-text : (f : File) (files : List File) → bytes_eq f.0 book_path ≡ false → text_among (f ∷ files) ≡ text_among files
later-text f files is = rw is refl

-- whether the path of a file is the book's, by how the two compare
is-book : (f : File) (v : Ordering) → slice_cmp nat_cmp book_path f.0 ≡ v → bytes_eq f.0 book_path ≡ is_eq v
is-book f v e = nat_list_eq_equiv.symm f.0 book_path ∙ sym (is_eq-slice_cmp book_path f.0) ∙ ap is_eq e

text-with : (files : List File) (text : List ℕ) → text_among (with_file files book_path text) ≡ Some text
text-with [] text = first-text (book_path, text) [] ((bytes_eq-Decides book_path book_path).1 refl)
text-with (f ∷ files) text =
    (elim (slice_cmp nat_cmp book_path f.0) as (λ (v : Ordering). slice_cmp nat_cmp book_path f.0 ≡ v →
    text_among (match_ordering v ((book_path, text) ∷ f ∷ files) ((f.0, text) ∷ files) (f ∷ with_file files book_path text)) ≡ Some text) [
      | Less ↦ λ e. first-text (book_path, text) (f ∷ files) ((bytes_eq-Decides book_path book_path).1 refl)
      | Equal ↦ λ e. first-text (f.0, text) files (is-book f Equal e)
      | Greater ↦ λ e. later-text f (with_file files book_path text) (is-book f Greater e) ∙ text-with files text
    ]) refl

-- ---- the law

module _ (loaded mended : Tree) (options : Options) (report : Report) (book : List ℕ) (exit : Exit)
    (built : IsBuilt mended options report book exit) where
  abbrev given : GivenView
  given = built.given

  abbrev text : List ℕ
  text = journal_of given built.whole built.is

  tree-is : given.past.tree ≡ mended
  tree-is = built.is_given.of_tree.of_tree

  -- the text of the new book is that of the journal
  text-is : book ≡ text
  text-is =
      let same : Some book ≡ Some text =
      sym (text-with report.files.items book) ∙ ap text_among (sym built.parts.files ∙ built.is.with_book.files)
      ∙ text-with built.is.report.files.items text in
      cc

  -- a file of the report is one that the build made
  made : (f : File) → IsItem report.files.items f → IsItem built.is.report.files.items f
  made f m =
      let other : bytes_eq f.0 book_path ≡ false = false_from_ne_true (bytes_eq f.0 book_path) (λ t.
      All-contains (λ (x : File). x.0 ≢ book_path) report.files.items f built.parts.none
      (item-contained report.files.items f m) ((bytes_eq-Decides f.0 book_path).0 t)) in
      let same : but_book report.files.items ≡ but_book built.is.report.files.items =
      sym (others-of report.files.items book) ∙ ap but_book (sym built.parts.files ∙ built.is.with_book.files)
      ∙ others-of built.is.report.files.items text in
      (kept-item (λ (x : File). not (bytes_eq x.0 book_path)) built.is.report.files.items f
      (subst (λ (l : List File). IsItem l f) same
      (item-kept (λ (x : File). not (bytes_eq x.0 book_path)) report.files.items f m (ap not other)))).0

  module _ (clear : IsClear mended book report.files.items) where
    to-store : (f : File) → IsItem report.files.items f → IsToStore given built.whole built.is f
    to-store f m =
        let c = item-contained report.files.items f m in
        record {
          may = record {
            built = item-contained built.is.report.files.items f (made f m);
            no_directory = λ is.
                All-contains (λ (x : File). node_at mended x.0 ≢ Some Directory) report.files.items f clear.no_directory c
                (ap (λ (t : Tree). node_at t f.0) (sym tree-is) ∙ is);
          };
          no_book = All-contains (λ (x : File). x.0 ≢ book_path) report.files.items f built.parts.none c;
          not_own =
              ap (λ (t : List ℕ). is_own t f.0) (sym text-is)
              ∙ All-contains (λ (x : File). is_own book x.0 ≡ false) report.files.items f clear.not_own c;
        }

    all-to-store : All (IsToStore given built.whole built.is) (others_from mended report.files.items)
    all-to-store =
        All-from_recursion (IsToStore given built.whole built.is) (others_from mended report.files.items)
        (all-items (IsToStore given built.whole built.is) (others_from mended report.files.items)
        (λ f m. to-store f (kept-item (λ (x : File). not (stands_in mended x)) report.files.items f m).0))

-- what the laws on broken-off runs say
abbrev pub Clears : Type 0
Clears = (over : Bool) (tree mended : Tree) (named : Option (List ℕ)) → IsTree tree → MendsTo tree mended →
    IsOfOthers tree → IsFound tree mended named → (front rest : List Step) →
    clearing over tree mended ≡ front ++ rest → (now : Tree) → MayHold named tree front now → MendsTo now mended

abbrev pub Stores : Type 0
Stores = (given : GivenView) (result : Report) (is : IsResult given result) → IsStart given.past →
    node_at given.past.tree journal_path ≡ None →
    ((p : List ℕ) → is_temporary (journal_of given result is) p ≡ true → node_at given.past.tree p ≡ None) →
    (over : Bool) (listed tree : Tree) → IsTree tree → MendsTo tree given.past.tree → IsOfOthers tree →
    (named : Option (List ℕ)) → IsFound tree given.past.tree named → (files : List File) →
    All (IsToStore given result is) files → (front rest : List Step) →
    clearing over tree given.past.tree ++ steps_to_store listed (journal_of given result is) files ≡ front ++ rest →
    (now : Tree) → MayHold named tree front now → IsStage given result is now

module _ (clears : Clears) (stores : Stores) (loaded mended : Tree) (options : Options) (report : Report) (book : List ℕ)
    (exit : Exit) (built : IsBuilt mended options report book exit) where
  abbrev over : Bool
  over = is_some (file_at loaded book_path)

  -- either nothing is stored, or the new book and the files that the tree doesn't have so
  to-store-cases : (others : List File) → (if_new mended book others ≡ None) ⊎ (if_new mended book others ≡ Some (book, others))
  to-store-cases [] = elim (cases_Bool (stands_in mended (book_path, book))) [
    | inl t ↦ inl (rw t refl)
    | inr f ↦ inr (rw f refl)
  ]
  to-store-cases (f ∷ fs) = inr refl

  pub stage-of-run : (is_tree : IsTree loaded) → MendsTo loaded mended → IsStart built.given.past →
      IsClear mended book report.files.items → IsOfOthers loaded → (named : Option (List ℕ)) →
      IsFound loaded mended named → (front rest : List Step) → steps_of loaded mended report book ≡ front ++ rest →
      (now : Tree) → MayHold named loaded front now → IsStage built.given built.whole built.is now
  stage-of-run is_tree mends start clear others named found front rest cut now holds =
      let back : mended ≡ built.given.past.tree = sym (tree-is loaded mended options report book exit built) in
      let files : List File = others_from mended report.files.items in
      let cleared : List Step = clearing over loaded mended in
      let text-is' : book ≡ journal_of built.given built.whole built.is = text-is loaded mended options report book exit built in
      elim (to-store-cases files) [
        | inl none ↦
            let all : cleared ≡ front ++ rest =
            sym (append-nil cleared) ∙ ap (λ (s : Option (List ℕ × List File)). cleared ++ storing mended s) (sym none) ∙ cut in
            inl (subst (λ (t : Tree). MendsTo now t) back
            (clears over loaded mended named is_tree mends others found front rest all now holds))
        | inr some ↦
            let all : clearing over loaded built.given.past.tree
            ++ steps_to_store mended (journal_of built.given built.whole built.is) files ≡ front ++ rest =
            ap (λ (t : Tree). clearing over loaded t ++ steps_to_store mended (journal_of built.given built.whole built.is) files) (sym back)
            ∙ ap (λ (t : List ℕ). cleared ++ steps_to_store mended t files) (sym text-is')
            ∙ ap (λ (s : Option (List ℕ × List File)). cleared ++ storing mended s) (sym some) ∙ cut in
            stores built.given built.whole built.is start
            (subst (λ (t : Tree). node_at t journal_path ≡ None) back clear.no_journal)
            (λ p temporary.
            subst (λ (t : Tree). node_at t p ≡ None) back
            (clear.no_temporary p (ap (λ (t : List ℕ). is_temporary t p) text-is' ∙ temporary)))
            over mended loaded is_tree (subst (λ (t : Tree). MendsTo loaded t) back mends) others named
            (subst (λ (t : Tree). IsFound loaded t named) back found) files
            (all-to-store loaded mended options report book exit built clear) front rest all now holds
      ]
