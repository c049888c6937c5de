-- A directory while a run stores its files.
use Rattle.std.proofs.Common.{◌≡◌, ◌++◌, ℕ, Bool, true, false, cond, ◌⊎◌, inl, inr, List, [], ◌∷◌, Option, Some, None}
use Rattle.std.proofs.Common.{refl, sym, ap, subst, ◌∙◌}
use Rattle.std.proofs.lemmas.Bool.{cases_Bool, false_from_ne_true, or_parts}
use Rattle.std.proofs.lemmas.List.Elements.{All-contains}
use Rattle.std.specs.Prelude.{◌||◌, All, option_and_then}
use Rattle.std.specs.Str.{bytes_eq}
use Rattle.redo_path.proofs.ApartLemmas.{apart}
use Rattle.redo_tree.specs.Tree.{Directory, File, IsTree, Tree, bytes_of, file_at, node_at}
use Rattle.redo_dir.specs.Stored.{Finishes, Journals, Step, puts_in}
use Rattle.redo_which.specs.Candidates.{book_path, journal_path}
use Rattle.redo_past.proofs.ItemLemmas.{IsItem, item-contained}
use Rattle.redo_past.proofs.OrderLemmas.{same_path}
use Rattle.redo_report.specs.declared.report.Report.{Report}
use Rattle.redo_rules.specs.Build.{GivenView}
use Rattle.redo_rules.specs.Results.{IsResult}
use Rattle.redo_dir.specs.Own.{is_own, is_temporary}
use Rattle.redo_mend.specs.Mended.{MendsTo, clearing}
use Rattle.redo_mend.proofs.OwnLemmas.{book-other, journal-other}
use Rattle.redo_recover.specs.Broken.{IsBrokenOff, IsLeftAt, IsStart, journal_of}
use Rattle.redo_recover.specs.Steps.{IsFinished, IsFound, IsOfOthers, IsStage, IsToStore, MayHold, Places, after_step, after_steps, is_free, named_by}
use Rattle.redo_dir.specs.Storing.{steps_to_store}
use Rattle.redo_recover.proofs.ClearedLemmas.{all-leave, all-unnamed, front-mends, holds-just, mends-same}
use Rattle.redo_recover.proofs.StepLemmas.{after-append, cut-last, cut-puts, cut-two, named-append, puts-at, puts-named}

module _ (given : GivenView) (result : Report) (is : IsResult given result) (start : IsStart given.past) (none : node_at given.past.tree journal_path ≡ None) (free : (p : List ℕ) → is_temporary (journal_of given result is) p ≡ true → node_at given.past.tree p ≡ None) (listed : Tree) where
  abbrev text : List ℕ
  text = journal_of given result is

  abbrev base : Places
  base = node_at given.past.tree

  -- with the journal
  abbrev mid : Places
  mid = after_step base (Journals text)

  abbrev AreToStore : List (List ℕ × List ℕ) → Type 0
  AreToStore files = (x : List ℕ × List ℕ) → IsItem files x → IsToStore given result is x

  -- where the program puts files of its own nothing stood
  own-none : (p : List ℕ) → is_own text p ≡ true → node_at given.past.tree p ≡ None
  own-none p h = elim (cases_Bool (bytes_eq p journal_path)) [
    | inl j ↦ ap (node_at given.past.tree) (same_path p journal_path j) ∙ none
    | inr nj ↦ free p (sym (ap (λ b. b || is_temporary text p) nj) ∙ h)
  ]

  mid-other : (p : List ℕ) → bytes_eq p journal_path ≡ false → mid p ≡ base p
  mid-other p h = ap (λ b. cond b (Some (File text)) (base p)) h

  module _ (files : List (List ℕ × List ℕ)) (to_store : AreToStore files) where
    abbrev left : Places
    left = after_steps mid (puts_in listed files)

    -- the journal stays while files are put, and so does the book
    journal-left : left journal_path ≡ Some (File text)
    journal-left = elim (puts-at listed mid files journal_path) [
      | inl same ↦ same
      | inr put ↦ let bad : true ≡ false = (to_store (journal_path, put.0) put.1).not_own in apart cc
    ]

    book-left : left book_path ≡ base book_path
    book-left = elim (puts-at listed mid files book_path) [
      | inl same ↦ same
      | inr put ↦ absurd ((to_store (book_path, put.0) put.1).no_book refl)
    ]

    -- each other path has what it had, or what was to be stored
    other-left : (now : Tree) (p : List ℕ) → bytes_eq p journal_path ≡ false → node_at now p ≡ left p → IsLeftAt given result is now p
    other-left now p h e = elim (puts-at listed mid files p) [
      | inl same ↦ inl (e ∙ same ∙ mid-other p h)
      | inr put ↦ inr (put.0, (to_store (p, put.0) put.1).may, e ∙ put.2)
    ]

    -- no directory stands where the program puts files of its own
    own-left : (p : List ℕ) → is_own text p ≡ true → left p ≡ Some Directory → ⊥
    own-left p h d = elim (puts-at listed mid files p) [
      | inl same ↦ elim (cases_Bool (bytes_eq p journal_path)) [
        | inl j ↦
            let here : mid p ≡ Some (File text) = ap (λ b. cond b (Some (File text)) (base p)) j in
            let bad : Some (File text) ≡ Some Directory = sym here ∙ sym same ∙ d in
            apart cc
        | inr nj ↦ let bad : None ≡ Some Directory = sym (own-none p h) ∙ sym (mid-other p nj) ∙ sym same ∙ d in apart cc
      ]
      | inr put ↦ let bad : Some (File put.0) ≡ Some Directory = sym put.2 ∙ d in apart cc
    ]

    pub broken-off : (now : Tree) → MayHold None given.past.tree (Journals text ∷ puts_in listed files) now → IsBrokenOff given result is now
    broken-off now holds = record {
      is_tree = holds.is_tree;
      journal = ap (option_and_then bytes_of) (told journal_path (journal-other text) ∙ journal-left);
      book = told book_path (book-other text) ∙ book-left;
      own = λ p n h. own-none p h;
      files = λ p n h d. own-left p h ((holds.directories p).0 d);
      others = λ p n h. (let parts = or_parts (bytes_eq p journal_path) (is_temporary text p) h in other-left now p parts.0 (told p parts.1));
    }
      where
        told : (p : List ℕ) → is_temporary text p ≡ false → node_at now p ≡ left p
        told p h = holds.at p (ap (λ o. is_free o p) (puts-named listed (Some text) files) ∙ h)

    pub finished : (now : Tree) → MayHold None given.past.tree (steps_to_store listed text files) now → IsFinished given result is now
    finished now holds = record {
      is_tree = holds.is_tree;
      book = ap (option_and_then bytes_of) (told book_path ∙ journal-left);
      journal = told journal_path;
      others = λ p n m.
          (let no_book = false_from_ne_true (bytes_eq p book_path) (λ t. n (same_path p book_path t)) in
          let no_journal = false_from_ne_true (bytes_eq p journal_path) (λ t. m (same_path p journal_path t)) in
          other-left now p no_journal (told p ∙ ap (λ b. cond b (left journal_path) (cond (bytes_eq p journal_path) None (left p))) no_book
          ∙ ap (λ b. cond b None (left p)) no_journal));
    }
      where
        unnamed : named_by (Some text) (puts_in listed files ++ Finishes ∷ []) ≡ None
        unnamed = named-append (Some text) (puts_in listed files) (Finishes ∷ [])

        told : (p : List ℕ) → node_at now p ≡ after_step left Finishes p
        told p = holds.at p (ap (λ o. is_free o p) unnamed) ∙ ap (λ f. f p) (after-append mid (puts_in listed files) (Finishes ∷ []))

  abbrev Stored : Tree → Type 0
  Stored now = (now ≡ given.past.tree) ⊎ (IsBrokenOff given result is now ⊎ IsFinished given result is now)

  -- a directory after each front of the steps
  pub stored-front : (files : List (List ℕ × List ℕ)) → AreToStore files → (front rest : List Step) → steps_to_store listed text files ≡ front ++ rest → (now : Tree) → MayHold None given.past.tree front now → Stored now
  stored-front files to_store [] rest cut now holds = inl (holds-just None given.past.tree given.past.tree now [] holds refl start.is_tree (λ p. refl))
  stored-front files to_store (s ∷ front) rest cut now holds =
      let first : Journals text ≡ s = cc in
      let behind : puts_in listed files ++ Finishes ∷ [] ≡ front ++ rest = cc in
      elim (cut-last (puts_in listed files) Finishes front rest behind) [
        | inl part ↦
            let some = cut-puts listed files front part.0 part.1 in
            let steps : s ∷ front ≡ Journals text ∷ puts_in listed some.0 = λ i. sym first i ∷ some.1 i in
            inr (inl (broken-off some.0 (λ x m. to_store x (some.2 x m)) now (subst (λ (l : List Step). MayHold None given.past.tree l now) steps holds)))
        | inr all ↦
            let steps : s ∷ front ≡ steps_to_store listed text files = λ i. sym first i ∷ all.0 i in
            inr (inr (finished files to_store now (subst (λ (l : List Step). MayHold None given.past.tree l now) steps holds)))
      ]

  -- and after each front of the steps that clear away and store
  module _ (over : Bool) (tree : Tree) (is_tree : IsTree tree) (mends : MendsTo tree given.past.tree) (others : IsOfOthers tree) (named : Option (List ℕ)) (by : IsFound tree given.past.tree named) where
    abbrev cleared : List Step
    cleared = clearing over tree given.past.tree

    -- what holds after the steps that clear away holds of the mended tree
    behind-cleared : (more : List Step) (now : Tree) → MayHold named tree (cleared ++ more) now → MayHold None given.past.tree more now
    behind-cleared more now holds =
        let unnamed : named_by named (cleared ++ more) ≡ named_by None more =
        named-append named cleared more ∙ ap (λ o. named_by o more) (all-unnamed over tree given.past.tree is_tree mends (file_at tree journal_path) refl named by) in
        let left : after_steps (node_at tree) (cleared ++ more) ≡ after_steps base more =
        after-append (node_at tree) cleared more ∙ ap (λ (f : Places). after_steps f more) (λ i p. all-leave over tree given.past.tree is_tree mends (file_at tree journal_path) refl mends others p i) in
        record {
          is_tree = holds.is_tree;
          at = λ p h. holds.at p (ap (λ o. is_free o p) unnamed ∙ h) ∙ ap (λ f. f p) left;
          directories = λ p. (
            λ d. sym (ap (λ f. f p) left) ∙ (holds.directories p).0 d,
            λ d. (holds.directories p).1 (ap (λ f. f p) left ∙ d),
          );
        }

    pub stage : (files : List (List ℕ × List ℕ)) → All (IsToStore given result is) files → (front rest : List Step) → cleared ++ steps_to_store listed text files ≡ front ++ rest → (now : Tree) → MayHold named tree front now → IsStage given result is now
    stage files to_store front rest cut now holds = elim (cut-two cleared (steps_to_store listed text files) front rest cut) [
      | inl part ↦ inl (front-mends over tree given.past.tree is_tree mends others named by front part.0 part.1 now holds)
      | inr more ↦
          let after = behind-cleared more.0 now (subst (λ (l : List Step). MayHold named tree l now) more.1 holds) in
          elim (stored-front files (λ x m. All-contains (IsToStore given result is) files x to_store (item-contained files x m)) more.0 rest more.2 now after) [
            | inl same ↦ inl (mends-same now given.past.tree same (ap (option_and_then bytes_of) none))
            | inr stored ↦ inr stored
          ]
    ]
