-- Trees with the same names that agree on what mending looks into: they are mended alike.
use Rattle.std.proofs.Common.{◌≡◌, ◌≢◌, ◌↔◌, ◌⊎◌, ◌∷◌, ◌++◌, ◌&&◌, ◌∙◌, ℕ, Bool, true, false, not, List, [], Option, Some, None, filter}
use Rattle.std.proofs.Common.{inl, inr, is_some, refl, sym, ap, ap₂, subst, if◌then◌else◌, nat_eq}
use Rattle.std.specs.Prelude.{MatchOption, option_and_then}
use Rattle.std.specs.Cmp.Lexicographic.{pointwise}
use Rattle.std.specs.Option.{option_eq, option_or}
use Rattle.std.specs.Str.{bytes_eq}
use Rattle.std.proofs.lemmas.Bool.{cases_Bool}
use Rattle.std.proofs.lemmas.Slice.Eq.{bytes_eq-Decides}
use Rattle.redo_book.specs.Book.{Record, book_lines, targets_of, text_of}
use Rattle.redo_dir.specs.Own.{is_own}
use Rattle.redo_dir.specs.Storing.{steps_to_clear}
use Rattle.redo_digest.specs.Digest.{state_of}
use Rattle.redo_mend.specs.Mended.{IsMended, IsPassedOver, IsRecoveredTree, MendsTo, book_to_put, is_taken_out, own_files}
use Rattle.redo_mend.specs.Recovered.{IsRecovered, said_at}
use Rattle.redo_mend.proofs.MendLemmas.{is-mended, own_of}
use Rattle.redo_names.proofs.ListLemmas.{IsAmong-left, IsAmong-right}
use Rattle.redo_past.specs.Past.{IsBookOf}
use Rattle.redo_past.proofs.OrderLemmas.{same_path}
use Rattle.redo_path.proofs.ApartLemmas.{apart}
use Rattle.redo_reads.specs.Reads.{AgreeOn, AreNamedAlike}
use Rattle.redo_reads.proofs.NamesLemmas.{keys_alike}
use Rattle.redo_reads.proofs.PastLemmas.{without_agrees, without_alike}
use Rattle.redo_reads.proofs.ReportLemmas.{agreed_file}
use Rattle.redo_reads.proofs.RunReadLemmas.{same_everywhere}
use Rattle.redo_reads.proofs.SearchLemmas.{file_alike}
use Rattle.redo_record.specs.Paths.{IsAmong}
use Rattle.redo_tree.specs.Tree.{Directory, File, IsTree, Node, Tree, bytes_of, file_at, is_file_among, kind_of, node_at, refusal}
use Rattle.redo_tree.specs.Tree.{with_node, without}
use Rattle.redo_tree.specs.declared.entries.Kind.TheVariants as kinds
use Rattle.redo_tree.proofs.GrowLemmas.{added-free}
use Rattle.redo_tree.proofs.WithoutLemmas.{IsTree-without, node_at-without, passing, stood}
use Rattle.redo_which.specs.Candidates.{book_path, journal_path}
use Rattle.redo_run.specs.Reading.{HasMended, MendsAlike}
use Rattle.redo_run.specs.Storing.{clearing}

-- ---- kinds

directory_there : (o u : Option Node) → kind_of u ≡ kind_of o → o ≡ Some Directory → u ≡ Some Directory
directory_there o None k d = let bad : kinds.Nothing ≡ kinds.Dir = k ∙ ap kind_of d in apart cc
directory_there o (Some Directory) k d = refl
directory_there o (Some (File bytes)) k d = let bad : kinds.File ≡ kinds.Dir = k ∙ ap kind_of d in apart cc

-- directories are the same, and files stand at the same paths
same_kind : (o u : Option Node) → (o ≡ Some Directory) ↔ (u ≡ Some Directory) →
    is_some (option_and_then bytes_of o) ≡ is_some (option_and_then bytes_of u) → kind_of o ≡ kind_of u
same_kind None None d e = refl
same_kind None (Some Directory) d e = let bad : None ≡ Some Directory = d.1 refl in apart cc
same_kind None (Some (File bytes)) d e = apart cc
same_kind (Some Directory) None d e = let bad : None ≡ Some Directory = d.0 refl in apart cc
same_kind (Some Directory) (Some Directory) d e = refl
same_kind (Some Directory) (Some (File bytes)) d e = apart cc
same_kind (Some (File bytes)) None d e = apart cc
same_kind (Some (File bytes)) (Some Directory) d e = apart cc
same_kind (Some (File bytes)) (Some (File others)) d e = refl

-- ---- the recovered book

-- where the files at the targets of a book are the same, so is what it says of them
said_alike : (one two : Tree) (book : List Record) →
    ((p : List ℕ) → IsAmong (targets_of book) p → file_at two p ≡ file_at one p) → (p : List ℕ) →
    said_at two book p ≡ said_at one book p
said_alike one two [] same p = refl
said_alike one two (r ∷ rs) same p = elim (cases_Bool (bytes_eq r.target p)) [
  | inl here ↦ rw here
      (ap (λ (file : Option (List ℕ)). if option_eq bytes_eq (state_of file) r.state then Some r else None)
      (same r.target (inl refl)))
  | inr other ↦ rw other (said_alike one two rs (λ q m. same q (inr m)) p)
]

recovered_there : (one two : Tree) (journal old book : List Record) →
    ((p : List ℕ) → IsAmong (targets_of journal ++ targets_of old) p → file_at two p ≡ file_at one p) →
    IsRecovered one journal old book → IsRecovered two journal old book
recovered_there one two journal old book same is = record {
  ordered = is.ordered;
  records = λ p. is.records p
      ∙ sym (ap₂ option_or
      (said_alike one two journal (λ q m. same q (IsAmong-left (targets_of journal) (targets_of old) q m)) p)
      (said_alike one two old (λ q m. same q (IsAmong-right (targets_of journal) (targets_of old) q m)) p));
}

-- ---- there is a mended tree

-- nothing stands where the book's file was taken out
free_there : (o : Option Node) → o ≢ Some Directory →
    passing (λ e. not (is_file_among (book_path ∷ []) e)) book_path o ≡ None
free_there None h = refl
free_there (Some Directory) h = absurd (h refl)
free_there (Some (File bytes)) h = refl

module _ (tree : Tree) (is : IsTree tree) (text : List ℕ) (book : List Record) (place : node_at tree book_path ≢ Some Directory) where
  abbrev less : Tree
  less = without tree (own_of tree text)

  abbrev rest : Tree
  rest = without less (book_path ∷ [])

  abbrev bytes : List ℕ
  bytes = text_of (book_lines book)

  abbrev less_is : IsTree less
  less_is = IsTree-without tree (own_of tree text) is

  allowed : refusal rest book_path (File bytes) ≡ None
  allowed =
      let root : node_at rest [] ≡ Some Directory = (IsTree-without less (book_path ∷ []) less_is).root in
      let free : node_at rest book_path ≡ None =
      node_at-without less (book_path ∷ []) book_path less_is
      ∙ free_there (node_at less book_path) (λ d. place (stood tree (own_of tree text) book_path Directory is d)) in
      rw (root, free) refl

  made_with : (other : Tree) × IsMended tree text book other
  made_with = (
    with_node rest book_path (File bytes),
    is-mended tree is text bytes (with_node rest book_path (File bytes)) (added-free rest book_path (File bytes) allowed)
        book refl,
  )

-- ---- two mended trees

module _ (one two : Tree) (alike : AreNamedAlike one two) (text : List ℕ) (book : List Record) (mended other : Tree) (is : IsMended one text book mended) (also : IsMended two text book other) where
  -- what is the same of files at a path is so of the mended trees' files
  file_left : {X : Type 0} (f : Option (List ℕ) → X) (p : List ℕ) → f (file_at two p) ≡ f (file_at one p) →
      f (file_at other p) ≡ f (file_at mended p)
  file_left f p same = elim (cases_Bool (bytes_eq p book_path)) [
    | inl at ↦
        let here : p ≡ book_path = same_path p book_path at in
        ap f (ap (file_at other) here ∙ also.has_book ∙ sym is.has_book ∙ ap (file_at mended) (sym here))
    | inr no_book ↦
        let n : p ≢ book_path =
        λ e. (let bad : true ≡ false = sym ((bytes_eq-Decides p book_path).1 e) ∙ no_book in apart cc) in
        elim (cases_Bool (is_own text p)) [
          | inl own ↦ ap f (also.own p n own ∙ sym (is.own p n own))
          | inr m ↦
              ap (λ (o : Option Node). f (option_and_then bytes_of o)) (also.others p n m) ∙ same
              ∙ ap (λ (o : Option Node). f (option_and_then bytes_of o)) (sym (is.others p n m))
        ]
  ]

  names_left : AreNamedAlike mended other
  names_left p =
      same_kind (node_at other p) (node_at mended p) (
        λ d. (is.directories p).1
            (directory_there (node_at two p) (node_at one p) (sym (alike p)) ((also.directories p).0 d)),
        λ d. (also.directories p).1
            (directory_there (node_at one p) (node_at two p) (alike p) ((is.directories p).0 d)),
      ) (file_left is_some p (file_alike one two alike p))

  agrees_left : (paths : List ℕ → Bool) → AgreeOn paths one two → AgreeOn paths mended other
  agrees_left paths agree p m = file_left (λ (file : Option (List ℕ)). file) p (agree p m)

-- ---- mending another tree

module _ (one two : Tree) (paths : List ℕ → Bool) (is_one : IsTree one) (is_two : IsTree two) (alike : AreNamedAlike one two) (agree : AgreeOn paths one two) (has : HasMended paths one) where
  module _ (text : List ℕ) (here : file_at one journal_path ≡ Some text) where
    own_there : (p : List ℕ) → IsAmong (journal_path ∷ book_path ∷ []) p → file_at two p ≡ file_at one p
    own_there p m = agreed_file paths one two alike agree p ((has text here).own p m)

    journal_there : file_at two journal_path ≡ Some text
    journal_there = own_there journal_path (inl refl) ∙ here

    mends_there : (other : Tree) →
        IsRecoveredTree two text other ⊎ (IsPassedOver two text × (other ≡ without two (journal_path ∷ []))) →
        MendsTo two other
    mends_there other way = let there = journal_there in rw there way

    recovered_alike : (mended : Tree) → IsRecoveredTree one text mended → (other : Tree) × MendsAlike paths mended two other
    recovered_alike mended is =
        let place : node_at two book_path ≢ Some Directory =
        λ d. is.place (directory_there (node_at two book_path) (node_at one book_path) (sym (alike book_path)) d) in
        let made = made_with two is_two text is.book place in
        let book_there : file_at one book_path ≡ file_at two book_path =
        sym (own_there book_path (inr (inl refl))) in (
          made.0,
          record {
            mends = mends_there made.0 (inl (record {
              journal = is.journal;
              is_journal = is.is_journal;
              place = place;
              old = is.old;
              is_old = subst (λ (file : Option (List ℕ)). IsBookOf file is.old) book_there is.is_old;
              book = is.book;
              recovered = recovered_there one two is.journal is.old is.book
                  (λ p m. agreed_file paths one two alike agree p
                  ((has text here).targets is.journal is.old is.is_journal is.is_old p m)) is.recovered;
              is_mended = made.1;
            }));
            is_tree = made.1.is_tree;
            named = names_left one two alike text is.book mended made.0 is.is_mended made.1;
            agrees = agrees_left one two alike text is.book mended made.0 is.is_mended made.1 paths agree;
          },
        )

    passed_there : IsPassedOver one text → IsPassedOver two text
    passed_there (inl no_book) = inl no_book
    passed_there (inr d) = inr (directory_there (node_at one book_path) (node_at two book_path) (alike book_path) d)

    passed_alike : (mended : Tree) → IsPassedOver one text → mended ≡ without one (journal_path ∷ []) →
        (other : Tree) × MendsAlike paths mended two other
    passed_alike mended over same =
        subst (λ (t : Tree). (other : Tree) × MendsAlike paths t two other) (sym same) (
          without two (journal_path ∷ []),
          record {
            mends = mends_there (without two (journal_path ∷ [])) (inr (passed_there over, refl));
            is_tree = IsTree-without two (journal_path ∷ []) is_two;
            named = without_alike one two is_one is_two (journal_path ∷ []) alike;
            agrees = λ p m. without_agrees one two is_one is_two (journal_path ∷ []) p (agree p m);
          },
        )

  -- there is no other journal
  no_journal : file_at one journal_path ≡ None → file_at two journal_path ≡ None
  no_journal none = no_file (file_at two journal_path) (file_alike one two alike journal_path ∙ ap is_some none)
    where
      no_file : (file : Option (List ℕ)) → is_some file ≡ false → file ≡ None
      no_file None h = refl
      no_file (Some bytes) h = apart cc

  as_it_is : (mended : Tree) → file_at one journal_path ≡ None → mended ≡ one →
      (other : Tree) × MendsAlike paths mended two other
  as_it_is mended none same =
      let gone = no_journal none in
      let mends : MendsTo two two = rw gone refl in
      subst (λ (t : Tree). (other : Tree) × MendsAlike paths t two other) (sym same)
      (two, record { mends = mends; is_tree = is_two; named = alike; agrees = agree })

  pub mended_alike : (mended : Tree) → MendsTo one mended → (other : Tree) × MendsAlike paths mended two other
  mended_alike mended mends =
      (elim (file_at one journal_path) as (λ o. file_at one journal_path ≡ o → MatchOption o (mended ≡ one) (λ text. IsRecoveredTree one text mended ⊎ (IsPassedOver one text × (mended ≡ without one (journal_path ∷ [])))) → (other : Tree) × MendsAlike paths mended two other) [
        | None ↦ λ none same. as_it_is mended none same
        | Some text ↦ λ here way. elim way [
          | inl is ↦ recovered_alike text here mended is
          | inr over ↦ passed_alike text here mended over.0 over.1
        ]
      ]) refl mends

-- a mended tree is a tree
pub mended_tree : (tree mended : Tree) → IsTree tree → MendsTo tree mended → IsTree mended
mended_tree tree mended is mends =
    (elim (file_at tree journal_path) as (λ o. MatchOption o (mended ≡ tree) (λ text. IsRecoveredTree tree text mended ⊎ (IsPassedOver tree text × (mended ≡ without tree (journal_path ∷ [])))) → IsTree mended) [
      | None ↦ λ same. subst IsTree (sym same) is
      | Some text ↦ λ way. elim way [
        | inl found ↦ found.is_mended.is_tree
        | inr over ↦ subst IsTree (sym over.1) (IsTree-without tree (journal_path ∷ []) is)
      ]
    ]) mends

-- ---- what is cleared away

module _ (one two mended other : Tree) (is_one : IsTree one) (is_two : IsTree two) (alike : AreNamedAlike one two) (left : AreNamedAlike mended other) where
  pub own_alike : own_files two other ≡ own_files one mended
  own_alike =
      let taken : is_taken_out two other ≡ is_taken_out one mended =
      same_everywhere (is_taken_out two other) (is_taken_out one mended) (λ p.
      ap₂ (λ (a b : Bool). a && (not b && not (bytes_eq p journal_path))) (file_alike one two alike p)
      (file_alike mended other left p)) in
      ap₂ (λ (f : List ℕ → Bool) (ps : List (List ℕ)). filter f ps ++ journal_path ∷ []) taken
      (keys_alike one two is_one is_two alike)

  clearing_with : file_at two book_path ≡ file_at one book_path → file_at other book_path ≡ file_at mended book_path →
      (over : Bool) →
      steps_to_clear over (book_to_put two other) (own_files two other)
      ≡ steps_to_clear over (book_to_put one mended) (own_files one mended)
  clearing_with book new over =
      let put : book_to_put two other ≡ book_to_put one mended =
      ap₂ (λ (m t : Option (List ℕ)). if option_eq (pointwise nat_eq) m t then None else m) new book in
      ap₂ (steps_to_clear over) put own_alike

  pub clearing_alike :
      ((text : List ℕ) → file_at one journal_path ≡ Some text → file_at two book_path ≡ file_at one book_path) →
      file_at other book_path ≡ file_at mended book_path → clearing two other ≡ clearing one mended
  clearing_alike book new =
      let there : is_some (file_at two journal_path) ≡ is_some (file_at one journal_path) =
      file_alike one two alike journal_path in
      let over : is_some (file_at two book_path) ≡ is_some (file_at one book_path) =
      file_alike one two alike book_path in
      rw (there, over) ((elim (file_at one journal_path) as (λ o. file_at one journal_path ≡ o →
      (if is_some o then steps_to_clear (is_some (file_at one book_path)) (book_to_put two other) (own_files two other) else [])
      ≡ (if is_some o then steps_to_clear (is_some (file_at one book_path)) (book_to_put one mended) (own_files one mended) else [])) [
        | None ↦ λ none. refl
        | Some text ↦ λ here. clearing_with (book text here) new (is_some (file_at one book_path))
      ]) refl)
