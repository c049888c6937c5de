-- What is opened of a directory, and that what was read decides it.
use Rattle.std.proofs.Common.{◌≡◌, ◌∙◌, ℕ, Bool, true, false, List, inl, inr, refl, sym, ap, ap₂, subst, Option, Some, None}
use Rattle.std.proofs.Common.{if◌then◌else◌, nat_eq}
use Rattle.std.specs.Prelude.{is_some}
use Rattle.std.specs.Cmp.Lexicographic.{pointwise}
use Rattle.std.specs.Option.{option_eq}
use Rattle.std.specs.declared.io.ErrorKind.{ErrorKind}
use Rattle.redo_tree.specs.Tree.{IsTree, Tree, file_at, without}
use Rattle.redo_which.specs.Candidates.{book_path, journal_path}
use Rattle.redo_book.specs.declared.faults.BookFault.{BookFault}
use Rattle.redo_book.specs.declared.faults.BookFault.TheVariants as faults
use Rattle.redo_dir.specs.Loaded.{IsLoaded, Leads, Looks, ReadIf, Reads, wants}
use Rattle.redo_dir.specs.declared.contents.Wanted.{Wanted}
use Rattle.redo_dir.proofs.LoadLemmas.{whole}
use Rattle.redo_dir.specs.declared.clearing.Left.{Left}
use Rattle.redo_mend.specs.Mended.{MendsTo, book_to_put, own_files}
use Rattle.redo_path.proofs.ApartLemmas.{apart}
use Rattle.redo_past.specs.Past.{IsBookOf, IsPast, PastView, set_aside}
use Rattle.redo_reads.specs.Reads.{AgreeOn, AreNamedAlike, HasBook, named_in}
use Rattle.redo_reads.proofs.PastLemmas.{covered_same, target_named}
use Rattle.redo_reads.proofs.ReportLemmas.{agreed_file}
use Rattle.redo_reads.proofs.SearchLemmas.{file_alike}
use Rattle.redo_run.specs.DirFaults.{of_past}
use Rattle.redo_run.specs.Directories.{AreFilesOrNone, IsUnread}
use Rattle.redo_run.specs.Opening.{DecidesOpened, HasLeft, IsOpened, IsOpenedOf, IsUnopened, IsUnopenedOf}
use Rattle.redo_run.specs.Reading.{HasMended, MendsAlike}
use Rattle.redo_run.specs.declared.dir_fault.RunDirFault.{RunDirFault}
use Rattle.redo_run.specs.declared.dir_fault.RunDirFault.TheVariants.{Load, Memory}
use Rattle.redo_run.specs.declared.opening.Opened.{Opened}
use Rattle.redo_run.proofs.DirectoryLemmas.{same_tree}
use Rattle.redo_run.proofs.MendingLemmas.{own_alike}

-- ---- what was read decides

-- the past of another tree with the same book
module _ (past : PastView) (is : IsPast past) (tree : Tree) where
  abbrev with_its_book : PastView
  with_its_book = record { tree = tree; sources = without tree (set_aside tree past.book); book = past.book }

  is_with_its_book : file_at tree book_path ≡ file_at past.tree book_path → IsPast with_its_book
  is_with_its_book same = record {
    book = subst (λ (file : Option (List ℕ)). IsBookOf file past.book) (sym same) is.book;
    sources = refl;
  }

-- no file, where there is none in the other tree
no_file : (file : Option (List ℕ)) → is_some file ≡ false → file ≡ None
no_file None none = refl
no_file (Some bytes) none = apart cc

-- the same is left in another tree
module _ (paths : List ℕ → Bool) (loaded tree mended other : Tree) (is_loaded : IsTree loaded) (is_tree : IsTree tree) (alike : AreNamedAlike loaded tree) (agree : AgreeOn paths loaded tree) (has : HasMended paths loaded) (left_alike : AreNamedAlike mended other) (new : file_at other book_path ≡ file_at mended book_path) where
  journal_same : file_at tree journal_path ≡ file_at loaded journal_path
  journal_same =
      (elim (file_at loaded journal_path) as (λ o. file_at loaded journal_path ≡ o → file_at tree journal_path ≡ file_at loaded journal_path) [
        | None ↦ λ none. no_file (file_at tree journal_path) (file_alike loaded tree alike journal_path ∙ ap is_some none) ∙ sym none
        | Some text ↦ λ here. agreed_file paths loaded tree alike agree journal_path ((has text here).own journal_path (inl refl))
      ]) refl

  put_same : (text : List ℕ) → file_at loaded journal_path ≡ Some text → book_to_put tree other ≡ book_to_put loaded mended
  put_same text here =
      ap₂ (λ (m t : Option (List ℕ)). if option_eq (pointwise nat_eq) m t then None else m) new
      (agreed_file paths loaded tree alike agree book_path ((has text here).own book_path (inr (inl refl))))

  own_same : own_files tree other ≡ own_files loaded mended
  own_same = own_alike loaded tree mended other is_loaded is_tree alike left_alike

  left_same : (left : Option Left) → HasLeft loaded mended left → HasLeft tree other left
  left_same None has_left = record { journal = has_left.journal ∙ sym journal_same; book = tt; own = tt }
  left_same (Some l) has_left = record {
    journal = has_left.journal ∙ sym journal_same;
    book = has_left.book ∙ sym (put_same l.journal (sym has_left.journal));
    own = has_left.own ∙ sym own_same;
  }

-- what the law says
abbrev Mends : Type 0
Mends = (one two mended : Tree) (paths : List ℕ → Bool) → IsTree one → IsTree two → AreNamedAlike one two →
    AgreeOn paths one two → HasMended paths one → MendsTo one mended → (other : Tree) × MendsAlike paths mended two other

module _ (paths : List ℕ → Bool) (loaded : Tree) (passed : ℕ) (opened : Opened) (is : IsOpenedOf loaded passed opened) where
  -- the files that were read, where they are all that was looked into
  pub decided_by : Mends → HasMended paths loaded → HasBook paths opened.past.tree opened.past.book → DecidesOpened paths loaded opened
  decided_by law has_mended has_book tree is_tree alike agree =
      let found = law loaded tree opened.past.tree paths is.is_tree is_tree alike agree has_mended is.mends in
      let same = covered_same paths opened.past.tree found.0 (named_in opened.past.book) found.1.named found.1.agrees has_book in
      let new : file_at found.0 book_path ≡ file_at opened.past.tree book_path = same book_path (inl refl) in (
        with_its_book opened.past is.past found.0,
        found.1,
        record {
          is_tree = is.mended;
          is_past = is.past;
          other_tree = found.1.is_tree;
          other_past = is_with_its_book opened.past is.past found.0 new;
          named = found.1.named;
          book = refl;
          targets = λ p m. same p (inr (target_named opened.past.book p m));
        },
        same,
        left_same paths loaded tree opened.past.tree found.0 is.is_tree is_tree alike agree has_mended found.1.named new
            opened.left is.left,
      )

  -- all files
  pub decided_by_all : ((p : List ℕ) → paths p ≡ true) → DecidesOpened paths loaded opened
  decided_by_all all tree is_tree alike agree =
      let same : tree ≡ loaded = same_tree loaded tree is.is_tree is_tree alike (λ p. agree p (all p)) in (
        opened.past,
        record {
          mends = subst (λ (t : Tree). MendsTo t opened.past.tree) (sym same) is.mends;
          is_tree = is.mended;
          named = λ p. refl;
          agrees = λ p m. refl;
        },
        record {
          is_tree = is.mended;
          is_past = is.past;
          other_tree = is.mended;
          other_past = is.past;
          named = λ p. refl;
          book = refl;
          targets = λ p m. refl;
        },
        λ p m. refl,
        subst (λ (t : Tree). HasLeft t opened.past.tree opened.left) (sym same) is.left,
      )

-- ---- what was opened

module _ (lists : List ℕ → List (Option (List ℕ)) → Type 0) (looks : Looks) (reads : Reads) (refuses : List ℕ → ErrorKind → Type 0) where
  module _ (lacks : List ℕ → Type 0) (paths : List ℕ → Bool) (loaded : Tree) (passed : ℕ) (opened : Opened) (l : IsLoaded lists (Leads looks (ReadIf paths reads)) loaded passed) (own : AreFilesOrNone lacks loaded) (is : IsOpenedOf loaded passed opened) where
    opened_by : HasBook paths opened.past.tree opened.past.book → DecidesOpened paths loaded opened → IsOpened lists looks reads lacks opened
    opened_by has_book decides = record {
      paths = paths;
      loaded = loaded;
      is_loaded = subst (IsLoaded lists (Leads looks (ReadIf paths reads)) loaded) (sym is.counted) l;
      own = own;
      is = subst (λ (n : ℕ). IsOpenedOf loaded n opened) (sym is.counted) is;
      has_book = has_book;
      decides = decides;
    }

    pub opened_part : Mends → HasMended paths loaded → HasBook paths opened.past.tree opened.past.book → IsOpened lists looks reads lacks opened
    opened_part law has_mended has_book =
        opened_by has_book (decided_by paths loaded passed opened is law has_mended has_book)

    pub opened_all : ((p : List ℕ) → paths p ≡ true) → IsOpened lists looks reads lacks opened
    opened_all all = opened_by (λ p m file. all p) (decided_by_all paths loaded passed opened is all)

  -- ---- faults

  pub unread_unopened : (fault : RunDirFault) → IsUnread lists looks reads refuses fault → IsUnopened lists looks reads refuses fault
  unread_unopened Load h = h
  unread_unopened Memory h = tt
  unread_unopened _ h = absurd h

  -- all files were read
  pub refused_unopened : (wanted : Wanted) → wanted.all ≡ true → (loaded : Tree) (passed : ℕ) (fault : BookFault) → IsLoaded lists (Leads looks (ReadIf (wants wanted) reads)) loaded passed → IsUnopenedOf loaded fault → IsUnopened lists looks reads refuses (of_past fault)
  refused_unopened wanted all loaded passed (faults.Line n) l h = record {
    loaded = loaded;
    passed = passed;
    is_loaded = whole lists looks reads refuses wanted all loaded passed l;
    refused = h;
  }
  refused_unopened wanted all loaded passed faults.Memory l h = tt
