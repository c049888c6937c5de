-- Each tree whose book has no fault can be opened.
use Rattle.std.proofs.Common.{◌≡◌, ◌≢◌, ◌⊎◌, ℕ, inl, inr, List, [], ◌∷◌, Some, None, refl, sym, subst}
use Rattle.redo_path.proofs.ApartLemmas.{apart}
use Rattle.redo_tree.specs.Tree.{Directory, File, IsTree, Tree, file_at, node_at, refusal, with_node, without}
use Rattle.redo_tree.proofs.GrowLemmas.{added-free}
use Rattle.redo_tree.proofs.WithoutLemmas.{IsTree-without, file_at-without, stood}
use Rattle.redo_which.specs.Candidates.{book_path, journal_path}
use Rattle.redo_book.specs.Book.{IsText, IsTextOrRefused, Record, book_lines, text_of}
use Rattle.redo_past.specs.Past.{IsBookOf, PastView, set_aside}
use Rattle.redo_mend.specs.Mended.{IsNoBook, IsRecoveredTree, MendsTo}
use Rattle.redo_mend.proofs.MendLemmas.{is-mended, own_of}
use Rattle.redo_mend.proofs.OneLemmas.{NoFault}
use Rattle.redo_mend.proofs.SaidLemmas.{is-recovered, recovered}
use Rattle.redo_recover.specs.Opening.{Opens}
use Rattle.redo_recover.proofs.BreakLemmas.{either-dir, same-node}
use Rattle.redo_recover.proofs.ClearLemmas.{ordered}

-- a tree with a book has a past
past-of : (tree mended : Tree) (book : List Record) → MendsTo tree mended → IsBookOf (file_at mended book_path) book → (past : PastView) × Opens tree past
past-of tree mended book mends is =
    let past : PastView = record { tree = mended; sources = without mended (set_aside mended book); book = book } in
    (past, record { mends = mends; is_past = record { book = is; sources = refl } })

module _ (tree : Tree) (is : IsTree tree) (old : List Record) (is_old : IsBookOf (file_at tree book_path) old) where
  -- without a journal
  plain : file_at tree journal_path ≡ None → (past : PastView) × Opens tree past
  plain none = past-of tree tree old (rw none refl) is_old

  -- where it is passed over
  over : (text : List ℕ) → file_at tree journal_path ≡ Some text → IsNoBook text ⊎ (node_at tree book_path ≡ Some Directory) → (past : PastView) × Opens tree past
  over text e passed =
      let mended = without tree (journal_path ∷ []) in
      let same : file_at mended book_path ≡ file_at tree book_path = file_at-without tree (journal_path ∷ []) book_path is in
      past-of tree mended old (rw e (inr (passed, refl))) (subst (λ o. IsBookOf o old) (sym same) is_old)

  -- and where it is whole
  module _ (text : List ℕ) (e : file_at tree journal_path ≡ Some text) (journal : List Record) (is_journal : IsText text journal) (place : node_at tree book_path ≢ Some Directory) where
    abbrev book : List Record
    book = recovered tree journal old

    abbrev bytes : List ℕ
    bytes = text_of (book_lines book)

    abbrev rest : Tree
    rest = without (without tree (own_of tree text)) (book_path ∷ [])

    rest-tree : IsTree rest
    rest-tree = IsTree-without (without tree (own_of tree text)) (book_path ∷ []) (IsTree-without tree (own_of tree text) is)

    book-gone : node_at rest book_path ≡ None
    book-gone = same-node (node_at rest book_path) None
        (λ d. place (stood tree (own_of tree text) book_path Directory is (stood (without tree (own_of tree text)) (book_path ∷ []) book_path Directory (IsTree-without tree (own_of tree text) is) d)))
        (λ d. apart cc)
        (file_at-without (without tree (own_of tree text)) (book_path ∷ []) book_path (IsTree-without tree (own_of tree text) is))

    allowed : refusal rest book_path (File bytes) ≡ None
    allowed =
        let top : node_at rest [] ≡ Some Directory = rest-tree.root in
        let none = book-gone in
        rw (top, none) refl

    whole : (past : PastView) × Opens tree past
    whole =
        let mended = with_node rest book_path (File bytes) in
        let mends = is-mended tree is text bytes mended (added-free rest book_path (File bytes) allowed) book refl in
        let is_recovered = is-recovered tree journal old is_journal.ordered (ordered (file_at tree book_path) old is_old) in
        let its : IsText bytes book = record { ordered = is_recovered.ordered; whole = refl } in
        let found : IsRecoveredTree tree text mended = record {
          journal = journal;
          is_journal = is_journal;
          place = place;
          old = old;
          is_old = is_old;
          book = book;
          recovered = is_recovered;
          is_mended = mends;
        } in
        past-of tree mended book (rw e (inl found)) (subst (λ o. IsBookOf o book) (sym mends.has_book) its)

abbrev pub EachText : Type 0
EachText = (text : List ℕ) → IsTextOrRefused text

pub can-open : EachText → NoFault → (tree : Tree) (old : List Record) → IsTree tree → IsBookOf (file_at tree book_path) old → (past : PastView) × Opens tree past
can-open each no_fault tree old is is_old =
    (elim (file_at tree journal_path) as (λ o. file_at tree journal_path ≡ o → (past : PastView) × Opens tree past) [
      | None ↦ λ e. plain tree is old is_old e
      | Some text ↦ λ e. elim (each text) [
        | inr refused ↦ over tree is old is_old text e (inl (λ book its. no_fault text book refused.0 its refused.1))
        | inl journal ↦ elim (either-dir (node_at tree book_path)) [
          | inl directory ↦ over tree is old is_old text e (inr directory)
          | inr place ↦ whole tree is old is_old text e journal.0 journal.1 place
        ]
      ]
    ]) refl
