-- The tree that a run goes on with, of one that it has loaded; and what it has to clear away.
use Rattle.std.specs.Prelude.{◌≡◌, ◌≢◌, ◌⊎◌, ◌↔◌, ◌&&◌, ◌++◌, not, ℕ, Bool, true, false, List, [], ◌∷◌, Option, Some, None}
use Rattle.std.specs.Prelude.{MatchOption, filter, if◌then◌else◌, is_some, nat_eq}
use Rattle.std.specs.Cmp.Lexicographic.{pointwise}
use Rattle.std.specs.Map.{keys_of}
use Rattle.std.specs.Option.{option_eq}
use Rattle.std.specs.Str.{bytes_eq}
use Rattle.redo_tree.specs.Tree.{Directory, IsTree, Tree, file_at, node_at, without}
use Rattle.redo_which.specs.Candidates.{book_path, journal_path}
use Rattle.redo_book.specs.Book.{IsText, Record, book_lines, text_of}
use Rattle.redo_past.specs.Past.{IsBookOf}
use Rattle.redo_book.specs.declared.faults.BookFault.{BookFault}
use Rattle.redo_book.specs.declared.faults.BookFault.TheVariants.{Line, Memory}
use Rattle.redo_dir.specs.Own.{is_own}
use Rattle.redo_dir.specs.Stored.{Step}
use Rattle.redo_dir.specs.Storing.{steps_to_clear}
use Rattle.redo_mend.specs.Recovered.{IsRecovered, standing_by}

-- the tree with this book's text in the book's place, without the own files of the run that wrote this journal
pub record IsMended (tree : Tree) (text : List ℕ) (book : List Record) (mended : Tree) : Type 0 where
  pub is_tree : IsTree mended
  pub has_book : file_at mended book_path ≡ Some (text_of (book_lines book))
  pub own : (p : List ℕ) → p ≢ book_path → is_own text p ≡ true → file_at mended p ≡ None
  pub others : (p : List ℕ) → p ≢ book_path → is_own text p ≡ false → node_at mended p ≡ node_at tree p
  pub directories : (p : List ℕ) → (node_at mended p ≡ Some Directory) ↔ (node_at tree p ≡ Some Directory)

-- the text is no book's
abbrev pub IsNoBook : List ℕ → Type 0
IsNoBook text = (book : List Record) → IsText text book → ⊥

-- a journal of this text can't become the book: it isn't whole, or a directory stands in the book's place
abbrev pub IsPassedOver : Tree → List ℕ → Type 0
IsPassedOver tree text = IsNoBook text ⊎ (node_at tree book_path ≡ Some Directory)

-- a journal of this text is whole, and the tree is mended with the book that is recovered by it
pub record IsRecoveredTree (tree : Tree) (text : List ℕ) (mended : Tree) : Type 0 where
  pub journal : List Record
  pub is_journal : IsText text journal
  pub place : node_at tree book_path ≢ Some Directory
  pub old : List Record
  pub is_old : IsBookOf (file_at tree book_path) old
  pub book : List Record
  pub recovered : IsRecovered tree journal old book
  pub is_mended : IsMended tree text book mended

-- what a run goes on with: where there is no journal, the tree as it is; where it is whole, the mended tree; and where it
-- is passed over, the tree without it
abbrev pub MendsTo : Tree → Tree → Type 0
MendsTo tree mended =
    MatchOption (file_at tree journal_path) (mended ≡ tree)
    (λ text. IsRecoveredTree tree text mended ⊎ (IsPassedOver tree text × (mended ≡ without tree (journal_path ∷ []))))

-- of a tree with a journal of this text these files are to be on the disk before another book tells of them: the journal,
-- and those that stand as it tells; none where the journal is passed over
abbrev pub AreToSettle : Tree → List ℕ → List (List ℕ) → Type 0
AreToSettle tree text paths =
    ((journal : List Record) × IsText text journal × (paths ≡ journal_path ∷ standing_by tree journal)) ⊎
    (IsPassedOver tree text × (paths ≡ []))

-- the tree can't be mended, unless memory ran out
abbrev pub HasNoMended : BookFault → Tree → Type 0
HasNoMended (Line n) tree = (mended : Tree) → MendsTo tree mended → ⊥
HasNoMended Memory tree = Unit {0}

-- the text of the mended tree's book, where the tree has another one or none
abbrev pub book_to_put : Tree → Tree → Option (List ℕ)
book_to_put tree mended =
    if option_eq (pointwise nat_eq) (file_at mended book_path) (file_at tree book_path) then None
    else file_at mended book_path

-- whether a file of the tree is gone from the mended one and isn't the journal
abbrev pub is_taken_out : Tree → Tree → List ℕ → Bool
is_taken_out tree mended p =
    is_some (file_at tree p) && (not (is_some (file_at mended p)) && not (bytes_eq p journal_path))

-- the files to clear away: those that are gone from the mended tree, in path order, the journal behind all others
abbrev pub own_files : Tree → Tree → List (List ℕ)
own_files tree mended = filter (is_taken_out tree mended) (keys_of tree) ++ journal_path ∷ []

-- the steps by which what a broken-off run has left in a tree is cleared away before the mended one: none, where there is
-- no journal; `over` says whether there is a book that the recovered one takes the place of
abbrev pub clearing : Bool → Tree → Tree → List Step
clearing over tree mended =
    if is_some (file_at tree journal_path) then steps_to_clear over (book_to_put tree mended) (own_files tree mended) else []
