-- What a run takes over from the last one: a tree, the book in it, and the sources.
use Rattle.std.specs.Prelude.{◌≡◌, Bool, false, ℕ, List, [], ◌∷◌, Option, Some, None, MatchOption, filter}
use Rattle.std.specs.Prelude.{◌&&◌, if◌then◌else◌, is_none, not, option_and_then}
use Rattle.std.specs.Str.{bytes_eq}
use Rattle.sha2.specs.Sha256.{sha256}
use Rattle.redo_digest.specs.Digest.{State}
use Rattle.redo_tree.specs.Tree.{Tree, file_at, node_at, without}
use Rattle.redo_which.specs.Candidates.{book_path}
use Rattle.redo_which.specs.Rule.{found_of, is_rule}
use Rattle.redo_book.specs.Book.{IsRefused, IsText, Record, record_at, targets_of}
use Rattle.redo_book.specs.Intact.{is_intact}
use Rattle.redo_book.specs.declared.faults.BookFault.{BookFault}
use Rattle.redo_book.specs.declared.faults.BookFault.TheVariants.{Line, Memory}

-- there is a file, and this is its digest
abbrev pub has_digest : Option (List ℕ) → State → Bool
has_digest None state = false
has_digest (Some bytes) None = false
has_digest (Some bytes) (Some digest) = bytes_eq (sha256 bytes) digest

-- the file at a record's target has the digest that the record has
abbrev pub is_generated : Tree → Record → Bool
is_generated tree r = has_digest (file_at tree r.target) r.state

-- the paths of the files that aren't sources: the book's, and those of generated files
abbrev pub set_aside : Tree → List Record → List (List ℕ)
set_aside tree book = book_path ∷ targets_of (filter (is_generated tree) book)

-- the tree as it was read, the sources in it, and the book of the last run
pub record PastView : Type 0 where
  pub tree : Tree
  pub sources : Tree
  pub book : List Record

-- the record of a target that is as the last run left it
abbrev pub intact_record : PastView → List ℕ → Option Record
intact_record past target =
    option_and_then (λ r. if is_intact (file_at past.tree) r then Some r else None) (record_at past.book target)

-- nothing is at the path, and no rule makes anything there
abbrev pub is_free : Tree → List ℕ → Bool
is_free sources p = is_none (node_at sources p) && not (is_rule (found_of sources p))

-- the book that a file has the text of; without one it is empty
abbrev pub IsBookOf : Option (List ℕ) → List Record → Type 0
IsBookOf file book = MatchOption file (book ≡ []) (λ text. IsText text book)

-- the book is that of the tree; the sources are the tree without what is set aside
pub record IsPast (past : PastView) : Type 0 where
  pub book : IsBookOf (file_at past.tree book_path) past.book
  pub sources : past.sources ≡ without past.tree (set_aside past.tree past.book)

-- the tree has a text of a book in which this is the first line at fault, unless memory ran out
abbrev pub RefusesBook : BookFault → Tree → Type 0
RefusesBook (Line n) tree = (text : List ℕ) × (file_at tree book_path ≡ Some text) × IsRefused text n
RefusesBook Memory tree = Unit {0}

-- the tree has no past, unless memory ran out
abbrev pub HasNoPast : BookFault → Tree → Type 0
HasNoPast (Line n) tree = (past : PastView) → IsPast past → past.tree ≡ tree → ⊥
HasNoPast Memory tree = Unit {0}
