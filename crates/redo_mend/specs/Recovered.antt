-- The book that is put together of the old one and the journal, where a run was broken off while it stored.
use Rattle.std.specs.Prelude.{◌≡◌, ℕ, List, Option, Some, None, filter, if◌then◌else◌, option_and_then}
use Rattle.std.specs.Option.{option_or}
use Rattle.redo_tree.specs.Tree.{Tree, file_at}
use Rattle.redo_book.specs.Book.{IsBook, Record, record_at, targets_of}
use Rattle.redo_book.specs.Intact.{is_intact}
use Rattle.redo_past.specs.Past.{is_generated}

-- a book's record of a path, where the file there is as that says
abbrev pub said_at : Tree → List Record → List ℕ → Option Record
said_at tree book p = option_and_then (λ r. if is_intact (file_at tree) r then Some r else None) (record_at book p)

-- the recovered record of a path: the journal's where the file is as that says, else the old book's where the file is as
-- that says, else none
abbrev pub recovered_at : Tree → List Record → List Record → List ℕ → Option Record
recovered_at tree journal old p = option_or (said_at tree journal p) (said_at tree old p)

-- the files that stand in a tree as a journal tells, in its order
abbrev pub standing_by : Tree → List Record → List (List ℕ)
standing_by tree journal = targets_of (filter (is_generated tree) journal)

-- the book that is recovered of a tree, a journal and an old book
pub record IsRecovered (tree : Tree) (journal old book : List Record) : Type 0 where
  pub ordered : IsBook book
  pub records : (p : List ℕ) → record_at book p ≡ recovered_at tree journal old p
