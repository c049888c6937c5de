-- What a report rests on: the names of a tree, and the contents of the files that it names.
use Rattle.std.specs.Prelude.{◌≡◌, ℕ, Bool, true, List, [], ◌∷◌, All, Some, flat_map}
use Rattle.std.specs.Arc.{arc_value}
use Rattle.redo_tree.specs.Tree.{IsTree, Tree, file_at, kind_of, node_at}
use Rattle.redo_which.specs.Candidates.{book_path}
use Rattle.redo_which.specs.Rule.{is_file}
use Rattle.redo_record.specs.Entries.{is_entered}
use Rattle.redo_record.specs.Paths.{IsAmong}
use Rattle.redo_record.specs.declared.deps.Dep.{Dep}
use Rattle.redo_record.specs.declared.deps.DepKind.TheVariants.{Change}
use Rattle.redo_book.specs.Book.{Record, record_at, targets_of}
use Rattle.redo_book.specs.declared.book.BookEntry.{BookEntry}
use Rattle.redo_book.specs.declared.book.BookEntry.TheVariants as entries
use Rattle.redo_report.specs.declared.report.Report.{Report}
use Rattle.redo_past.specs.Past.{IsPast, PastView}

-- two trees have the same names: at each path both have a directory, both have a file, or neither has anything
abbrev pub AreNamedAlike : Tree → Tree → Type 0
AreNamedAlike one two = (p : List ℕ) → kind_of (node_at two p) ≡ kind_of (node_at one p)

-- two trees agree on these paths: what file is there, if any, has the same bytes in both
abbrev pub AgreeOn : (List ℕ → Bool) → Tree → Tree → Type 0
AgreeOn paths one two = (p : List ℕ) → paths p ≡ true → file_at two p ≡ file_at one p

-- these paths have each file of the tree at one of those
abbrev pub Covers : (List ℕ → Bool) → Tree → List (List ℕ) → Type 0
Covers paths tree those = (p : List ℕ) → IsAmong those p → is_file tree p ≡ true → paths p ≡ true

-- these paths have each file of the tree that a record has under `change`: the .do file of its target, and the
-- sources that the script declared
abbrev pub HasReads : (List ℕ → Bool) → Tree → List Dep → Type 0
HasReads paths tree deps = (p : List ℕ) → is_entered deps Change p ≡ true → is_file tree p ≡ true → paths p ≡ true

-- a report is covered by these paths: they have what each of its records has
abbrev pub IsCovered : (List ℕ → Bool) → Tree → Report → Type 0
IsCovered paths tree report = All (λ row. HasReads paths tree (arc_value row.deps)) report.rows.items

-- Books

-- the path of an entry under `change`
abbrev pub changed_in : BookEntry → List (List ℕ)
changed_in (entries.Change state path) = path ∷ []
changed_in (entries.Create path) = []
changed_in entries.Always = []

-- the paths of a record that have a state there: its target, and each path under `change`
abbrev pub named_by : Record → List (List ℕ)
named_by r = r.target ∷ flat_map changed_in r.entries

-- the path of a tree's book, and those that its records name
abbrev pub named_in : List Record → List (List ℕ)
named_in book = book_path ∷ flat_map named_by book

-- these paths have each file of the tree that the book names, and the book itself
abbrev pub HasBook : (List ℕ → Bool) → Tree → List Record → Type 0
HasBook paths tree book = Covers paths tree (named_in book)

-- These paths have what a build looks into by its book: the book itself, the files at its targets, and the files that the
-- record of a target names, if the report has a row of it. What only other records name may be unread.
pub record HasChecked (paths : List ℕ → Bool) (tree : Tree) (book : List Record) (report : Report) : Type 0 where
  pub targets : Covers paths tree (book_path ∷ targets_of book)
  pub rows : All (λ row. (r : Record) → record_at book row.path ≡ Some r →
      Covers paths tree (flat_map changed_in r.entries)) report.rows.items

-- Pasts

-- two pasts of trees with the same names that have the same book, and the same file, or none, at each of its targets
pub record ArePastsAlike (past other : PastView) : Type 0 where
  pub is_tree : IsTree past.tree
  pub is_past : IsPast past
  pub other_tree : IsTree other.tree
  pub other_past : IsPast other
  pub named : AreNamedAlike past.tree other.tree
  pub book : other.book ≡ past.book
  pub targets : (p : List ℕ) → IsAmong (targets_of past.book) p → file_at other.tree p ≡ file_at past.tree p
