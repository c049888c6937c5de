-- The book that a run leaves.
use Rattle.std.specs.Prelude.{◌≡◌, ◌≢◌, ◌↔◌, ◌⊎◌, Bool, true, false, ℕ, List, [], Option, All, Contains}
use Rattle.std.specs.Prelude.{filter, find, option_and_then}
use Rattle.std.specs.Arc.{arc_value}
use Rattle.std.specs.BTreeMap.{insert_entry}
use Rattle.std.specs.Cmp.Lexicographic.{slice_cmp}
use Rattle.std.specs.Option.{option_or}
use Rattle.std.specs.Ordering.{nat_cmp}
use Rattle.std.specs.Str.{bytes_eq}
use Rattle.redo_digest.specs.Digest.{State, state_of}
use Rattle.redo_tree.specs.Tree.{Tree, file_at}
use Rattle.redo_which.specs.Candidates.{book_path}
use Rattle.redo_which.specs.Rule.{found_of, is_rule}
use Rattle.redo_record.specs.Answers.{file_in}
use Rattle.redo_record.specs.declared.deps.Dep.{Dep}
use Rattle.redo_record.specs.declared.outcome.Outcome.{Outcome}
use Rattle.redo_record.specs.declared.outcome.Outcome.TheVariants.{Source, Built, Failed, Cyclic}
use Rattle.redo_book.specs.Book.{IsBook, Record, book_lines, text_of}
use Rattle.redo_book.specs.Noted.{is_notable, new_record}
use Rattle.redo_report.specs.declared.report.Report.{Report}
use Rattle.redo_report.specs.declared.report.Row.{Row}
use Rattle.redo_past.specs.Past.{PastView}

-- the row of a path, if there is one
abbrev pub row_at : List Row → List ℕ → Option Row
row_at rows path = find (λ row. bytes_eq row.path path) rows

-- the bytes that a path was built with, if it was built with a file
abbrev pub built_at : List Row → List ℕ → Option (List ℕ)
built_at rows path = option_and_then (λ row. file_in row.outcome) (row_at rows path)

-- the state of a path when a run ends: that of the source, else that of the file that was built, else none
abbrev pub state_after : Tree → List Row → List ℕ → State
state_after sources rows path = state_of (option_or (file_at sources path) (built_at rows path))

-- the entries that a book can have; of a target that was built these are all
abbrev pub notable : List Dep → List Dep
notable deps = filter (λ d. is_notable d.kind d.path) deps

-- the record of a row: what its target came to and depended on
abbrev pub record_of_row : Tree → List Row → Row → Record
record_of_row sources rows row =
    new_record (state_after sources rows) row.path (file_in row.outcome) (notable (arc_value row.deps))

-- whether a target was built
abbrev pub is_built : Outcome → Bool
is_built Source = false
is_built (Built file) = true
is_built (Failed why) = false
is_built Cyclic = false

-- the record of a target that was built, other than the top directory
pub record IsOfRow (sources : Tree) (rows : List Row) (r : Record) : Type 0 where
  pub row : Row
  pub listed : Contains rows row
  pub built : is_built row.outcome ≡ true
  pub below : row.path ≢ []
  pub is : r ≡ record_of_row sources rows row

-- a record of the last run is carried into the new book: its target has a rule, is as the last run left it, and wasn't
-- built by this run
pub record IsCarried (past : PastView) (rows : List Row) (r : Record) : Type 0 where
  pub known : Contains past.book r
  pub rule : is_rule (found_of past.sources r.target) ≡ true
  pub intact : state_of (file_at past.tree r.target) ≡ r.state
  pub unbuilt : (row : Row) → Contains rows row → row.path ≡ r.target → is_built row.outcome ≡ false

-- the book has exactly the records of the targets that were built and those that are carried
pub record IsNewBook (past : PastView) (rows : List Row) (book : List Record) : Type 0 where
  pub ordered : IsBook book
  pub records : (r : Record) → Contains book r ↔ (IsOfRow past.sources rows r ⊎ IsCarried past rows r)

-- the files with this one at its place in path order
abbrev pub with_file : List (List ℕ × List ℕ) → List ℕ → List ℕ → List (List ℕ × List ℕ)
with_file files path bytes = insert_entry (slice_cmp nat_cmp) files path bytes

-- the report with the text of the new book among its files
pub record IsResultOf (past : PastView) (report result : Report) : Type 0 where
  pub rows : result.rows.items ≡ report.rows.items
  pub begun : result.begun.items ≡ report.begun.items
  pub book : List Record
  pub new : IsNewBook past report.rows.items book
  pub files : result.files.items ≡ with_file report.files.items book_path (text_of (book_lines book))

-- the whole report is this one with this text as that of the new book, and no file of this one has the book's path
pub record IsWithBook (report : Report) (book : List ℕ) (whole : Report) : Type 0 where
  pub rows : whole.rows.items ≡ report.rows.items
  pub begun : whole.begun.items ≡ report.begun.items
  pub none : All (λ file. file.0 ≢ book_path) report.files.items
  pub files : whole.files.items ≡ with_file report.files.items book_path book
