-- What the new book is made of.
use Rattle.std.specs.Prelude.{◌≡◌, ◌≢◌, ◌<◌, ◌≤◌, Bool, true, false, not, ◌&&◌, List, [], ◌∷◌, ◌++◌, ℕ, Option, Some, None}
use Rattle.std.specs.Prelude.{if◌then◌else◌, All, codes, filter, filter_map, flat_map, is_some, length, map, take}
use Rattle.std.specs.Cmp.Lexicographic.{slice_cmp}
use Rattle.std.specs.Global.{Vec}
use Rattle.std.specs.List.{AllByRecursion, insert}
use Rattle.std.specs.Ordering.{is_lt, nat_cmp}
use Rattle.std.specs.Vec.{vec_capacity, vec_len}
use Rattle.std.proofs.Common.{refl, subst, sym}
use Rattle.std.proofs.Math.Nat.{min-le_left}
use Rattle.std.proofs.lemmas.List.{length-take}
use Rattle.redo_tree.specs.Tree.{Tree, file_at}
use Rattle.redo_which.specs.Rule.{found_of, is_rule}
use Rattle.redo_record.specs.declared.deps.Dep.{Dep}
use Rattle.redo_book.specs.declared.book.BookEntry.{BookEntry}
use Rattle.redo_book.specs.Book.{IsEntry, IsRecord, Record, book_lines, entry_line, record_lines, text_of}
use Rattle.redo_book.specs.Noted.{is_top, noted}
use Rattle.redo_report.specs.ReportText.{file_text, head_text}
use Rattle.redo_report.specs.Reports.{AreAscending}
use Rattle.redo_report.specs.declared.report.Report.{Report}
use Rattle.redo_report.specs.declared.report.Row.{Row}
use Rattle.redo_which.specs.Candidates.{book_path}
use Rattle.redo_past.specs.NewBook.{is_built, notable, record_of_row, row_at, state_after, with_file}
use Rattle.redo_past.specs.Past.{PastView}
use Rattle.redo_past.specs.declared.items.BookItem.{BookItem}
use Rattle.redo_past.specs.declared.items.BookItem.TheVariants as items

-- rows in path order
abbrev pub AreRows : List Row → Type 0
AreRows rows = AreAscending (map (λ row. row.path) rows)

-- the set has the paths of the rows, each at the index of its row
abbrev pub FindsRows : List (List ℕ) → List Row → Type 0
FindsRows numbers rows = numbers ≡ map (λ row. row.path) rows

-- the sources, and the rows of a run
pub record StatesView : Type 0 where
  pub sources : Tree
  pub rows : List Row

-- what is at each path when a run ends with these rows
abbrev pub states_after : PastView → List Row → StatesView
states_after past rows = record { sources = past.sources; rows = rows }

-- the entries of a record, as a book has them
abbrev pub noted_in : StatesView → List Dep → List BookEntry
noted_in states deps = noted (state_after states.sources states.rows) (notable deps)

-- the lines of these entries
abbrev pub noted_text : StatesView → List Dep → List ℕ
noted_text states deps = text_of (map entry_line (noted_in states deps))

-- these lines have exactly n bytes, and a book can have each entry
pub record AreSized (states : StatesView) (deps : List Dep) (n : ℕ) : Type 0 where
  pub size : n ≡ length (noted_text states deps)
  pub each : AllByRecursion IsEntry (noted_in states deps)

-- whether a row's target was built and isn't the top directory
abbrev pub leaves_record : Row → Bool
leaves_record row = is_built row.outcome && not (is_top row.path)

-- the record of a row, if its target was built
abbrev pub record_if_built : Tree → List Row → Row → Option Record
record_if_built sources rows row =
    if leaves_record row then Some (record_of_row sources rows row) else None

-- the records of the targets that were built
abbrev pub built_records : Tree → List Row → List Record
built_records sources rows = filter_map (record_if_built sources rows) rows

-- whether there is a row of a target that was built
abbrev pub has_built : Option Row → Bool
has_built None = false
has_built (Some row) = is_built row.outcome

-- whether two truth values are the same
abbrev pub same_answer : Bool → Bool → Bool
same_answer true b = b
same_answer false b = not b

-- whether a record is carried into the new book, given that its target's file is no source
abbrev pub carries : PastView → List Row → Record → Bool
carries past rows r =
    same_answer (is_some r.state) (is_some (file_at past.tree r.target)) && (not (has_built (row_at rows r.target)) &&
    is_rule (found_of past.sources r.target))

-- whether a record's target comes before a path
abbrev pub is_before : List ℕ → Record → Bool
is_before path r = is_lt (slice_cmp nat_cmp r.target path)

-- whether it doesn't
abbrev pub is_behind : List ℕ → Record → Bool
is_behind path r = not (is_before path r)

-- new records, and the old ones that `keeps` picks, in one order
abbrev pub joined : (Record → Bool) → List Record → List Record → List Record
joined keeps [] old = filter keeps old
joined keeps (r ∷ built) old =
    filter keeps (filter (is_before r.target) old) ++ r ∷ joined keeps built (filter (is_behind r.target) old)

-- the records of the new book
abbrev pub new_records : PastView → List Row → List Record
new_records past rows = joined (carries past rows) (built_records past.sources rows) past.book

-- the text of the new book
abbrev pub new_text : PastView → List Row → List ℕ
new_text past rows = text_of (book_lines (new_records past rows))

-- the text of a record
abbrev pub record_text : Record → List ℕ
record_text r = text_of (record_lines r)

-- the text begins with this one
abbrev pub BeginsWith : List ℕ → List ℕ → Type 0
BeginsWith text front = (rest : List ℕ) × (text ≡ front ++ rest)

-- the record that is made of an item
abbrev pub record_in : StatesView → BookItem → Record
record_in states (items.Built row) = record_of_row states.sources states.rows row.now
record_in states (items.Carried r) = r

-- the lines of that record
abbrev pub item_text : StatesView → BookItem → List ℕ
item_text states item = text_of (record_lines (record_in states item))

-- a book can have a record of the item
abbrev pub IsSound : BookItem → Type 0
IsSound (items.Built row) = row.now.path ≢ []
IsSound (items.Carried r) = IsRecord r

-- these records are made of the items
pub record AreItems (states : StatesView) (list : List BookItem) (records : List Record) : Type 0 where
  pub are : map (record_in states) list ≡ records
  pub sound : AllByRecursion IsSound list

-- the first n items are at most n
pub take-within : {X : Type 0} (n : ℕ) (xs : List X) → length (take n xs) ≤ n
take-within n xs = subst (λ k. k ≤ n) (sym (length-take n xs)) (min-le_left n (length xs))

-- a vector after an item was put at this index, as far as it has room
abbrev pub with_more : {X : Type 0} → Vec X → ℕ → X → Vec X
with_more v i x =
    let items = take v.cap (insert v.items i x) in
    record {
      ptr = v.ptr;
      len = length items;
      cap = v.cap;
      alloc = v.alloc;
      items = items;
      ok = (refl, take-within v.cap (insert v.items i x));
      small = v.small;
    }

-- the report with this text as that of the book, which is put at this index among the files
abbrev pub with_book_text : Report → ℕ → List ℕ → Report
with_book_text report at text =
    record { rows = report.rows; files = with_more report.files at (book_path, text); begun = report.begun }

-- the report with the text of the new book
abbrev pub with_new_book : PastView → Report → ℕ → Report
with_new_book past report at = with_book_text report at (new_text past report.rows.items)

-- the text of a report with this text as that of the book, which is put at this index among the files
abbrev pub text_with_book : Report → ℕ → List ℕ → List ℕ
text_with_book report at text =
    head_text report ++ flat_map file_text (insert report.files.items at (book_path, text)) ++ codes "end\n"

-- no file has this path, and there is room for one more, whose place in path order is this index
pub record HasPlace (files : Vec (List ℕ × List ℕ)) (path : List ℕ) (at : ℕ) : Type 0 where
  pub none : All (λ file. file.0 ≢ path) files.items
  pub room : vec_len files < vec_capacity files
  pub within : at ≤ length files.items
  pub place : (bytes : List ℕ) → insert files.items at (path, bytes) ≡ with_file files.items path bytes

-- the rows are in order and have these paths, the book has its place among the files, and its text has exactly n bytes
pub record IsRunReport (past : PastView) (report : Report) (numbers : List (List ℕ)) (at n : ℕ) : Type 0 where
  pub rows : AreRows report.rows.items
  pub numbered : FindsRows numbers report.rows.items
  pub place : HasPlace report.files book_path at
  pub size : n ≡ length (new_text past report.rows.items)
