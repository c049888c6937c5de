-- What a clean would remove and keep.
use Rattle.std.specs.Prelude.{◌≡◌, ◌&&◌, not, ℕ, Bool, List, Option, None, filter, filter_map, if◌then◌else◌, is_some, option_map}
use Rattle.redo_names.specs.Paths.{IsAmong}
use Rattle.redo_tree.specs.Tree.{Tree, file_at}
use Rattle.redo_book.specs.Book.{Record, targets_of}
use Rattle.redo_past.specs.Past.{PastView, is_generated}

-- a file: its path and its bytes
abbrev pub File : Type 0
File = List ℕ × List ℕ

-- the file at a record's target, if it is generated
abbrev pub generated_file : Tree → Record → Option File
generated_file tree r = if is_generated tree r then option_map (λ bytes. (r.target, bytes)) (file_at tree r.target) else None

-- the generated files, in path order
abbrev pub generated_files : PastView → List File
generated_files past = filter_map (generated_file past.tree) past.book

-- a file stands at a record's target, and it isn't generated
abbrev pub is_changed : Tree → Record → Bool
is_changed tree r = is_some (file_at tree r.target) && not (is_generated tree r)

-- the targets of the book whose files were changed, in path order
abbrev pub changed_targets : PastView → List (List ℕ)
changed_targets past = targets_of (filter (is_changed past.tree) past.book)

-- two pasts have one book, and the same file, or none, at each of its targets
pub record HaveSameTargets (one two : PastView) : Type 0 where
  pub book : two.book ≡ one.book
  pub files : (p : List ℕ) → IsAmong (targets_of one.book) p → file_at two.tree p ≡ file_at one.tree p
