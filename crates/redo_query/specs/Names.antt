-- What the book of the last run knows: which targets stand, which paths their records name, and who needs a path.
use Rattle.std.specs.Prelude.{◌&&◌, Bool, false, ℕ, List, ◌∷◌, Option, filter, filter_map, flat_map, is_some, Some, None}
use Rattle.std.specs.Cmp.Lexicographic.{slice_cmp}
use Rattle.std.specs.List.{list_any}
use Rattle.std.specs.List.Sorted.{IsStrictlySortedBy}
use Rattle.std.specs.Map.{keys_of}
use Rattle.std.specs.Ordering.{nat_cmp}
use Rattle.std.specs.Str.{bytes_eq}
use Rattle.redo_names.specs.Paths.{IsAmong}
use Rattle.redo_tree.specs.Tree.{Node, bytes_of, file_at}
use Rattle.redo_book.specs.Book.{Record, targets_of}
use Rattle.redo_book.specs.Intact.{is_intact}
use Rattle.redo_book.specs.declared.book.BookEntry.{BookEntry}
use Rattle.redo_book.specs.declared.book.BookEntry.TheVariants.{Change, Create, Always}
use Rattle.redo_past.specs.Past.{PastView}

-- the path that an entry names; `always` names none
abbrev pub path_in : BookEntry → Option (List ℕ)
path_in (Change state path) = Some path
path_in (Create path) = Some path
path_in Always = None

-- whether an entry names a path
abbrev pub is_of : List ℕ → BookEntry → Bool
is_of path (Change state other) = bytes_eq other path
is_of path (Create other) = bytes_eq other path
is_of path Always = false

-- whether a record names a path
abbrev pub names : List ℕ → Record → Bool
names path r = list_any (is_of path) r.entries

-- the records whose targets stand as the last run left them
abbrev pub standing : PastView → List Record
standing past = filter (is_intact (file_at past.tree)) past.book

-- the targets that stand as the last run left them, in path order
abbrev pub standing_targets : PastView → List (List ℕ)
standing_targets past = targets_of (standing past)

-- the entry is a file that one of these records names
abbrev pub is_named_file : List Record → List ℕ × Node → Bool
is_named_file rs e = is_some (bytes_of e.1) && list_any (names e.0) rs

-- the sources that these targets depend on, in path order
abbrev pub named_sources : PastView → List (List ℕ)
named_sources past = keys_of (filter (is_named_file (standing past)) past.sources)

-- the targets whose records name a path, in path order
abbrev pub users : List Record → List ℕ → List (List ℕ)
users book path = targets_of (filter (names path) book)

-- a target needs a path: its record names the path, or a target that needs it
pub data Needs (book : List Record) (path : List ℕ) : List ℕ → Type 0 where
  Itself : {target : List ℕ} → IsAmong (users book path) target → Needs book path target
  Through : {target mid : List ℕ} → Needs book path mid → IsAmong (users book mid) target → Needs book path target

-- these are the targets that need a path, in path order, each once
pub record AreNeeding (book : List Record) (path : List ℕ) (targets : List (List ℕ)) : Type 0 where
  pub each : (target : List ℕ) → IsAmong targets target → Needs book path target
  pub all : (target : List ℕ) → Needs book path target → IsAmong targets target
  pub sorted : IsStrictlySortedBy (slice_cmp nat_cmp) targets

-- a record's target, and the paths that it names
abbrev pub names_in : Record → List (List ℕ)
names_in r = r.target ∷ filter_map path_in r.entries

-- all names that a book knows, as they follow one another in it
abbrev pub known_names : List Record → List (List ℕ)
known_names book = flat_map names_in book
