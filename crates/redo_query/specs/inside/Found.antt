-- The targets that were found to need a path.
use Rattle.std.specs.Prelude.{◌≡◌, ◌⊎◌, Bool, true, false, ℕ, List}
use Rattle.std.specs.List.{AllByRecursion}
use Rattle.std.specs.Option.{option_map_or}
use Rattle.redo_names.specs.Paths.{IsAmong, is_among}
use Rattle.redo_book.specs.Book.{Record}
use Rattle.redo_book.specs.declared.book.BookEntry.{BookEntry}
use Rattle.redo_query.specs.Names.{Needs, names, path_in}

-- each of these needs the path
abbrev pub AllNeed : List Record → List ℕ → List (List ℕ) → Type 0
AllNeed book path found = (target : List ℕ) → IsAmong found target → Needs book path target

-- the record names the path, or one that was found
abbrev pub NeedsBy : List (List ℕ) → List ℕ → Record → Type 0
NeedsBy found path r = (names path r ≡ true) ⊎ ((mid : List ℕ) × IsAmong found mid × (names mid r ≡ true))

-- the targets of all these records that need the path by what was found were found themselves
abbrev pub IsClosed : List Record → List ℕ → List (List ℕ) → Type 0
IsClosed records path found = AllByRecursion (λ r. NeedsBy found path r → IsAmong found r.target) records

-- the entry names one of those that were found
abbrev pub names_one : List (List ℕ) → BookEntry → Bool
names_one found e = option_map_or (is_among found) (path_in e) false
