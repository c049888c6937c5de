-- What a directory counts as that may not be listed.
use Rattle.std.specs.Prelude.{◌≡◌, ◌≢◌, ◌⊎◌, Bool, false, ℕ, List, [], Option, is_some}
use Rattle.std.specs.List.{list_any}
use Rattle.std.specs.declared.io.ErrorKind.{ErrorKind}
use Rattle.std.specs.declared.io.ErrorKind.TheVariants.{PermissionDenied}
use Rattle.redo_path.specs.Names.{below_of}
use Rattle.redo_which.specs.Candidates.{book_path, journal_path}
use Rattle.redo_book.specs.Book.{IsText, Record}
use Rattle.redo_dir.specs.Loaded.{Looks, Reads}
use Rattle.redo_dir.specs.declared.work_dir.Seen.TheVariants.{File}

-- whether a record's target is in this directory or below it
abbrev pub has_target_below : List ℕ → List Record → Bool
has_target_below dir book = list_any (λ r. is_some (below_of r.target dir)) book

-- no book of this text has a target there
abbrev pub HasNoneBelow : List ℕ → List ℕ → Type 0
HasNoneBelow dir text = (book : List Record) → IsText text book → has_target_below dir book ≡ false

-- nothing stands at this place, or a file that was read, and is no book with a target in the directory
abbrev pub NamesNoneBelow : Looks → Reads → (List ℕ → Type 0) → List ℕ → List ℕ → Type 0
NamesNoneBelow looks reads lacks dir place =
    lacks place ⊎
    ((size : ℕ) × (text : List ℕ) × looks place (File size) × reads place size text × HasNoneBelow dir text)

-- a directory below the top wasn't listed, as that isn't permitted, and counts as empty; neither the book nor the journal has
-- a target there
pub record IsHidden (looks : Looks) (reads : Reads) (lacks : List ℕ → Type 0) (refuses : List ℕ → ErrorKind → Type 0) (dir : List ℕ) (names : List (Option (List ℕ))) : Type 0 where
  pub below : dir ≢ []
  pub closed : refuses dir PermissionDenied
  pub empty : names ≡ []
  pub book : NamesNoneBelow looks reads lacks dir book_path
  pub journal : NamesNoneBelow looks reads lacks dir journal_path

-- a directory was listed, and these are its names; or it is hidden
abbrev pub ListsOrHides : (List ℕ → List (Option (List ℕ)) → Type 0) → Looks → Reads → (List ℕ → Type 0) → (List ℕ → ErrorKind → Type 0) → List ℕ → List (Option (List ℕ)) → Type 0
ListsOrHides lists looks reads lacks refuses dir names = lists dir names ⊎ IsHidden looks reads lacks refuses dir names
