-- What a run over a directory stores, and the steps by which it does.
use Rattle.std.specs.Prelude.{◌≡◌, ◌++◌, ◌⊎◌, Bool, not, IsUtf8, ℕ, List, [], ◌∷◌, Option, Some, None, filter}
use Rattle.std.specs.Prelude.{if◌then◌else◌, is_some, nat_eq, slice_get, take}
use Rattle.std.specs.Cmp.Lexicographic.{pointwise}
use Rattle.std.specs.Option.{option_eq}
use Rattle.std.specs.declared.io.ErrorKind.{ErrorKind}
use Rattle.redo_tree.specs.Tree.{Tree, file_at}
use Rattle.redo_which.specs.Candidates.{book_path, journal_path}
use Rattle.redo_dir.specs.Stored.{Finishes, Journals, Puts, Removes, Step}
use Rattle.redo_dir.specs.Storing.{steps_to_store}
use Rattle.redo_mend.specs.Mended.{clearing as clearing_over}

-- the tree has the file as it is
abbrev pub stands_in : Tree → List ℕ × List ℕ → Bool
stands_in tree f = option_eq (pointwise nat_eq) (file_at tree f.0) (Some f.1)

-- the files that the tree doesn't have as they are
abbrev pub others_from : Tree → List (List ℕ × List ℕ) → List (List ℕ × List ℕ)
others_from tree files = filter (λ f. not (stands_in tree f)) files

-- this text of a new book and these files; nothing where there is no file and the tree has the book
abbrev pub if_new : Tree → List ℕ → List (List ℕ × List ℕ) → Option (List ℕ × List (List ℕ × List ℕ))
if_new tree book [] = if stands_in tree (book_path, book) then None else Some (book, [])
if_new tree book (f ∷ fs) = Some (book, f ∷ fs)

-- what a run stores of the files of a report and the text of the new book: the text and the files that the tree doesn't
-- have as they came out, or nothing where it has all of them
abbrev pub to_store : Tree → List (List ℕ × List ℕ) → List ℕ → Option (List ℕ × List (List ℕ × List ℕ))
to_store tree files book = if_new tree book (others_from tree files)

-- the steps by which that is stored
abbrev pub storing : Tree → Option (List ℕ × List (List ℕ × List ℕ)) → List Step
storing tree None = []
storing tree (Some (book, files)) = steps_to_store tree book files

-- the steps by which is cleared away what a broken-off run has left in a tree that was loaded, which is mended so: none
-- where it has no journal
abbrev pub clearing : Tree → Tree → List Step
clearing loaded mended = clearing_over (is_some (file_at loaded book_path)) loaded mended

-- the path at which a step is done
abbrev pub path_of : Step → List ℕ
path_of (Journals text) = journal_path
path_of (Puts path bytes over) = path
path_of Finishes = book_path
path_of (Removes path) = path

-- The first N steps of a list were done, and the next one wasn't: a call at its path was refused, or its path is no text.
pub record StopsAt (told : List ℕ → ErrorKind → Type 0) (steps before after : List Step) (count : ℕ) : Type 0 where
  pub done : after ≡ before ++ take count steps
  pub step : Step
  pub next : slice_get steps count ≡ Some step
  pub why : (IsUtf8 (path_of step) → ⊥) ⊎ ((kind : ErrorKind) × told (path_of step) kind)
