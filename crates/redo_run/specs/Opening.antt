-- What a directory is opened as that is asked about, and isn't built.
use Rattle.std.specs.Prelude.{◌≡◌, ◌⊎◌, Bool, ℕ, List, Option, IfSome, is_some, option_map}
use Rattle.std.specs.declared.io.ErrorKind.{ErrorKind}
use Rattle.redo_tree.specs.Tree.{IsTree, Tree, file_at}
use Rattle.redo_which.specs.Candidates.{book_path, journal_path}
use Rattle.redo_record.specs.Paths.{IsAmong}
use Rattle.redo_book.specs.declared.faults.BookFault.{BookFault}
use Rattle.redo_book.specs.declared.faults.BookFault.TheVariants as faults
use Rattle.redo_dir.specs.Loaded.{IsLoaded, Leads, Looks, ReadIf, Reads}
use Rattle.redo_dir.specs.declared.clearing.Left.{Left}
use Rattle.redo_mend.specs.Mended.{MendsTo, book_to_put, own_files}
use Rattle.redo_past.specs.Past.{IsPast, PastView, RefusesBook}
use Rattle.redo_reads.specs.Reads.{AgreeOn, AreNamedAlike, ArePastsAlike, HasBook, named_in}
use Rattle.redo_run.specs.Directories.{AreFilesOrNone, IsUnreadable}
use Rattle.redo_run.specs.Reading.{MendsAlike}
use Rattle.redo_run.specs.declared.opening.Opened.{Opened}
use Rattle.redo_run.specs.declared.dir_fault.RunDirFault.{RunDirFault}
use Rattle.redo_run.specs.declared.dir_fault.RunDirFault.TheVariants.{Load, Book, Memory}

-- what a broken-off run has left in a tree that is mended to this one: the journal, the text to put in the book's place and
-- the files to clear away; nothing, where there is no journal
pub record HasLeft (loaded mended : Tree) (left : Option Left) : Type 0 where
  pub journal : option_map (λ l. l.journal) left ≡ file_at loaded journal_path
  pub book : IfSome left (λ l. l.book ≡ book_to_put loaded mended)
  pub own : IfSome left (λ l. l.own.items ≡ own_files loaded mended)

-- this was opened of a tree that was loaded: the past of the tree that it is mended to, what is left of a broken-off run,
-- and whether there was a book before
pub record IsOpenedOf (loaded : Tree) (passed : ℕ) (opened : Opened) : Type 0 where
  pub is_tree : IsTree loaded
  pub mends : MendsTo loaded opened.past.tree
  pub mended : IsTree opened.past.tree
  pub past : IsPast opened.past
  pub left : HasLeft loaded opened.past.tree opened.left
  pub over : opened.over ≡ is_some (file_at loaded book_path)
  pub counted : opened.passed ≡ passed

-- where the book of a past names a path, another past's tree has the same file, or none, too
abbrev pub HasSameFiles : PastView → PastView → Type 0
HasSameFiles past other = (p : List ℕ) → IsAmong (named_in past.book) p → file_at other.tree p ≡ file_at past.tree p

-- What the files at these paths decide, whatever is in the others: each tree with the same names that agrees on them is
-- mended as this one is, has a past that is alike, with the same files where the book names them, and the same is left in
-- it of a broken-off run.
abbrev pub DecidesOpened : (List ℕ → Bool) → Tree → Opened → Type 0
DecidesOpened paths loaded opened =
    (tree : Tree) → IsTree tree → AreNamedAlike loaded tree → AgreeOn paths loaded tree →
    (other : PastView) × MendsAlike paths opened.past.tree tree other.tree × ArePastsAlike opened.past other ×
    HasSameFiles opened.past other × HasLeft tree other.tree opened.left

-- A tree was loaded with the files at some paths, and each other one empty, and this was opened of it. What was read has
-- the book and what it names, and decides what is opened.
pub record IsOpened (lists : List ℕ → List (Option (List ℕ)) → Type 0) (looks : Looks) (reads : Reads) (lacks : List ℕ → Type 0) (opened : Opened) : Type 0 where
  pub paths : List ℕ → Bool
  pub loaded : Tree
  pub is_loaded : IsLoaded lists (Leads looks (ReadIf paths reads)) loaded opened.passed
  pub own : AreFilesOrNone lacks loaded
  pub is : IsOpenedOf loaded opened.passed opened
  pub has_book : HasBook paths opened.past.tree opened.past.book
  pub decides : DecidesOpened paths loaded opened

-- a tree isn't opened: its book is refused for this line, or that of the tree that it is mended to, unless memory ran out
abbrev pub IsUnopenedOf : Tree → BookFault → Type 0
IsUnopenedOf loaded fault =
    RefusesBook fault loaded ⊎ ((mended : Tree) × MendsTo loaded mended × RefusesBook fault mended)

-- a tree was loaded with all of its files, and isn't opened for this fault of its book
pub record RefusesLoaded (lists : List ℕ → List (Option (List ℕ)) → Type 0) (looks : Looks) (reads : Reads) (fault : BookFault) : Type 0 where
  pub loaded : Tree
  pub passed : ℕ
  pub is_loaded : IsLoaded lists (Leads looks reads) loaded passed
  pub refused : IsUnopenedOf loaded fault

-- why a directory isn't opened: it can't be read, or all of its files were and its book is refused for this line
abbrev pub IsUnopened : (List ℕ → List (Option (List ℕ)) → Type 0) → Looks → Reads → (List ℕ → ErrorKind → Type 0) → RunDirFault → Type 0
IsUnopened lists looks reads refuses Load = IsUnreadable lists looks reads refuses
IsUnopened lists looks reads refuses (Book n) = RefusesLoaded lists looks reads (faults.Line n)
IsUnopened lists looks reads refuses Memory = Unit {0}
IsUnopened lists looks reads refuses _ = ⊥
