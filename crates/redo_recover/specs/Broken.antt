-- What a run leaves that was broken off while it stored its files.
use Rattle.std.specs.Prelude.{◌≡◌, ◌≢◌, ◌⊎◌, true, false, ℕ, zero, suc, List, Some, None}
use Rattle.std.specs.Prelude.{Contains}
use Rattle.redo_tree.specs.Tree.{Directory, File, IsTree, Tree, file_at, node_at}
use Rattle.redo_which.specs.Candidates.{book_path, journal_path}
use Rattle.redo_book.specs.Book.{Record, book_lines, text_of}
use Rattle.redo_past.specs.Past.{IsPast, PastView}
use Rattle.redo_report.specs.declared.report.Report.{Report}
use Rattle.redo_rules.specs.Build.{GivenView}
use Rattle.redo_rules.specs.Results.{IsResult}
use Rattle.redo_rules.specs.TreeSources.{IsTrueOfTrees, IsUnconfused}
use Rattle.redo_mend.specs.Mended.{IsMended}
use Rattle.redo_dir.specs.Own.{is_own}
use Rattle.redo_mend.specs.Recovered.{IsRecovered, said_at}

-- the run was to store this file, and may: it built it, and no directory stands there
pub record MayStore (given : GivenView) (result : Report) (is : IsResult given result) (p bytes : List ℕ) : Type 0 where
  pub built : Contains is.report.files.items (p, bytes)
  pub no_directory : node_at given.past.tree p ≢ Some Directory

-- the path has what it had in the tree that the run read, or the file that the run stored there
abbrev pub IsLeftAt : (given : GivenView) (result : Report) → IsResult given result → Tree → List ℕ → Type 0
IsLeftAt given result is broken p =
    (node_at broken p ≡ node_at given.past.tree p) ⊎
    ((bytes : List ℕ) × MayStore given result is p bytes × (node_at broken p ≡ Some (File bytes)))

-- the text of the journal of a run: that of its new book
abbrev pub journal_of : (given : GivenView) (result : Report) → IsResult given result → List ℕ
journal_of given result is = text_of (book_lines is.with_book.book)

-- a run was broken off while it stored: its new book is there, whole, as the journal; the book is the old one; each
-- other path has what it had or what was to be stored, in any combination; and where the program put files of its own
-- nothing stood before
pub record IsBrokenOff (given : GivenView) (result : Report) (is : IsResult given result) (broken : Tree) : Type 0 where
  pub is_tree : IsTree broken
  pub journal : file_at broken journal_path ≡ Some (journal_of given result is)
  pub book : node_at broken book_path ≡ node_at given.past.tree book_path
  pub own : (p : List ℕ) → p ≢ book_path → is_own (journal_of given result is) p ≡ true → node_at given.past.tree p ≡ None
  pub files : (p : List ℕ) → p ≢ book_path → is_own (journal_of given result is) p ≡ true → node_at broken p ≢ Some Directory
  pub others : (p : List ℕ) → p ≢ book_path → is_own (journal_of given result is) p ≡ false →
      IsLeftAt given result is broken p

-- a run goes on with a tree in whose book's place no directory stands
pub record IsStart (past : PastView) : Type 0 where
  pub is_tree : IsTree past.tree
  pub is_past : IsPast past
  pub book_place : node_at past.tree book_path ≢ Some Directory

-- the past that a run goes on with over a tree, after a run whose new book is the journal there. Whoever has written
-- into the tree in between
pub record GoesOn (given : GivenView) (result : Report) (is : IsResult given result) (now : Tree) (past : PastView) : Type 0 where
  pub book : List Record
  pub recovered : IsRecovered now is.with_book.book given.past.book book
  pub mended : IsMended now (journal_of given result is) book past.tree
  pub is_past : IsPast past

-- one run after another was broken off, so many, and nobody wrote in between: from the one past to the other
pub record BreaksOff (file_bytes : ℕ) (before after : PastView) : Type 0 where
  pub given : GivenView
  pub from : given.past ≡ before
  pub limit : given.limits.file_bytes ≡ file_bytes
  pub result : Report
  pub is : IsResult given result
  pub broken : Tree
  pub off : IsBrokenOff given result is broken
  pub on : GoesOn given result is broken after

abbrev pub BreakOff : ℕ → ℕ → PastView → PastView → Type 0
BreakOff zero file_bytes before after = after ≡ before
BreakOff (suc n) file_bytes before after =
    (mid : PastView) × BreaksOff file_bytes before mid × BreakOff n file_bytes mid after

-- a record is honest in a build
abbrev pub IsHonestIn : GivenView → Record → Type 0
IsHonestIn given r = (is : IsTrueOfTrees given.limits.file_bytes r) × IsUnconfused given r is

-- the records of a book are honest in a build, where the files of a tree are as they say
abbrev pub AreHonestWhereSaid : GivenView → Tree → List Record → Type 0
AreHonestWhereSaid given tree book = (p : List ℕ) (r : Record) → said_at tree book p ≡ Some r → IsHonestIn given r
