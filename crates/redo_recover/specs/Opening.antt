-- What a run goes on with, over a directory as it was loaded; and what was written into one in between.
use Rattle.std.specs.Prelude.{◌≡◌, ◌≢◌, ◌⊎◌, ◌↔◌, true, false, ℕ, zero, suc, List, Some, None}
use Rattle.redo_tree.specs.Tree.{Directory, IsTree, Tree, file_at, node_at}
use Rattle.redo_which.specs.Candidates.{book_path, journal_path}
use Rattle.redo_book.specs.Book.{Record}
use Rattle.redo_past.specs.Past.{IsPast, PastView}
use Rattle.redo_report.specs.declared.report.Report.{Report}
use Rattle.redo_rules.specs.Build.{GivenView}
use Rattle.redo_rules.specs.Results.{IsResult}
use Rattle.redo_mend.specs.Mended.{MendsTo}
use Rattle.redo_dir.specs.Own.{is_own}
use Rattle.redo_mend.specs.Recovered.{said_at}
use Rattle.redo_recover.specs.Broken.{IsLeftAt, journal_of}

-- the past that a run goes on with over a tree: that of the mended tree
pub record Opens (tree : Tree) (past : PastView) : Type 0 where
  pub mends : MendsTo tree past.tree
  pub is_past : IsPast past

-- what stands at a path is told of by the journal or by the book beside it
pub record IsToldBy (given : GivenView) (result : Report) (is : IsResult given result) (now : Tree) (p : List ℕ) : Type 0 where
  pub of : Record
  pub said : (said_at now is.with_book.book p ≡ Some of) ⊎ (said_at now given.past.book p ≡ Some of)

-- what stands at a path of a twin is told of by the twin's book
pub record IsTwinTold (before : PastView) (twin : Tree) (p : List ℕ) : Type 0 where
  pub of : Record
  pub said : said_at twin before.book p ≡ Some of

-- at a path nobody wrote; or somebody wrote the same into both trees, and it is told of in the one where it is in the
-- other: so it isn't just what the run was to store
abbrev pub IsSameEdit : (given : GivenView) (result : Report) → IsResult given result → Tree → PastView → Tree → List ℕ → Type 0
IsSameEdit given result is now before twin p =
    (IsLeftAt given result is now p × (node_at twin p ≡ node_at before.tree p)) ⊎
    ((node_at now p ≡ node_at twin p) × (IsToldBy given result is now p ↔ IsTwinTold before twin p))

-- after a run was broken off somebody wrote into the directory, and a twin is what stands where the same was written
-- into a tree in which there was no such run, and whose past was this before. The journal and the book are as the run
-- left them
pub record AreTwins (given : GivenView) (result : Report) (is : IsResult given result) (now : Tree) (before : PastView) (twin : Tree) : Type 0 where
  pub journal : file_at now journal_path ≡ Some (journal_of given result is)
  pub old : node_at now book_path ≡ node_at given.past.tree book_path
  pub is_tree : IsTree twin
  pub book : file_at twin book_path ≡ file_at before.tree book_path
  pub book_place : node_at twin book_path ≢ Some Directory
  pub own : (p : List ℕ) → p ≢ book_path → is_own (journal_of given result is) p ≡ true → node_at twin p ≡ None
  pub files : (p : List ℕ) → p ≢ book_path → is_own (journal_of given result is) p ≡ true → node_at now p ≢ Some Directory
  pub edits : (p : List ℕ) → p ≢ book_path → is_own (journal_of given result is) p ≡ false →
      IsSameEdit given result is now before twin p

-- one run more was broken off, and somebody wrote after it: from pasts of twins to pasts of twins
pub record BreakTwins (before twin_before after twin_after : PastView) : Type 0 where
  pub given : GivenView
  pub from : given.past ≡ before
  pub result : Report
  pub is : IsResult given result
  pub now : Tree
  pub twins : AreTwins given result is now twin_before twin_after.tree
  pub opens : Opens now after
  pub twin_past : IsPast twin_after

-- so many runs were broken off one after another, and somebody wrote after each; in the twin there was none of them
abbrev pub StayTwins : ℕ → PastView → PastView → PastView → PastView → Type 0
StayTwins zero before twin_before after twin_after = (after ≡ before) × (twin_after ≡ twin_before)
StayTwins (suc n) before twin_before after twin_after =
    (mid : PastView) × (twin_mid : PastView) × BreakTwins before twin_before mid twin_mid ×
    StayTwins n mid twin_mid after twin_after
