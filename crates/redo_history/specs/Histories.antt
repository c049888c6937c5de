-- Runs one after another, over trees that anybody may edit in between.
use Rattle.std.specs.Prelude.{◌≡◌, ◌≢◌, ◌⊎◌, ℕ, All, Contains, List, [], ◌∷◌, Option, Some, None, bytes_eq, find, option_map}
use Rattle.sha2.specs.Sha256.{sha256}
use Rattle.redo_record.specs.declared.outcome.Outcome.TheVariants.{Cyclic}
use Rattle.redo_book.specs.Book.{IsText, Record}
use Rattle.redo_report.specs.declared.report.Report.{Report}
use Rattle.redo_rules.specs.Results.{IsOfTree, IsResultOn}
use Rattle.redo_past.specs.NewBook.{built_at}
use Rattle.redo_past.specs.Past.{PastView}
use Rattle.redo_step.specs.Limits.{LimitsView}
use Rattle.redo_tree.specs.Tree.{IsTree, Tree, file_at}
use Rattle.redo_which.specs.Candidates.{book_path}

-- a run: the tree as it read it, what was requested, the limits, and its report. A list of runs has the last one first
pub record Run : Type 0 where
  pub tree : Tree
  pub request : List (List ℕ)
  pub limits : LimitsView
  pub report : Report

-- The books that runs leave

-- the text of the book among the files of a report
abbrev pub book_among : List (List ℕ × List ℕ) → Option (List ℕ)
book_among files = option_map (λ f. f.1) (find (λ f. bytes_eq f.0 book_path) files)

-- the text of the book that the last of these runs has left; none where there was no run
abbrev pub book_left : List Run → Option (List ℕ)
book_left [] = None
book_left (run ∷ before) = book_among run.report.files.items

-- the tree has this book, or none where there was no run
abbrev pub HasBookOf : List Run → Tree → Type 0
HasBookOf before tree = file_at tree book_path ≡ book_left before

-- the run has left this record in its book
pub record HasLeft (run : Run) (r : Record) : Type 0 where
  pub text : List ℕ
  pub file : book_among run.report.files.items ≡ Some text
  pub book : List Record
  pub is_text : IsText text book
  pub has : Contains book r

-- one of these runs has
abbrev pub WasLeft : List Run → Record → Type 0
WasLeft [] r = ⊥
WasLeft (run ∷ before) r = HasLeft run r ⊎ WasLeft before r

-- one of these runs has left each record of the tree's book: this may be the last book or an earlier one, be put together
-- of several, or be none
abbrev pub HasRecordsOf : List Run → Tree → Type 0
HasRecordsOf before tree = (past : PastView) → IsOfTree tree past → (r : Record) → Contains past.book r → WasLeft before r

-- Runs, and the next tree. A link, `HasBookOf` or `HasRecordsOf`, says what the book of a tree has to do with the runs
-- before; of all else in it nothing is said

-- a run came to its report over a tree with this link to the runs before, where a file may have so many bytes
pub record IsRunAfter (link : List Run → Tree → Type 0) (file_bytes : ℕ) (before : List Run) (run : Run) : Type 0 where
  pub is_tree : IsTree run.tree
  pub linked : link before run.tree
  pub limit : run.limits.file_bytes ≡ file_bytes
  pub result : IsResultOn run.tree run.request run.limits run.report

-- each of these runs came after those before it
abbrev pub AreRuns : (List Run → Tree → Type 0) → ℕ → List Run → Type 0
AreRuns link file_bytes [] = Unit {0}
AreRuns link file_bytes (run ∷ before) = IsRunAfter link file_bytes before run × AreRuns link file_bytes before

-- a tree stands after these runs
pub record IsAfter (link : List Run → Tree → Type 0) (file_bytes : ℕ) (before : List Run) (tree : Tree) : Type 0 where
  pub runs : AreRuns link file_bytes before
  pub is_tree : IsTree tree
  pub linked : link before tree

-- the build of the tree's sources alone comes to this report, and no target is cyclic in it
pub record IsPlainOn (tree : Tree) (request : List (List ℕ)) (limits : LimitsView) (plain : Report) : Type 0 where
  pub past : PastView
  pub of_tree : IsOfTree tree past
  pub alone : IsResultOn past.sources request limits plain
  pub none_cyclic : All (λ row. row.outcome ≢ Cyclic) plain.rows.items

-- Contents

-- the tree has these bytes at the path, or the report says that it was built with them
abbrev pub Occurs : Tree → Report → List ℕ → List ℕ → Type 0
Occurs tree report path bytes = (file_at tree path ≡ Some bytes) ⊎ (built_at report.rows.items path ≡ Some bytes)

-- so it was in one of these runs
abbrev pub Occurred : List Run → List ℕ → List ℕ → Type 0
Occurred [] path bytes = ⊥
Occurred (run ∷ before) path bytes = Occurs run.tree run.report path bytes ⊎ Occurred before path bytes

-- so it is in this tree and report, or was in one of the runs before
abbrev pub OccursSoFar : List Run → Tree → Report → List ℕ → List ℕ → Type 0
OccursSoFar before tree report path bytes = Occurs tree report path bytes ⊎ Occurred before path bytes

-- no digest confuses contents: of all that occur so far no two different ones of one path have the same SHA-256
abbrev pub NoneConfused : List Run → Tree → Report → Type 0
NoneConfused before tree report = (path one other : List ℕ) →
    OccursSoFar before tree report path one → OccursSoFar before tree report path other →
    sha256 one ≡ sha256 other → one ≡ other
