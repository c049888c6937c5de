-- What a run over a directory reads of a tree.
use Rattle.std.specs.Prelude.{◌≡◌, ◌⊎◌, ◌++◌, ◌∷◌, [], Bool, ℕ, true, List, Some, map}
use Rattle.redo_book.specs.Book.{IsText, Record, targets_of}
use Rattle.redo_mend.specs.Mended.{MendsTo}
use Rattle.redo_past.specs.Past.{IsBookOf}
use Rattle.redo_record.specs.Paths.{IsAmong}
use Rattle.redo_reads.specs.Reads.{AgreeOn, AreNamedAlike, Covers, HasChecked, IsCovered}
use Rattle.redo_report.specs.declared.report.Report.{Report}
use Rattle.redo_tree.specs.Tree.{IsTree, Tree, file_at}
use Rattle.redo_which.specs.Candidates.{book_path, journal_path}
use Rattle.redo_which.specs.Rule.{is_file}
use Rattle.redo_run.specs.Directories.{IsBuilt, to_build}
use Rattle.redo_run.specs.declared.exit.Exit.{Exit}
use Rattle.redo_run.specs.declared.options.Options.{Options}

-- These paths have what mending a tree looks into whose journal has this text: the journal and the book, and the files at
-- the targets of both. A text that is no book's has no targets.
pub record HasJournal (paths : List ℕ → Bool) (tree : Tree) (text : List ℕ) : Type 0 where
  pub own : Covers paths tree (journal_path ∷ book_path ∷ [])
  pub targets : (journal old : List Record) → IsText text journal → IsBookOf (file_at tree book_path) old →
      Covers paths tree (targets_of journal ++ targets_of old)

-- these paths have what mending a tree looks into; without a journal that is nothing
abbrev pub HasMended : (List ℕ → Bool) → Tree → Type 0
HasMended paths tree = (text : List ℕ) → file_at tree journal_path ≡ Some text → HasJournal paths tree text

-- A tree is mended to this other one, as some tree is to the mended one: both have the same names, and agree on these
-- paths.
pub record MendsAlike (paths : List ℕ → Bool) (mended tree other : Tree) : Type 0 where
  pub mends : MendsTo tree other
  pub is_tree : IsTree other
  pub named : AreNamedAlike mended other
  pub agrees : AgreeOn paths mended other

-- these paths have each file of the tree that stands where the book or a file of the report is to be stored
abbrev pub HasPlaces : (List ℕ → Bool) → Tree → Report → Type 0
HasPlaces paths tree report =
    (p : List ℕ) → ((p ≡ book_path) ⊎ IsAmong (map (λ f. f.0) report.files.items) p) → is_file tree p ≡ true →
    paths p ≡ true

-- these paths have all files that a run looks into which builds the tree so: the book with the files at its targets; of
-- each row, what the record of its target names, the .do file and the sources that its script declared; and what stands
-- where it stores
pub record HasRead (paths : List ℕ → Bool) (tree : Tree) (options : Options) (report : Report) (book : List ℕ) (exit : Exit) : Type 0 where
  pub built : IsBuilt (to_build options tree) options report book exit
  pub has_book : HasChecked paths (to_build options tree) built.given.past.book report
  pub has_rows : IsCovered paths built.given.past.sources report
  pub has_places : HasPlaces paths tree report
