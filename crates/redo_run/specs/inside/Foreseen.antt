-- What a run over a directory knows before it stores.
use Rattle.std.specs.Prelude.{◌≡◌, ◌⊎◌, Bool, ℕ, List, Option}
use Rattle.std.specs.Arc.{arc_value}
use Rattle.std.specs.declared.io.ErrorKind.{ErrorKind}
use Rattle.redo_tree.specs.Tree.{IsTree, Tree}
use Rattle.redo_dir.specs.Loaded.{IsLoaded, Leads, Looks, ReadIf, Reads}
use Rattle.redo_mend.specs.Mended.{MendsTo}
use Rattle.redo_reads.specs.Reads.{HasChecked, IsCovered}
use Rattle.redo_rules.specs.Results.{IsOfTree}
use Rattle.redo_run.specs.Directories.{AreFilesOrNone, Decides, IsBuilt, IsUnbuilt, IsUnmended, IsUnread, IsUnreadable, Stays, steps_of, to_build}
use Rattle.redo_run.specs.Reading.{HasPlaces}
use Rattle.redo_run.specs.Storing.{clearing, storing, to_store}
use Rattle.redo_run.specs.inside.Storing.{steps_left, steps_new}
use Rattle.redo_run.specs.declared.foreseen.Foreseen.{Foreseen}
use Rattle.redo_run.specs.declared.options.Options.{Options}
use Rattle.redo_run.specs.declared.dir_fault.RunDirFault.{RunDirFault}
use Rattle.redo_run.specs.declared.dir_fault.RunDirFault.TheVariants.{Load, Book, TooMany, Memory}

-- this tree was mended and built without what is to be taken back, and what is planned are the steps by which that is stored
pub record IsForeseen (options : Options) (loaded : Tree) (passed : ℕ) (f : Foreseen) : Type 0 where
  pub is_tree : IsTree loaded
  pub counted : f.run.passed ≡ passed
  pub mends : MendsTo loaded (arc_value f.mended)
  pub past : IsOfTree (to_build options (arc_value f.mended)) f.run.past
  pub built : IsBuilt (to_build options (arc_value f.mended)) options f.run.report f.run.book f.run.exit
  pub left : steps_left f.plan ≡ clearing loaded (arc_value f.mended)
  pub new : steps_new (arc_value f.mended) f.plan ≡
      storing (arc_value f.mended) (to_store (arc_value f.mended) f.run.report.files.items f.run.book)

-- why this tree isn't built: its book is refused, or it needs too many targets
abbrev pub IsUnforeseenOver : Options → Tree → RunDirFault → Type 0
IsUnforeseenOver options loaded fault =
    IsUnmended loaded fault ⊎ ((mended : Tree) × MendsTo loaded mended × IsUnbuilt (to_build options mended) options fault)

-- the files at these paths are all that the build looked into: they have the book with the files at its targets and what
-- it names of the report's, what each row of the report names, and what stands where it is stored
pub record IsCoveredBy (paths : List ℕ → Bool) (f : Foreseen) : Type 0 where
  pub book : HasChecked paths f.run.past.tree f.run.past.book f.run.report
  pub rows : IsCovered paths f.run.past.sources f.run.report
  pub places : HasPlaces paths (arc_value f.mended) f.run.report

-- a tree was loaded, its book and journal are files, and this is foreseen of it
abbrev pub IsLoadedAnd : (List ℕ → List (Option (List ℕ)) → Type 0) → Looks → Reads → (List ℕ → Type 0) → Options → Foreseen → Type 0
IsLoadedAnd lists looks reads lacks options f =
    (loaded : Tree) × IsLoaded lists (Leads looks reads) loaded f.run.passed × AreFilesOrNone lacks loaded ×
    IsForeseen options loaded f.run.passed f

-- a tree can't be loaded, or it isn't built
abbrev pub IsUnloadedOr : (List ℕ → List (Option (List ℕ)) → Type 0) → Looks → (List ℕ → Bool) → Reads → (List ℕ → ErrorKind → Type 0) → Options → RunDirFault → Type 0
IsUnloadedOr lists looks paths reads refuses options fault =
    IsUnread lists looks reads refuses fault ⊎
    ((loaded : Tree) × (passed : ℕ) × IsLoaded lists (Leads looks (ReadIf paths reads)) loaded passed × IsUnforeseenOver options loaded fault)

-- a tree was loaded with some files, and what is foreseen of it is decided by these
pub record IsDecided (lists : List ℕ → List (Option (List ℕ)) → Type 0) (looks : Looks) (reads : Reads) (lacks : List ℕ → Type 0) (options : Options) (f : Foreseen) : Type 0 where
  pub paths : List ℕ → Bool
  pub loaded : Tree
  pub is_loaded : IsLoaded lists (Leads looks (ReadIf paths reads)) loaded f.run.passed
  pub own : AreFilesOrNone lacks loaded
  pub foreseen : IsForeseen options loaded f.run.passed f
  pub decides : Decides paths options loaded f.run.report f.run.book f.run.exit (steps_of loaded (arc_value f.mended) f.run.report f.run.book)

-- why nothing is foreseen: the directory can't be read, its book is refused, or it needs too many targets
abbrev pub IsUnforeseen : (List ℕ → List (Option (List ℕ)) → Type 0) → Looks → Reads → (List ℕ → ErrorKind → Type 0) → Options → RunDirFault → Type 0
IsUnforeseen lists looks reads refuses options Load = IsUnreadable lists looks reads refuses
IsUnforeseen lists looks reads refuses options (Book n) = Stays lists looks reads options (Book n)
IsUnforeseen lists looks reads refuses options TooMany = Stays lists looks reads options TooMany
IsUnforeseen lists looks reads refuses options Memory = Unit {0}
IsUnforeseen lists looks reads refuses options _ = ⊥
