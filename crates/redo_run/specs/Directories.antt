-- What a run over a directory comes to. What the directory holds is known to no contract: it has the tree by what it
-- answered when it was listed, looked at and read.
use Rattle.std.specs.Prelude.{◌≡◌, ◌↔◌, ◌++◌, ◌⊎◌, ◌+◌, ◌<◌, ◌≤◌, ◌==◌, suc, Bool, true, false, IsTrue, IsSome, ℕ, List, Option, Result}
use Rattle.std.specs.Prelude.{Ok, Err, None, if◌then◌else◌, length, take}
use Rattle.std.specs.Io.KnownBytes.{Appends}
use Rattle.std.specs.declared.io.ErrorKind.{ErrorKind}
use Rattle.redo_rules.specs.Build.{GivenView}
use Rattle.redo_rules.specs.Results.{IsGiven, IsOfTree, IsRefused, IsResult, NeedsTooMany as TreeNeedsTooMany}
use Rattle.redo_past.specs.NewBook.{IsWithBook}
use Rattle.redo_report.specs.ReportText.{report_text}
use Rattle.redo_report.specs.declared.report.Report.{Report}
use Rattle.redo_tree.specs.Tree.{IsTree, Tree, file_at, without}
use Rattle.redo_which.specs.Candidates.{book_path, journal_path}
use Rattle.redo_which.specs.Rule.{chosen_of}
use Rattle.redo_dir.specs.Loaded.{Clash, HasNames, IsLoaded, Leads, Looks, ReadIf, Reads, Unread}
use Rattle.redo_reads.specs.Reads.{AgreeOn, AreNamedAlike}
use Rattle.redo_dir.specs.Stored.{Step}
use Rattle.redo_mend.specs.Mended.{MendsTo}
use Rattle.redo_dir.specs.declared.work_dir.Seen.{Seen}
use Rattle.redo_run.specs.declared.directory.DirRun.{DirRun}
use Rattle.redo_run.specs.declared.exit.Exit.{Exit}
use Rattle.redo_run.specs.declared.options.Options.{Options}
use Rattle.redo_run.specs.declared.dir_fault.RunDirFault.{RunDirFault}
use Rattle.redo_run.specs.declared.dir_fault.RunDirFault.TheVariants.{Load, Book, TooMany, Store, Journal, Left, Device, Memory}
use Rattle.redo_run.specs.Candidates.{HaveSameFiles, candidate_text}
use Rattle.redo_run.specs.Exits.{IsExitOf}
use Rattle.redo_run.specs.Runs.{request_in}
use Rattle.redo_run.specs.Storing.{StopsAt, clearing, storing, to_store}
use Rattle.redo_run.specs.Skipping.{IsSoundFor, IsUnsafeOn}

-- what it takes to build a directory: sixteen boards may be opened, one a round
abbrev pub AllowsRounds : ℕ → Type 0
AllowsRounds permit = 16 ≤ permit

-- a tree as a build sees it: without the files that are to be taken back
abbrev pub to_build : Options → Tree → Tree
to_build options tree = if length options.taken.items == 0 then tree else without tree options.taken.items

-- a tree was built, and its whole report is this one with this text as that of the new book
pub record IsBuilt (tree : Tree) (options : Options) (report : Report) (book : List ℕ) (exit : Exit) : Type 0 where
  pub given : GivenView
  pub is_given : IsGiven tree (request_in options) options.limits given
  pub whole : Report
  pub parts : IsWithBook report book whole
  pub is : IsResult given whole
  pub sound : IsSoundFor given whole
  pub good : IsExitOf given exit

-- why a tree isn't built: its book is refused for this line, or it needs too many targets; where keeping is safe, none
-- does
abbrev pub IsUnbuilt : Tree → Options → RunDirFault → Type 0
IsUnbuilt tree options (Book n) = IsRefused tree n
IsUnbuilt tree options TooMany =
    TreeNeedsTooMany tree (request_in options) options.limits × IsUnsafeOn tree (request_in options) options.limits
IsUnbuilt tree options Memory = Unit {0}
IsUnbuilt tree options _ = ⊥

-- a tree isn't mended for this reason: its book is refused for this line
abbrev pub IsUnmended : Tree → RunDirFault → Type 0
IsUnmended tree (Book n) = IsRefused tree n
IsUnmended tree Memory = Unit {0}
IsUnmended tree _ = ⊥

-- the tree has a file at this path, or a look at it was answered that nothing stands there
abbrev pub IsFileOrNone : (List ℕ → Type 0) → Tree → List ℕ → Type 0
IsFileOrNone lacks tree path = IsSome (file_at tree path) ⊎ lacks path

-- the tree has a book and a journal, or nothing stood in the place of the one that it hasn't
abbrev pub AreFilesOrNone : (List ℕ → Type 0) → Tree → Type 0
AreFilesOrNone lacks tree = IsFileOrNone lacks tree book_path × IsFileOrNone lacks tree journal_path

-- whether something stands at this path that is no file of the tree
abbrev pub IsBlocked : Looks → (List ℕ → Type 0) → Tree → List ℕ → Bool → Type 0
IsBlocked looks lacks tree path false = IsFileOrNone lacks tree path
IsBlocked looks lacks tree path true = (file_at tree path ≡ None) × (seen : Seen) × looks path seen

-- what stands in the place of the book or of the journal is no file of the tree that was loaded
pub record HasNoFile (lists : List ℕ → List (Option (List ℕ)) → Type 0) (looks : Looks) (reads : Reads) : Type 0 where
  pub tree : Tree
  pub passed : ℕ
  pub loaded : IsLoaded lists (Leads looks reads) tree passed
  pub path : List ℕ
  pub own : (path ≡ book_path) ⊎ (path ≡ journal_path)
  pub none : file_at tree path ≡ None
  pub seen : Seen
  pub stands : looks path seen

-- why a directory can't be read: a call was refused, the names that were listed make no tree, or its book or journal is
-- no file; whichever files were read
abbrev pub IsUnreadable : (List ℕ → List (Option (List ℕ)) → Type 0) → Looks → Reads → (List ℕ → ErrorKind → Type 0) → Type 0
IsUnreadable lists looks reads refuses =
    ((path : List ℕ) × (kind : ErrorKind) × refuses path kind) ⊎
    ((paths : List ℕ → Bool) × (Clash lists (Leads looks (ReadIf paths reads)) ⊎ HasNoFile lists looks (ReadIf paths reads)))

-- a load fails for no other reason, or for want of memory
abbrev pub IsUnread : (List ℕ → List (Option (List ℕ)) → Type 0) → Looks → Reads → (List ℕ → ErrorKind → Type 0) → RunDirFault → Type 0
IsUnread lists looks reads refuses Load = IsUnreadable lists looks reads refuses
IsUnread lists looks reads refuses Memory = Unit {0}
IsUnread lists looks reads refuses _ = ⊥

-- the steps by which a run over this tree clears away and stores, which was mended to that one, and whose build has this
-- report and a new book of this text
abbrev pub steps_of : Tree → Tree → Report → List ℕ → List Step
steps_of loaded mended report book = clearing loaded mended ++ storing mended (to_store mended report.files.items book)

-- What the files at these paths decide, whatever is in the others: each tree with the same names that agrees on them is
-- mended, comes to this report, new book and exit without what is to be taken back, and is stored by these steps.
abbrev pub Decides : (List ℕ → Bool) → Options → Tree → Report → List ℕ → Exit → List Step → Type 0
Decides paths options loaded report book exit steps =
    (tree : Tree) → IsTree tree → AreNamedAlike loaded tree → AgreeOn paths loaded tree →
    (mended : Tree) × MendsTo tree mended × IsBuilt (to_build options mended) options report book exit ×
    (steps_of tree mended report book ≡ steps)

-- A tree was loaded with the files at some paths, and each other one empty. It was mended, and built without what is to be
-- taken back. What was read decides what comes of it.
pub record Ran (lists : List ℕ → List (Option (List ℕ)) → Type 0) (looks : Looks) (reads : Reads) (lacks : List ℕ → Type 0) (options : Options) : Type 0 where
  pub paths : List ℕ → Bool
  pub loaded : Tree
  pub passed : ℕ
  pub is_loaded : IsLoaded lists (Leads looks (ReadIf paths reads)) loaded passed
  pub own : AreFilesOrNone lacks loaded
  pub mended : Tree
  pub mends : MendsTo loaded mended
  pub report : Report
  pub book : List ℕ
  pub exit : Exit
  pub built : IsBuilt (to_build options mended) options report book exit
  pub decides : Decides paths options loaded report book exit (steps_of loaded mended report book)

-- Such a tree was loaded, mended and built; all steps were done by which what a broken-off run had left is cleared away and
-- the build is stored; and the writer took the report, without the files, and nothing else.
pub record ReportsTree (lists : List ℕ → List (Option (List ℕ)) → Type 0) (looks : Looks) (reads : Reads) (lacks : List ℕ → Type 0) (options : Options) (before after : List Step) (old new : Option (List ℕ)) (run : DirRun) : Type 0 where
  pub paths : List ℕ → Bool
  pub loaded : Tree
  pub is_loaded : IsLoaded lists (Leads looks (ReadIf paths reads)) loaded run.passed
  pub own : AreFilesOrNone lacks loaded
  pub mended : Tree
  pub mends : MendsTo loaded mended
  pub past : IsOfTree (to_build options mended) run.past
  pub built : IsBuilt (to_build options mended) options run.report run.book run.exit
  pub done : after ≡ before ++ steps_of loaded mended run.report run.book
  pub decides : Decides paths options loaded run.report run.book run.exit (steps_of loaded mended run.report run.book)
  pub written : Appends old new (report_text run.report false)

-- a tree was loaded, and its book is refused for this line, or the mended tree isn't built for this reason, without what
-- is to be taken back
pub record Stays (lists : List ℕ → List (Option (List ℕ)) → Type 0) (looks : Looks) (reads : Reads) (options : Options) (fault : RunDirFault) : Type 0 where
  pub loaded : Tree
  pub passed : ℕ
  pub is_loaded : IsLoaded lists (Leads looks reads) loaded passed
  pub why : IsUnmended loaded fault ⊎ ((mended : Tree) × MendsTo loaded mended × IsUnbuilt (to_build options mended) options fault)

-- a tree was loaded and mended, and built without what is to be taken back, as what was read decides; and the writer took
-- the report, without the files, and nothing else
pub record PreviewsTree (lists : List ℕ → List (Option (List ℕ)) → Type 0) (looks : Looks) (reads : Reads) (lacks : List ℕ → Type 0) (options : Options) (old new : Option (List ℕ)) (run : DirRun) : Type 0 where
  pub paths : List ℕ → Bool
  pub loaded : Tree
  pub is_loaded : IsLoaded lists (Leads looks (ReadIf paths reads)) loaded run.passed
  pub own : AreFilesOrNone lacks loaded
  pub mended : Tree
  pub mends : MendsTo loaded mended
  pub past : IsOfTree (to_build options mended) run.past
  pub built : IsBuilt (to_build options mended) options run.report run.book run.exit
  pub decides : Decides paths options loaded run.report run.book run.exit (steps_of loaded mended run.report run.book)
  pub written : Appends old new (report_text run.report false)

-- why a run that stores nothing has no report
abbrev pub FallsInPreview : (List ℕ → List (Option (List ℕ)) → Type 0) → Looks → Reads → (List ℕ → Type 0) → (List ℕ → ErrorKind → Type 0) → Options → RunDirFault → Type 0
FallsInPreview lists looks reads lacks refuses options Load = IsUnreadable lists looks reads refuses
FallsInPreview lists looks reads lacks refuses options (Book n) = Stays lists looks reads options (Book n)
FallsInPreview lists looks reads lacks refuses options TooMany = Stays lists looks reads options TooMany
FallsInPreview lists looks reads lacks refuses options Device = Ran lists looks reads lacks options
FallsInPreview lists looks reads lacks refuses options Memory = Unit {0}
FallsInPreview lists looks reads lacks refuses options _ = ⊥

-- Why a run has no report, and which steps were done all the same. None is done before the build has answered.
abbrev pub IsFaultOf : (List ℕ → List (Option (List ℕ)) → Type 0) → Looks → Reads → (List ℕ → Type 0) → (List ℕ → ErrorKind → Type 0) → (List ℕ → ErrorKind → Type 0) → Options → List Step → List Step → RunDirFault → Type 0
IsFaultOf lists looks reads lacks refuses told options before after Load = IsUnreadable lists looks reads refuses × (after ≡ before)
IsFaultOf lists looks reads lacks refuses told options before after (Book n) =
    Stays lists looks reads options (Book n) × (after ≡ before)
IsFaultOf lists looks reads lacks refuses told options before after TooMany =
    Stays lists looks reads options TooMany × (after ≡ before)
IsFaultOf lists looks reads lacks refuses told options before after (Store place) =
    (r : Ran lists looks reads lacks options) × StopsAt told (steps_of r.loaded r.mended r.report r.book) before after (length (clearing r.loaded r.mended) + suc place)
IsFaultOf lists looks reads lacks refuses told options before after Journal =
    (r : Ran lists looks reads lacks options) × StopsAt told (steps_of r.loaded r.mended r.report r.book) before after (length (clearing r.loaded r.mended))
IsFaultOf lists looks reads lacks refuses told options before after Left =
    (r : Ran lists looks reads lacks options) × (count : ℕ) × (count < length (clearing r.loaded r.mended)) × StopsAt told (steps_of r.loaded r.mended r.report r.book) before after count
IsFaultOf lists looks reads lacks refuses told options before after Device =
    (r : Ran lists looks reads lacks options) × (after ≡ before ++ steps_of r.loaded r.mended r.report r.book)
IsFaultOf lists looks reads lacks refuses told options before after Memory =
    (after ≡ before) ⊎
    ((r : Ran lists looks reads lacks options) × (count : ℕ) × (after ≡ before ++ take count (steps_of r.loaded r.mended r.report r.book)))

-- The names of a tree were listed, and no file of it was read. The writer took the list of the target's candidates,
-- and nothing else: that of each tree with files at the same paths, whatever is in them.
pub record ListsTree (lists : List ℕ → List (Option (List ℕ)) → Type 0) (looks : Looks) (target : List ℕ) (old new : Option (List ℕ)) (found : Bool) (passed : ℕ) : Type 0 where
  pub names : Tree
  pub named : HasNames lists looks names passed
  pub written : (tree : Tree) → HaveSameFiles names tree → Appends old new (candidate_text tree target)
  pub chosen : (tree : Tree) → HaveSameFiles names tree → (IsTrue found ↔ IsSome (chosen_of tree target))

-- nothing was written, unless the call went well or the writer failed
abbrev pub IsUnwritten : {A W : Type 0} → Result A RunDirFault → W → W → Type 0
IsUnwritten (Ok x) old new = Unit {0}
IsUnwritten (Err Device) old new = Unit {0}
IsUnwritten _ old new = new ≡ old

-- a list of candidates reads no file, builds and stores nothing, and has none of the faults of that
abbrev pub FallsInList : (List ℕ → List (Option (List ℕ)) → Type 0) → Looks → (List ℕ → ErrorKind → Type 0) → RunDirFault → Type 0
FallsInList lists looks refuses Load = IsUnreadable lists looks Unread refuses
FallsInList lists looks refuses Device = Unit {0}
FallsInList lists looks refuses Memory = Unit {0}
FallsInList lists looks refuses _ = ⊥
