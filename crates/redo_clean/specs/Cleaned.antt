-- What a clean did to a directory.
use Rattle.std.specs.Prelude.{◌≡◌, ◌≢◌, ◌⊎◌, ◌++◌, Bool, ℕ, List, [], ◌∷◌, Option, Some, None}
use Rattle.std.specs.Prelude.{if◌then◌else◌, length, map, slice_get, take}
use Rattle.std.specs.Option.{option_map_or}
use Rattle.std.specs.declared.io.ErrorKind.{ErrorKind}
use Rattle.std.specs.declared.io.ErrorKind.TheVariants.{NotFound}
use Rattle.redo_tree.specs.Tree.{Node, Directory, File}
use Rattle.redo_which.specs.Candidates.{book_path}
use Rattle.redo_dir.specs.Stored.{Removes, Step, place_of}
use Rattle.redo_dir.specs.Storing.{IsUncleared, paths_to_clear, steps_to_clear}
use Rattle.redo_dir.specs.declared.clearing.Left.{Left}
use Rattle.redo_dir.specs.declared.faults.StoreFault.{StoreFault}
use Rattle.redo_clean.specs.declared.fate.Fate.{Fate}
use Rattle.redo_clean.specs.declared.fate.Fate.TheVariants.{Removed, Changed, NoFile, Gone}
use Rattle.redo_clean.specs.declared.faults.CleanFault.{CleanFault}
use Rattle.redo_clean.specs.declared.faults.CleanFault.TheVariants as faults
use Rattle.redo_clean.specs.declared.planning.CleanPlan.{CleanPlan}
use Rattle.redo_clean.specs.Planned as planned

-- what a directory answered at paths while its log was this
abbrev pub Answers : Type 0 → Type 1
Answers A = List Step → List ℕ → A → Type 0

-- the answers of a directory whose log is `done`
abbrev pub AnsweredWhile : {D A : Type 0} → (D → List Step) → (D → List ℕ → A → Type 0) → Answers A
AnsweredWhile {D} done says log path answer = (d : D) × (done d ≡ log) × says d path answer

-- by these answers a file meets its fate: it is removed if it was seen with the bytes of the plan
abbrev pub HasFate : (List ℕ → Option Node → Type 0) → (List ℕ → ErrorKind → Type 0) → planned.File → Fate → Type 0
HasFate leads refuses file Removed = leads file.0 (Some (File file.1))
HasFate leads refuses file Changed = (bytes : List ℕ) × leads file.0 (Some (File bytes)) × (bytes ≢ file.1)
HasFate leads refuses file NoFile = leads file.0 (Some Directory) ⊎ leads file.0 None
HasFate leads refuses file Gone = refuses file.0 NotFound

-- the step by which a file meets its fate, if it takes one
abbrev pub removal : planned.File → Fate → List Step
removal file Removed = Removes file.0 ∷ []
removal file Changed = []
removal file NoFile = []
removal file Gone = []

-- the steps by which the first of these files meet these fates
abbrev pub removals : List planned.File → List Fate → List Step
removals [] fates = []
removals (f ∷ fs) [] = []
removals (f ∷ fs) (x ∷ xs) = removal f x ++ removals fs xs

-- The first of these files met these fates, one after another: each by what was answered at its path when those
-- before it had met theirs.
abbrev pub MeetFates : Answers (Option Node) → Answers ErrorKind → List Step → List planned.File → List Fate → Type 0
MeetFates leads refuses log [] fates = fates ≡ []
MeetFates leads refuses log (f ∷ fs) [] = Unit {0}
MeetFates leads refuses log (f ∷ fs) (x ∷ xs) = HasFate (leads log) (refuses log) f x × MeetFates leads refuses (log ++ removal f x) fs xs

-- the steps by which is cleared away what a run has left that was broken off
abbrev pub clearing : CleanPlan → List Step
clearing plan = option_map_or (λ left. steps_to_clear plan.over left.book left.own.items) plan.left []

-- the log once that is cleared away and the first files of the plan have met these fates
abbrev pub log_of : CleanPlan → List Step → List Fate → List Step
log_of plan before fates = (before ++ clearing plan) ++ removals plan.generated.items fates

-- the book's removal, if there is one
abbrev pub book_removal : Bool → List Step
book_removal has_book = if has_book then Removes book_path ∷ [] else []

-- the paths of the plan's files, and the book's behind all others
abbrev pub paths_to_remove : CleanPlan → List (List ℕ)
paths_to_remove plan = map (λ f. f.0) plan.generated.items ++ book_path ∷ []

-- what was left was cleared away, then each file of the plan met its fate, and then the book was removed; the log
-- tells of nothing else
pub record IsCleaned (leads : Answers (Option Node)) (refuses : Answers ErrorKind) (plan : CleanPlan) (before after : List Step) (fates : List Fate) : Type 0 where
  pub met : MeetFates leads refuses (before ++ clearing plan) plan.generated.items fates
  pub all : length fates ≡ length plan.generated.items
  pub log : after ≡ log_of plan before fates ++ book_removal plan.book

-- what is left of a broken-off run couldn't be cleared away: the first steps were done, and a call at the path of the next
-- was refused, or memory ran out
pub record IsUnclean (refuses : List ℕ → ErrorKind → Type 0) (plan : CleanPlan) (before after : List Step) (fault : StoreFault) : Type 0 where
  pub left : Left
  pub is_left : plan.left ≡ Some left
  pub why : IsUncleared refuses (paths_to_clear left.book left.own.items) fault
  pub log : after ≡ before ++ take (place_of fault) (clearing plan)

-- the first files of the plan met these fates, and then the clean stopped
pub record IsFront (leads : Answers (Option Node)) (refuses : Answers ErrorKind) (plan : CleanPlan) (before after : List Step) (fates : List Fate) : Type 0 where
  pub met : MeetFates leads refuses (before ++ clearing plan) plan.generated.items fates
  pub log : after ≡ log_of plan before fates

-- how far a clean came that was broken off by a fault: a call at the next path was refused, or memory ran out
abbrev pub IsBrokenOff : Answers (Option Node) → Answers ErrorKind → CleanPlan → List Step → List Step → List Fate → CleanFault → Type 0
IsBrokenOff leads refuses plan before after fates (faults.Left fault) =
    (fates ≡ []) × IsUnclean (λ path kind. (log : List Step) × refuses log path kind) plan before after fault
IsBrokenOff leads refuses plan before after fates (faults.Device path kind) =
    IsFront leads refuses plan before after fates ×
    (slice_get (paths_to_remove plan) (length fates) ≡ Some path) × refuses after path kind
IsBrokenOff leads refuses plan before after fates faults.Memory = IsFront leads refuses plan before after fates
