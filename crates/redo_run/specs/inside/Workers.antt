-- What a build by an owner and its workers comes to.
use Rattle.std.specs.Prelude.{◌≡◌, ◌+◌, ◌<◌, ℕ, List, [], Result, Err, IfOk, IsNone, All, length}
use Rattle.redo_build.specs.Outcomes.{IsTooMany}
use Rattle.redo_build.specs.Takes.{AreBegun, AreCountedOnce}
use Rattle.redo_crew.specs.Word.{most_workers}
use Rattle.redo_rules.specs.Results.{IsGiven, IsResultOn, NeedsTooMany}
use Rattle.redo_core.specs.Taken.{HasTaken}
use Rattle.redo_core.specs.Faults.{IsSameBuild}
use Rattle.redo_core.specs.Views.{BoardView, IsQuietBoard, limit_on, request_on, rules_on}
use Rattle.redo_core.specs.declared.board.Stop.{Stop}
use Rattle.redo_core.specs.declared.board.Stop.TheVariants.{TooMany}
use Rattle.redo_report.specs.declared.report.Report.{Report}
use Rattle.redo_step.specs.Limits.{LimitsView}
use Rattle.redo_sync.specs.Relay.{Pair, RelayId, Shares, Source, Taker}
use Rattle.redo_tree.specs.Tree.{Tree}
use Rattle.redo_run.specs.Skipping.{IsSoundOn, IsUnsafeOn}
use Rattle.redo_core.specs.declared.opening.OpenFault.{OpenFault as RunFault}
use Rattle.redo_core.specs.declared.opening.OpenFault.TheVariants as faults

-- the source is of the same relay, with as many takers
abbrev pub IsSameSource : Source → Source → Type 0
IsSameSource old new = (new.relay ≡ old.relay) × (new.takers ≡ old.takers)

-- what an owner has: its board, the source of its relay, and the relay of its own taker
pub record OwnerView : Type 0 where
  pub board : BoardView
  pub source : Source
  pub own : RelayId

-- the owner has the board of the same build, and ends of the same relays
abbrev pub IsSameOwner : OwnerView → OwnerView → Type 0
IsSameOwner old new = IsSameBuild old.board new.board × IsSameSource old.source new.source × (new.own ≡ old.own)

-- the board runs, and where it had taken what was given, it has now
abbrev pub HasKeptUp : OwnerView → OwnerView → Type 0
HasKeptUp old new =
    IsNone new.board.stopped × (HasTaken old.board old.source.given → HasTaken new.board new.source.given)

-- the board has stopped at too many targets, and the build needs as many
abbrev pub NeedsMany : OwnerView → Type 0
NeedsMany owner = IsTooMany (rules_on owner.board) (request_on owner.board) (limit_on owner.board)

-- so many workers have takers of the relay: those that aren't started, and those that are and promise to hand theirs back
pub record IsManned (relay : RelayId) (workers : ℕ) (idle : List Taker) (promised : List RelayId) : Type 0 where
  pub count : length idle + length promised ≡ workers
  pub idle_own : All (λ t. t.relay ≡ relay) idle
  pub promised_own : All (λ r. r ≡ relay) promised

-- these are so many takers of the relay
abbrev pub AreTakersOf : RelayId → ℕ → List Taker → Type 0
AreTakersOf relay count takers = (length takers ≡ count) × All (λ t. t.relay ≡ relay) takers

-- these are all takers of the source
abbrev pub AreAllTakers : Source → List Taker → Type 0
AreAllTakers source takers = AreTakersOf source.relay source.takers takers

-- the owner's taker and these are all takers of its source
abbrev pub AreOtherTakers : OwnerView → List Taker → Type 0
AreOtherTakers owner takers =
    (length takers < most_workers) × (length takers + 1 ≡ owner.source.takers) × (owner.own ≡ owner.source.relay) × All (λ t. t.relay ≡ owner.source.relay) takers

-- what the board had taken is what it has taken now
abbrev pub HasTakenOn : BoardView → BoardView → Type 0
HasTakenOn old new = (taken : List Pair) → HasTaken old taken → HasTaken new taken

-- what a run has left once all workers are in: the board is of the build and nothing is left to do on it, all takers are
-- back, and what the board has taken is what was given
pub record IsEnded (tree : Tree) (request : List (List ℕ)) (limits : LimitsView) (board : BoardView) (source : Source)
    (takers : List Taker) : Type 0 where
  pub of_build : IsGiven tree request limits board.given
  pub quiet : IsQuietBoard board
  pub complete : AreAllTakers source takers
  pub taken : HasTaken board source.given

-- a report is that of the build with the new book, its ledger shows each job taken once and those of its begun scripts,
-- and too many targets are answered where the build needs too many
pub record IsAnswerTo (tree : Tree) (request : List (List ℕ)) (limits : LimitsView)
    (answer : Result (Report × Shares) Stop) : Type 0 where
  pub report : IfOk answer (λ r. IsResultOn tree request limits r.0)
  pub none_left : IfOk answer (λ r. r.1.left ≡ [])
  pub once : IfOk answer (λ r. AreCountedOnce r.1.taken)
  pub begun : IfOk answer (λ r. AreBegun r.1.taken r.0.begun.items)
  pub too_many : answer ≡ Err TooMany → NeedsTooMany tree request limits

-- a build over a past: the report is that of the build, sound where keeping is safe; the ledger shows each job taken once
-- and those of the begun scripts; no book is refused; and too many targets are answered where the build needs too many and
-- keeping isn't safe
pub record IsBuildOf (tree : Tree) (request : List (List ℕ)) (limits : LimitsView)
    (answer : Result (Report × Shares) RunFault) : Type 0 where
  pub report : IfOk answer (λ r. IsResultOn tree request limits r.0)
  pub sound : IfOk answer (λ r. IsSoundOn tree request limits r.0)
  pub none_left : IfOk answer (λ r. r.1.left ≡ [])
  pub once : IfOk answer (λ r. AreCountedOnce r.1.taken)
  pub begun : IfOk answer (λ r. AreBegun r.1.taken r.0.begun.items)
  pub book : (n : ℕ) → answer ≡ Err (faults.Book n) → ⊥
  pub too_many : answer ≡ Err faults.TooMany → NeedsTooMany tree request limits
  pub only_unsafe : answer ≡ Err faults.TooMany → IsUnsafeOn tree request limits
