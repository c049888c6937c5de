-- A run with the book of the last one: what it needs, keeps and begins.
use Rattle.std.specs.Prelude.{◌≡◌, ◌⊎◌, ◌≤◌, ℕ, true, false, List, Some, length}
use Rattle.redo_record.specs.Paths.{IsAmong, is_among}
use Rattle.redo_record.specs.declared.outcome.Outcome.TheVariants.{Built}
use Rattle.redo_book.specs.Book.{Record, record_at}
use Rattle.redo_book.specs.Intact.{is_intact}
use Rattle.redo_build.specs.Rules.{Ask, Rules}
use Rattle.redo_build.specs.Outcomes.{needed_at, outcome_at}
use Rattle.redo_build.specs.Schedule.{AllOpen, Event, State, opening, run}
use Rattle.redo_skip.specs.Sources.{Sources, without_book}
use Rattle.redo_skip.specs.Checks.{with_book}
use Rattle.redo_skip.specs.Truth.{IsBegun}
use Rattle.redo_skip.specs.NewBook.{LastRun, AreHonestRecords, checks_of}
use Rattle.redo_why.specs.Verdicts.{Verdicts, verdict_at}
use Rattle.redo_why.specs.OutOfDate.{IsLeftAlone}

-- the rules of a run with the book that requests these paths
abbrev pub rules_with : Sources → LastRun → List (List ℕ) → Rules
rules_with s last request = with_book s (checks_of s last request)

-- the outcomes in the end of such a run
abbrev pub end_with : Sources → LastRun → List (List ℕ) → ℕ → Ask
end_with s last request limit = outcome_at (rules_with s last request) limit

-- such a run needs at most as many targets as the limit says
abbrev pub KeepsTo : Sources → LastRun → List (List ℕ) → ℕ → Type 0
KeepsTo s last request limit = length (needed_at (rules_with s last request) request limit) ≤ limit

-- its state after these events: a script is taken, or handed in
abbrev pub state_with : Sources → LastRun → List (List ℕ) → List Event → State
state_with s last request events =
    run (rules_with s last request) events (opening (rules_with s last request) request)

-- these events can happen in it, one after another
abbrev pub AreEvents : Sources → LastRun → List (List ℕ) → List Event → Type 0
AreEvents s last request events =
    AllOpen (rules_with s last request) (opening (rules_with s last request) request) events

-- such a run needs a target
abbrev pub IsNeededBy : Sources → LastRun → List (List ℕ) → ℕ → List ℕ → Type 0
IsNeededBy s last request limit p = IsAmong (needed_at (rules_with s last request) request limit) p

-- it begins the script of a target
abbrev pub IsBegunBy : Sources → LastRun → List (List ℕ) → ℕ → List ℕ → Type 0
IsBegunBy s last request limit p = IsBegun (rules_with s last request) request limit p

-- it doesn't begin the script of a target, and builds it with the file that it has
pub record IsKept (s : Sources) (last : LastRun) (request : List (List ℕ)) (limit : ℕ) (p : List ℕ) : Type 0 where
  pub waits : (rules_with s last request).begins p (end_with s last request limit) ≡ false
  pub built : end_with s last request limit p ≡ Some (Built (last.file p))

-- Which runs a list tells of

-- a run needs a target and keeps to the limit; neither the target nor anything that it rests on is requested
pub record NeedsAlone (s : Sources) (last : LastRun) (request : List (List ℕ)) (limit : ℕ) (p : List ℕ) : Type 0 where
  pub few : KeepsTo s last request limit
  pub needed : IsNeededBy s last request limit p
  pub alone : IsLeftAlone s last request p

-- a run with a book of honest records needs a target that isn't requested, whatever else is; and the run without the
-- book keeps to the limit
pub record NeedsHonest (s : Sources) (last : LastRun) (request : List (List ℕ)) (limit : ℕ) (p : List ℕ) : Type 0 where
  pub few : length (needed_at (without_book s) request limit) ≤ limit
  pub needed : IsNeededBy s last request limit p
  pub unasked : is_among request p ≡ false
  pub honest : AreHonestRecords s last (outcome_at (without_book s) limit)

-- one or the other
abbrev pub Needs : Sources → LastRun → List (List ℕ) → ℕ → List ℕ → Type 0
Needs s last request limit p = NeedsAlone s last request limit p ⊎ NeedsHonest s last request limit p

-- Where the request is known

-- the verdicts in a run that requests these paths; records are no deeper than there are records
abbrev pub verdict_with : Sources → LastRun → List (List ℕ) → Verdicts
verdict_with s last request = verdict_at s (checks_of s last request) (length last.book)

-- in such a run a target is in check by this record
pub record IsRecordInCheck (s : Sources) (last : LastRun) (request : List (List ℕ)) (p : List ℕ) (r : Record) : Type 0 where
  pub at : record_at last.book p ≡ Some r
  pub ruled : s.has_rule p ≡ true
  pub intact : is_intact last.file r ≡ true
  pub unasked : is_among request p ≡ false
