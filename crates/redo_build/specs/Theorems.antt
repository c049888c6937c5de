-- What a run of open events shows of the build on the way, and what it shows at the end.
use Rattle.std.specs.Prelude.{◌≡◌, ℕ, ◌<◌, ◌≤◌, ◌↔◌, List, Some, length}
use Rattle.redo_record.specs.Paths.{IsAmong}
use Rattle.redo_build.specs.Rules.{Rules}
use Rattle.redo_build.specs.Outcomes.{outcome_at, needed_at, declared_of, record_of, IsTooMany}
use Rattle.redo_build.specs.Schedule.{Entry, State, paths_of, entry_of, outcomes_of}
use Rattle.redo_record.specs.declared.outcome.Outcome.{Outcome}

-- a state on the way shows a part of the build
pub record IsPartOfBuild (r : Rules) (request : List (List ℕ)) (limit : ℕ) (s : State) : Type 0 where
  -- each outcome is that of the build at some depth
  pub decided : (p : List ℕ) (e : Entry) (o : Outcome) → entry_of s.entries p ≡ Some e → e.outcome ≡ Some o →
      (n : ℕ) × (outcome_at r n p ≡ Some o)
  -- within the limit it is that of the build at depth `limit`, and so is what the target asked for
  pub declared : length s.entries ≤ limit → (p : List ℕ) (e : Entry) (o : Outcome) → entry_of s.entries p ≡ Some e →
      e.outcome ≡ Some o →
      (outcome_at r limit p ≡ Some o) × (e.deps ≡ declared_of r limit p)
  -- and under what is decided so far it has its record
  pub recorded : length s.entries ≤ limit → (p : List ℕ) (e : Entry) (o : Outcome) → entry_of s.entries p ≡ Some e →
      e.outcome ≡ Some o → r.recorded p (outcomes_of s.entries) ≡ record_of r limit p
  -- every entry is needed
  pub needed : (p : List ℕ) → IsAmong (paths_of s.entries) p → (n : ℕ) × IsAmong (needed_at r request n) p
  -- past the limit, the build needs too many targets
  pub too_many : limit < length s.entries → IsTooMany r request limit

-- a state at the end shows the whole build
pub record ShowsBuild (r : Rules) (request : List (List ℕ)) (limit : ℕ) (s : State) : Type 0 where
  pub members : (p : List ℕ) → IsAmong (paths_of s.entries) p ↔ IsAmong (needed_at r request limit) p
  pub within : length (needed_at r request limit) ≤ limit
  pub outcomes : (p : List ℕ) → IsAmong (paths_of s.entries) p → outcomes_of s.entries p ≡ outcome_at r limit p
  -- each target asked for what it asks for in the build
  pub declared : (p : List ℕ) (e : Entry) → entry_of s.entries p ≡ Some e → e.deps ≡ declared_of r limit p
  -- with everything decided, each has the record of the build
  pub records : (p : List ℕ) → IsAmong (paths_of s.entries) p →
      r.recorded p (outcomes_of s.entries) ≡ record_of r limit p
  -- and is begun exactly where the build begins it
  pub begun : (p : List ℕ) → IsAmong (paths_of s.entries) p →
      r.begins p (outcomes_of s.entries) ≡ r.begins p (outcome_at r limit)
