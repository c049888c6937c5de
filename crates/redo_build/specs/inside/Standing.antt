-- The invariant of the schedule: what holds of the entries in every state.
use Rattle.std.specs.Prelude.{◌≡◌, ℕ, ◌+◌, ◌<◌, Bool, true, false, List, [], ◌∷◌, Some, None, is_some, if◌then◌else◌}
use Rattle.redo_record.specs.Paths.{IsAmong, AreDistinct}
use Rattle.redo_build.specs.Rules.{Rules, operands}
use Rattle.redo_build.specs.Outcomes.{outcome_at, needed_at}
use Rattle.redo_build.specs.Schedule.{Entry, Phase, paths_of, entry_of, outcomes_of}
use Rattle.redo_build.specs.Schedule.Phase.{Check, Script}
use Rattle.redo_build.specs.inside.Turns.{deps_at_turn, begins_at, CameTo}
use Rattle.redo_record.specs.declared.outcome.Outcome.{Outcome}

-- how many entries are decided
abbrev pub decided_count : List Entry → ℕ
decided_count [] = 0
decided_count (e ∷ es) = (if is_some e.outcome then 1 else 0) + decided_count es

-- needed at some depth
abbrev pub IsNeeded : Rules → List (List ℕ) → List ℕ → Type 0
IsNeeded r request p = (n : ℕ) × IsAmong (needed_at r request n) p

-- how a decided entry stands: a depth below the number of those decided gives its outcome and all that it
-- asked for, and so does what is decided
abbrev pub IsDecidedAs : Rules → List Entry → Entry → Outcome → Type 0
IsDecidedAs r es e o =
    (n : ℕ) × (n < decided_count es) ×
    (r.progress e.path (outcome_at r n) ≡ record { outcome = Some o; deps = e.deps }) ×
    (r.progress e.path (outcomes_of es) ≡ record { outcome = Some o; deps = e.deps })

-- whether it is the script that goes on
abbrev pub is_script : Phase → Bool
is_script Check = false
is_script Script = true

-- how often the entry has stopped, in its check and its script together
abbrev pub rounds : Entry → ℕ
rounds e = e.looks + e.turn

-- an undecided entry: its check or its script came to its turn with the outcomes decided so far
pub record IsUnderWay (r : Rules) (es : List Entry) (e : Entry) : Type 0 where
  pub came : CameTo r e.path (outcomes_of es) (rounds e)
  pub is : e.deps ≡ deps_at_turn r e.path (outcomes_of es) (rounds e)
  -- its script isn't begun after fewer than `looks` stops, and is begun after `looks` if it has stopped itself
  pub in_check : (k : ℕ) → k < e.looks → begins_at r e.path (outcomes_of es) k ≡ false
  pub begun : 0 < e.turn → begins_at r e.path (outcomes_of es) e.looks ≡ true

pub record AreStanding (r : Rules) (request : List (List ℕ)) (es : List Entry) : Type 0 where
  pub distinct : AreDistinct (paths_of es)
  pub targets : (p : List ℕ) → IsAmong (paths_of es) p → r.is_source p ≡ false
  pub needed : (p : List ℕ) → IsAmong (paths_of es) p → IsNeeded r request p
  pub closed : (p q : List ℕ) (e : Entry) → entry_of es p ≡ Some e → IsAmong (operands r e.deps) q →
      IsAmong (paths_of es) q
  pub decided : (p : List ℕ) (e : Entry) (o : Outcome) → entry_of es p ≡ Some e → e.outcome ≡ Some o →
      IsDecidedAs r es e o
  pub under_way : (p : List ℕ) (e : Entry) → entry_of es p ≡ Some e → e.outcome ≡ None → IsUnderWay r es e
