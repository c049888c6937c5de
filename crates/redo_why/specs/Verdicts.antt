-- Whether the next run keeps a target, as far as its record, the tree and the book tell before any script runs.
use Rattle.std.specs.Prelude.{◌≡◌, ℕ, zero, suc, Bool, true, false, List, [], ◌∷◌, Option, Some, None}
use Rattle.std.specs.Prelude.{if◌then◌else◌}
use Rattle.redo_digest.specs.Digest.{State, state_of}
use Rattle.redo_book.specs.declared.book.BookEntry.{BookEntry}
use Rattle.redo_book.specs.declared.book.BookEntry.TheVariants.{Change, Create, Always}
use Rattle.redo_skip.specs.Sources.{Sources}
use Rattle.redo_skip.specs.Checks.{Check, Checks, has_state, is_asked, same_state, source_file}

-- what is known of a target in check
pub data Verdict : Type 0 where
  -- it is kept
  Keeps : Verdict
  -- its script is begun
  Begins : Verdict
  -- one or the other: that hangs on what a script comes to
  Either : Verdict

-- the verdicts on targets in check, as far as they are known
abbrev pub Verdicts : Type 0
Verdicts = List ℕ → Option Verdict

-- what is known of a recorded entry
pub data Mark : Type 0 where
  -- it stands when its target is checked
  Holds : Mark
  -- it falls
  Drops : Mark
  -- it stands or falls: that hangs on what a script comes to
  Unsure : Mark
  -- the target at its path is in check, and has no verdict yet
  Waits : Mark

abbrev pub holds_if : Bool → Mark
holds_if true = Holds
holds_if false = Drops

-- of a path whose target is in check, by its verdict: where that is kept, its file has the recorded state or hasn't
abbrev pub mark_checked : Bool → Option Verdict → Mark
mark_checked same None = Waits
mark_checked same (Some Keeps) = holds_if same
mark_checked same (Some Begins) = Unsure
mark_checked same (Some Either) = Unsure

-- of a path that is asked for: without a rule it fails; with one, but not in check, its script is begun
abbrev pub mark_asked : Bool → State → Option Check → Option Verdict → Mark
mark_asked ruled state None verdict = if ruled then Unsure else Drops
mark_asked ruled state (Some c) verdict = mark_checked (same_state (state_of c.file) state) verdict

-- what is known of an entry, by the verdicts on other targets
abbrev pub mark : Sources → Checks → Verdicts → BookEntry → Mark
mark s k v (Change state q) =
    if is_asked s q then mark_asked (s.has_rule q) state (k q) (v q) else holds_if (has_state state (source_file s q))
mark s k v (Create q) = holds_if (s.is_free q)
mark s k v Always = Drops

-- the verdict by the mark of one entry, and by the further entries where that one holds
abbrev pub verdict_by : Mark → Option Verdict → Option Verdict
verdict_by Holds rest = rest
verdict_by Drops rest = Some Begins
verdict_by Unsure rest = Some Either
verdict_by Waits rest = None

-- the verdict by recorded entries, in order up to the first that isn't known to hold
abbrev pub verdict : Sources → Checks → Verdicts → List BookEntry → Option Verdict
verdict s k v [] = Some Keeps
verdict s k v (e ∷ es) = verdict_by (mark s k v e) (verdict s k v es)

-- the verdict on a target, if it is in check
abbrev pub verdict_checked : Sources → Checks → Verdicts → Option Check → Option Verdict
verdict_checked s k v None = None
verdict_checked s k v (Some c) = verdict s k v c.entries

-- the verdicts by records that are at most n deep: each rests on those at n - 1
abbrev pub verdict_at : Sources → Checks → ℕ → Verdicts
verdict_at s k zero p = None
verdict_at s k (suc n) p = verdict_checked s k (verdict_at s k n) (k p)

-- What code computes

-- each verdict follows from the others
abbrev pub AreFixed : Sources → Checks → Verdicts → Type 0
AreFixed s k v = (p : List ℕ) → v p ≡ verdict_checked s k v (k p)

-- each verdict is one at some depth
abbrev pub AreReached : Sources → Checks → Verdicts → Type 0
AreReached s k v = (p : List ℕ) (x : Verdict) → v p ≡ Some x → (n : ℕ) × (verdict_at s k n p ≡ Some x)
