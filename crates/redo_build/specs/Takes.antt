-- Which targets a run takes.
use Rattle.std.specs.Prelude.{◌≡◌, ℕ, ◌≤◌, ◌⊎◌, ◌↔◌, Bool, ◌&&◌, List, [], ◌∷◌, ◌++◌, Option, Some, None, slice_get}
use Rattle.std.specs.Prelude.{option_and_then, bytes_eq, nat_eq}
use Rattle.std.specs.List.{count_by}
use Rattle.redo_record.specs.Paths.{IsAmong}
use Rattle.redo_build.specs.Rules.{Rules}
use Rattle.redo_build.specs.Schedule.{Entry, State, Event, entry_of, happens}
use Rattle.redo_build.specs.Schedule.Event.{Take, Hand_in, Look}

-- the target of an entry with its turn
abbrev pub place_of : Option Entry → List ((List ℕ) × ℕ)
place_of None = []
place_of (Some e) = (e.path, e.turn) ∷ []

-- the targets that these events take, each with its turn
abbrev pub takes : Rules → List Event → State → List ((List ℕ) × ℕ)
takes r [] s = []
takes r (Take which ∷ events) s =
    place_of (option_and_then (entry_of s.entries) (slice_get s.ready which)) ++
    takes r events (happens r s (Take which))
takes r (Hand_in target turn ∷ events) s = takes r events (happens r s (Hand_in target turn))
takes r (Look target ∷ events) s = takes r events (happens r s (Look target))

abbrev pub IsTaken : List ((List ℕ) × ℕ) → List ℕ → ℕ → Type 0
IsTaken [] p turn = ⊥
IsTaken (x ∷ xs) p turn = ((x.0 ≡ p) × (x.1 ≡ turn)) ⊎ IsTaken xs p turn

-- no pair occurs twice
abbrev pub AreOnce : List ((List ℕ) × ℕ) → Type 0
AreOnce [] = Unit {0}
AreOnce (x ∷ xs) = (IsTaken xs x.0 x.1 → ⊥) × AreOnce xs

-- whether this is the target at that turn
abbrev pub is_at : List ℕ → ℕ → (List ℕ) × ℕ → Bool
is_at p turn x = bytes_eq x.0 p && nat_eq x.1 turn

-- how often a target is taken at a turn
abbrev pub times_taken : List ((List ℕ) × ℕ) → List ℕ → ℕ → ℕ
times_taken taken p turn = count_by (is_at p turn) taken

-- each pair is counted at most once
abbrev pub AreCountedOnce : List ((List ℕ) × ℕ) → Type 0
AreCountedOnce taken = (p : List ℕ) (turn : ℕ) → times_taken taken p turn ≤ 1

-- the targets taken at turn 0 are exactly these
abbrev pub AreBegun : List ((List ℕ) × ℕ) → List (List ℕ) → Type 0
AreBegun taken begun = (p : List ℕ) → IsTaken taken p 0 ↔ IsAmong begun p
