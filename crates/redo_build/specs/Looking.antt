-- Looks: checks that can go on do so until none can. Of these, the target that was seen first goes first.
use Rattle.std.specs.Prelude.{◌≡◌, ℕ, true, zero, suc, ◌<◌, ◌⊎◌, List, [], ◌∷◌, Option, None, find, length}
use Rattle.redo_build.specs.Rules.{Ask, Rules}
use Rattle.redo_build.specs.Schedule.{Entry, State, Event, AllOpen, is_due, handed_in, run}
use Rattle.redo_build.specs.Schedule.Event.{Take, Hand_in, Look}
use Rattle.redo_build.specs.Schedule.Phase.{Check}

-- every script is begun, whatever is known: no target is kept
abbrev pub KeepsNothing : Rules → Type 0
KeepsNothing r = (p : List ℕ) (ask : Ask) → r.begins p ask ≡ true

-- the first entry, by first sight, whose check can go on
abbrev pub first_due : Rules → State → Option Entry
first_due r s = find (is_due r s) s.entries

-- no check can go on
abbrev pub NoneDue : Rules → State → Type 0
NoneDue r s = first_due r s ≡ None

-- one look: the check of that entry goes on
abbrev pub looked_once : Rules → State → State
looked_once r s = handed_in r Check s (first_due r s)

-- the state after n looks
abbrev pub looked : Rules → ℕ → State → State
looked r zero s = s
looked r (suc n) s = looked r n (looked_once r s)

-- looks lead from s to t, where no check can go on
pub record IsLookedOut (r : Rules) (s t : State) : Type 0 where
  pub looks : ℕ
  pub is : t ≡ looked r looks s
  pub none_due : NoneDue r t

-- after some number of looks, no check can go on or more than `limit` targets have been seen
pub record Settles (r : Rules) (limit : ℕ) (s : State) : Type 0 where
  pub looks : ℕ
  pub ends : NoneDue r (looked r looks s) ⊎ (limit < length (looked r looks s).entries)

-- all of these events are looks
abbrev pub AreLooks : List Event → Type 0
AreLooks [] = Unit {0}
AreLooks (Take which ∷ events) = ⊥
AreLooks (Hand_in target turn ∷ events) = ⊥
AreLooks (Look target ∷ events) = AreLooks events

-- open looks lead from s to t
pub record IsLedOn (r : Rules) (s t : State) : Type 0 where
  pub looks : List Event
  pub are_looks : AreLooks looks
  pub all_open : AllOpen r s looks
  pub is : t ≡ run r looks s
