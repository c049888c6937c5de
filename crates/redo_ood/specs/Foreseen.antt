-- What a list says of its run, and what no list can know of it.
use Rattle.std.specs.Prelude.{◌≡◌, ◌⊎◌, ◌≤◌, ℕ, Bool, true, false, List, [], ◌∷◌, Some, flat_map, length, map}
use Rattle.redo_names.specs.Paths.{IsAmong}
use Rattle.redo_book.specs.Book.{Record, record_at}
use Rattle.redo_build.specs.Outcomes.{needed_at, outcome_at}
use Rattle.redo_build.specs.Rules.{Ask, asked_under}
use Rattle.redo_skip.specs.Truth.{IsBegun}
use Rattle.redo_list.specs.Lists.{ListedView}
use Rattle.redo_list.specs.declared.listed.State.{State}
use Rattle.redo_list.specs.declared.listed.State.TheVariants.{Stale, Maybe, Ring, Lost, New, Unknown}
use Rattle.redo_rules.specs.Build.{GivenView, plain_rules_for, rules_for}
use Rattle.redo_rules.specs.TreeSources.{HasHonestBook}
use Rattle.redo_ood.specs.Listing.{RestsOn, changed}

-- What a list says

-- in this state a run that needs the target begins its script, or may
abbrev pub is_open : State → Bool
is_open Stale = true
is_open Maybe = true
is_open Ring = false
is_open Lost = false
is_open New = true
is_open Unknown = false

abbrev pub is_ring : State → Bool
is_ring Stale = false
is_ring Maybe = false
is_ring Ring = true
is_ring Lost = false
is_ring New = false
is_ring Unknown = false

abbrev pub is_new : State → Bool
is_new Stale = false
is_new Maybe = false
is_new Ring = false
is_new Lost = false
is_new New = true
is_new Unknown = false

abbrev pub is_unknown : State → Bool
is_unknown Stale = false
is_unknown Maybe = false
is_unknown Ring = false
is_unknown Lost = false
is_unknown New = false
is_unknown Unknown = true

-- a path is listed, in such a state
abbrev pub IsListedAs : List ListedView → List ℕ → (State → Bool) → Type 0
IsListedAs [] path is = ⊥
IsListedAs (it ∷ its) path is = ((it.target ≡ path) × (is it.state ≡ true)) ⊎ IsListedAs its path is

-- a path is listed
abbrev pub IsListed : List ListedView → List ℕ → Type 0
IsListed listed path = IsAmong (map (λ it. it.target) listed) path

-- What no list can know

-- what each path came to in the end of a run
abbrev pub end_for : GivenView → Ask
end_for given = outcome_at (rules_for given) given.limits.targets

-- the run needs a target
abbrev pub IsNeededIn : GivenView → List ℕ → Type 0
IsNeededIn given path = IsAmong (needed_at (rules_for given) given.request given.limits.targets) path

-- the run begins the script of a target, and that asks for a path which the target's record doesn't name
pub record IsFirstAsked (given : GivenView) (target path : List ℕ) : Type 0 where
  pub begun : IsBegun (rules_for given) given.request given.limits.targets target
  pub asked : IsAmong (asked_under (plain_rules_for given) target (end_for given)) path
  pub unnamed : (r : Record) → record_at given.past.book target ≡ Some r → IsAmong (flat_map changed r.entries) path → ⊥

-- a script that is begun, of a target that the request rests on, is the first to ask for the path, or for one that leads
-- to it in the run
pub data IsUnforeseen (given : GivenView) : List ℕ → Type 0 where
  First : {target path : List ℕ} → RestsOn given target → IsFirstAsked given target path → IsUnforeseen given path
  Behind : {target path : List ℕ} → IsUnforeseen given target →
      IsAmong (asked_under (rules_for given) target (end_for given)) path → IsUnforeseen given path

-- the book is honest, and the build without it keeps to the limit
pub record IsHonestGiven (given : GivenView) : Type 0 where
  pub few : length (needed_at (plain_rules_for given) given.request given.limits.targets) ≤ given.limits.targets
  pub honest : HasHonestBook given
