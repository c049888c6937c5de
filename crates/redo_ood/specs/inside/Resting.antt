-- The paths that were found so far, and what they rest on.
use Rattle.std.specs.Prelude.{◌≡◌, ◌<◌, ◌⊎◌, ℕ, List, [], Option, Some, None, flat_map, if◌then◌else◌, slice_get}
use Rattle.redo_names.specs.Paths.{IsAmong}
use Rattle.redo_which.specs.Rule.{found_of, is_rule}
use Rattle.redo_book.specs.Book.{Record, record_at}
use Rattle.redo_past.specs.Past.{PastView}
use Rattle.redo_rules.specs.Build.{GivenView}
use Rattle.redo_ood.specs.Listing.{RestsOn, changed}

-- a list of paths that has grown by these: those that were there keep their numbers
pub record IsGrown (old added new : List (List ℕ)) : Type 0 where
  pub only : (p : List ℕ) → IsAmong new p → IsAmong old p ⊎ IsAmong added p
  pub more : (p : List ℕ) → IsAmong added p → IsAmong new p
  pub kept : (i : ℕ) (p : List ℕ) → slice_get old i ≡ Some p → slice_get new i ≡ Some p

-- the paths of each `change` of a record
abbrev pub changes_of : Option Record → List (List ℕ)
changes_of None = []
changes_of (Some r) = flat_map changed r.entries

-- the paths that a path rests on by its record
abbrev pub changes_in : PastView → List ℕ → List (List ℕ)
changes_in past path =
    if is_rule (found_of past.sources path) then changes_of (record_at past.book path) else []

-- these paths are requested or rested on; those that are requested are there; and the first n were followed
pub record AreFound (given : GivenView) (found : List (List ℕ)) (n : ℕ) : Type 0 where
  pub rest : (p : List ℕ) → IsAmong found p → RestsOn given p
  pub requested : (p : List ℕ) → IsAmong given.request p → IsAmong found p
  pub followed : (i : ℕ) (p q : List ℕ) → i < n → slice_get found i ≡ Some p →
      IsAmong (changes_in given.past p) q → IsAmong found q
