-- An order of a build, by indices: which ready target is taken next, and which of the jobs that are out is handed in.
-- The board's own looks, at the opening and after each piece, are no part of it.
use Rattle.std.specs.Prelude.{◌≡◌, ℕ, ◌+◌, List, [], ◌∷◌, ◌++◌, Option, None, MatchOption, slice_get, remove, map}
use Rattle.std.specs.Prelude.{option_map}
use Rattle.redo_rules.specs.Build.{GivenView, rules_for}
use Rattle.redo_rules.specs.Results.{IsGiven}
use Rattle.redo_build.specs.Looking.{IsLookedOut}
use Rattle.redo_build.specs.Rules.{Rules}
use Rattle.redo_build.specs.Schedule.{State, entry_of, happens, handed_in, opening}
use Rattle.redo_build.specs.Schedule.Event.{Take}
use Rattle.redo_build.specs.Schedule.Phase.{Script}
use Rattle.redo_core.specs.Views.{BoardView, WorkView}
use Rattle.redo_tree.specs.Tree.{Tree}
use Rattle.redo_run.specs.declared.picks.Pick.{Pick}
use Rattle.redo_run.specs.declared.picks.Pick.TheVariants.{Take as TakeAt, HandIn as HandInAt}
use Rattle.redo_step.specs.Limits.{LimitsView}

-- a state, with the targets that are out in the order of taking
pub record Driven : Type 0 where
  pub state : State
  pub out : List (List ℕ)

-- the target at an index is taken, and is out behind the others
abbrev pub with_taken : Rules → Driven → ℕ → List ℕ → Driven
with_taken r d which target = record { state = happens r d.state (Take which); out = d.out ++ target ∷ [] }

-- the job of the target at an index is handed in
abbrev pub with_handed_in : Rules → Driven → ℕ → List ℕ → Driven
with_handed_in r d which target =
    record { state = handed_in r Script d.state (entry_of d.state.entries target); out = remove d.out which }

-- what a pick leads to, before the board looks; none if it isn't open
abbrev pub picked : Rules → Driven → Pick → Option Driven
picked r d (TakeAt which) = option_map (with_taken r d which) (slice_get d.state.ready which)
picked r d (HandInAt which) = option_map (with_handed_in r d which) (slice_get d.out which)

-- the second is the first after looks until no check can go on
pub record IsLookedAt (r : Rules) (d next : Driven) : Type 0 where
  pub looked : IsLookedOut r d.state next.state
  pub out : next.out ≡ d.out

-- after a take the board doesn't look; after a piece it looks until no check can go on
abbrev pub IsBehind : Rules → Pick → Driven → Driven → Type 0
IsBehind r (TakeAt which) d next = next ≡ d
IsBehind r (HandInAt which) d next = IsLookedAt r d next

-- the picks lead to this end, up to the first that isn't open, and exactly `done` of them are done
abbrev pub IsDrivenTo : Rules → List Pick → Driven → Driven → ℕ → Type 0
IsDrivenTo r [] d end done = (end ≡ d) × (done ≡ 0)
IsDrivenTo r (pick ∷ picks) d end done =
    MatchOption (picked r d pick) ((end ≡ d) × (done ≡ 0)) (λ at.
    (next : Driven) × IsBehind r pick at next × ((left : ℕ) × IsDrivenTo r picks next end left × (done ≡ left + 1)))

-- the opening, before the board looks; nothing is out
abbrev pub at_opening : GivenView → Driven
at_opening given = record { state = opening (rules_for given) given.request; out = [] }

-- the board is the one that the picks lead to, up to the first that isn't open, in a build that is given this
pub record IsDrivenOver (given : GivenView) (picks : List Pick) (board : BoardView) (done : ℕ) : Type 0 where
  pub first : Driven
  pub opened : IsLookedAt (rules_for given) (at_opening given) first
  pub end : Driven
  pub led : IsDrivenTo (rules_for given) picks first end done
  pub is : board ≡ record { given = given; state = end.state; stopped = None }

-- the same for a tree, a request and limits
abbrev pub IsDriven : Tree → List (List ℕ) → LimitsView → List Pick → BoardView → ℕ → Type 0
IsDriven tree request limits picks board done =
    (given : GivenView) × IsGiven tree request limits given × IsDrivenOver given picks board done

abbrev pub targets_of : List WorkView → List (List ℕ)
targets_of works = map (λ w. w.target) works

-- a board's state, with the targets of the works that are out
abbrev pub driven_on : BoardView → List WorkView → Driven
driven_on board works = record { state = board.state; out = targets_of works }
