-- The build, as a recursion on depth over all paths at once.
use Rattle.std.specs.Prelude.{◌≡◌, ℕ, zero, suc, ◌<◌, ◌≤◌, not, List, [], Option, Some, None, if◌then◌else◌, length}
use Rattle.std.specs.Prelude.{filter, flat_map, unwrap_or}
use Rattle.redo_record.specs.Paths.{with_new, IsAmong}
use Rattle.redo_build.specs.Rules.{Rules, asked_under}
use Rattle.redo_record.specs.declared.deps.Dep.{Dep}
use Rattle.redo_record.specs.declared.outcome.Outcome.{Outcome}
use Rattle.redo_record.specs.declared.outcome.Outcome.TheVariants.{Source, Cyclic}

-- the outcome of a path in a build at most n deep, if it has one there
abbrev pub outcome_at : Rules → ℕ → List ℕ → Option Outcome
outcome_at r zero p = if r.is_source p then Some Source else None
outcome_at r (suc n) p = if r.is_source p then Some Source else (r.progress p (outcome_at r n)).outcome

-- what a target asks for, given the outcomes at depth n
abbrev pub asked_at : Rules → ℕ → List ℕ → List (List ℕ)
asked_at r n p = asked_under r p (outcome_at r n)

-- the requested paths that aren't sources, each once
abbrev pub requested_targets : Rules → List (List ℕ) → List (List ℕ)
requested_targets r request = with_new [] (filter (λ p. not (r.is_source p)) request)

-- the paths reached from the requested targets in at most `steps` steps of asking, at depth n
abbrev pub reached_in : Rules → List (List ℕ) → ℕ → ℕ → List (List ℕ)
reached_in r request n zero = requested_targets r request
reached_in r request n (suc steps) =
    let before = reached_in r request n steps in with_new before (flat_map (asked_at r n) before)

-- the targets needed at depth n
abbrev pub needed_at : Rules → List (List ℕ) → ℕ → List (List ℕ)
needed_at r request n = reached_in r request n n

-- more than `limit` targets are needed
abbrev pub IsTooMany : Rules → List (List ℕ) → ℕ → Type 0
IsTooMany r request limit = limit < length (needed_at r request limit)

-- what becomes of a target: without an outcome at depth `limit` it is cyclic
abbrev pub final_outcome : Rules → ℕ → List ℕ → Outcome
final_outcome r limit p = unwrap_or (outcome_at r limit p) Cyclic

-- everything that a target asked for
abbrev pub declared_of : Rules → ℕ → List ℕ → List Dep
declared_of r limit p = (r.progress p (outcome_at r limit)).deps

-- the record of a target
abbrev pub record_of : Rules → ℕ → List ℕ → List Dep
record_of r limit p = r.recorded p (outcome_at r limit)

-- depth `limit` is enough: a greater one changes nothing for the needed targets
pub record IsSettled (r : Rules) (request : List (List ℕ)) (limit : ℕ) : Type 0 where
  pub closed : (n : ℕ) (p q : List ℕ) → IsAmong (needed_at r request limit) p →
      IsAmong (asked_at r n p) q → IsAmong (needed_at r request limit) q
  pub same : (n : ℕ) (p : List ℕ) → limit ≤ n → IsAmong (needed_at r request limit) p →
      outcome_at r n p ≡ outcome_at r limit p
