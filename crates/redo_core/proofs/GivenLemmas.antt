-- What a build is given: one value for each tree, request and limits.
use Rattle.std.proofs.Common.{◌≡◌, ℕ, List, refl, sym, subst}
use Rattle.redo_core.specs.Faults.{opening_fault_of}
use Rattle.redo_core.specs.declared.board.Stop.{Stop}
use Rattle.redo_core.specs.declared.board.Stop.TheVariants as stops
use Rattle.redo_core.specs.declared.opening.OpenFault.TheVariants as faults
use Rattle.redo_past.specs.Past.{IsPast, PastView}
use Rattle.redo_rules.specs.Build.{GivenView}
use Rattle.redo_rules.specs.Results.{IsGiven}
use Rattle.redo_step.specs.Limits.{LimitsView}
use Rattle.redo_tree.specs.Tree.{Tree}

-- a board that has stopped is no fault of a book
pub no-book : (stop : Stop) (n : ℕ) → faults.Book n ≡ opening_fault_of stop → ⊥
no-book stops.TooMany n h = cc
no-book stops.Memory n h = cc

pub at-limit : (stop : Stop) → faults.TooMany ≡ opening_fault_of stop → stop ≡ stops.TooMany
at-limit stops.TooMany h = refl
at-limit stops.Memory h = cc

-- a tree that was taken apart, a request and limits are given
pub given-of : (tree : Tree) (request : List (List ℕ)) (limits : LimitsView) (past : PastView) → IsPast past → past.tree ≡ tree →
    (given : GivenView) → given ≡ record { past = past; request = request; limits = limits } → IsGiven tree request limits given
given-of tree request limits past is_past of_tree given is =
    let P : GivenView → Type 0 = IsGiven tree request limits in
    subst P (sym is) (record { of_tree = record { is_past = is_past; of_tree = of_tree }; requested = refl; within = refl })

-- what is given the tree, the request and the limits of another is that other, as a tree has one past
pub given-same : ((past other : PastView) → IsPast past → IsPast other → past.tree ≡ other.tree → past ≡ other) →
    (given other : GivenView) → IsPast other.past → IsGiven other.past.tree other.request other.limits given → given ≡ other
given-same one_past given other is_past is = λ i. record {
  past = one_past given.past other.past is.of_tree.is_past is_past is.of_tree.of_tree i;
  request = is.requested i;
  limits = is.within i;
}
