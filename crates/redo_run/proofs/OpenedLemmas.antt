-- What the board of a build that was opened says of the tree, the request and the limits.
use Rattle.std.proofs.Common.{◌≡◌, ℕ, List, Option, refl, sym, subst, ◌∙◌}
use Rattle.std.specs.Prelude.{IsNone}
use Rattle.redo_build.specs.Outcomes.{IsTooMany}
use Rattle.redo_core.specs.Views.{BoardView, IsFirstBoard, IsOpened, limit_on, request_on, rules_on}
use Rattle.redo_core.specs.declared.board.Stop.{Stop}
use Rattle.redo_core.specs.declared.board.Stop.TheVariants as stops
use Rattle.redo_past.specs.Past.{IsPast, PastView}
use Rattle.redo_report.specs.declared.report.Report.{Report}
use Rattle.redo_rules.specs.Build.{GivenView}
use Rattle.redo_rules.specs.Results.{IsGiven, IsResult, IsResultOn, NeedsTooMany}
use Rattle.redo_core.specs.Faults.{opening_fault_of as of_stop}
use Rattle.redo_core.specs.declared.opening.OpenFault.TheVariants.{Book, TooMany}
use Rattle.redo_step.specs.Limits.{LimitsView}
use Rattle.redo_tree.specs.Tree.{Tree}

-- a board that has stopped is no fault of a book
pub never_book : (stop : Stop) (n : ℕ) → Book n ≡ of_stop stop → ⊥
never_book stops.TooMany n h = cc
never_book stops.Memory n h = cc

pub stopped_at_limit : (stop : Stop) → TooMany ≡ of_stop stop → stop ≡ stops.TooMany
stopped_at_limit stops.TooMany h = refl
stopped_at_limit stops.Memory h = cc

-- a board that was just opened runs
pub runs : (b : BoardView) → IsFirstBoard b.given b → IsNone b.stopped
runs b is = let P : Option Stop → Type 0 = IsNone in subst P (sym is.stopped) refl

module _ (tree read : Tree) (same_tree : read ≡ tree) (request : List (List ℕ)) (limits : LimitsView) (first : BoardView)
    (opened_so : IsOpened read request limits first) (b : BoardView) (same : b.given ≡ first.given) where
  -- what the board is given is the tree, the request and the limits
  pub given_to : IsGiven tree request limits b.given
  given_to =
      let P : Tree → Type 0 = λ t. IsGiven t request limits first.given in
      let Q : GivenView → Type 0 = IsGiven tree request limits in
      subst Q (sym same) (subst P same_tree opened_so.given)

  -- too many targets of the board are too many of the tree
  pub too_many_of : IsTooMany (rules_on b) (request_on b) (limit_on b) → NeedsTooMany tree request limits
  too_many_of many = (b.given, given_to, many)

  -- the board's report is the tree's
  pub result_of : (result : Report) → IsResult b.given result → IsResultOn tree request limits result
  result_of result is = (b.given, given_to, is)

-- what the law of pasts says
abbrev pub OnePast : Type 0
OnePast = (past other : PastView) → IsPast past → IsPast other → past.tree ≡ other.tree → past ≡ other

-- only one thing is given the tree, the request and the limits
pub one_given : OnePast → (tree : Tree) (request : List (List ℕ)) (limits : LimitsView) (given other : GivenView) → IsGiven tree request limits given
    → IsGiven tree request limits other → given ≡ other
one_given one_past tree request limits given other is also =
    let same : given.past ≡ other.past = one_past given.past other.past is.of_tree.is_past also.of_tree.is_past (is.of_tree.of_tree ∙ sym also.of_tree.of_tree) in
    let asked = is.requested ∙ sym also.requested in let bound = is.within ∙ sym also.within in
    λ i. record { past = same i; request = asked i; limits = bound i }

-- what is said of a tree, a request and limits is said of those that are the same
module _ (P : Tree → List (List ℕ) → LimitsView → Type 0) (t u : Tree) (r s : List (List ℕ)) (l m : LimitsView) (same : (t ≡ u) × (r ≡ s) × (l ≡ m)) where
  pub of_others : P u s m → P t r l
  of_others x = subst (λ v. P t r v) (sym same.2) (subst (λ v. P t v m) (sym same.1) (subst (λ v. P v s m) (sym same.0) x))

  pub of_these : P t r l → P u s m
  of_these x = subst (λ v. P u s v) same.2 (subst (λ v. P u v l) same.1 (subst (λ v. P v r l) same.0 x))
